-- The invariant of a queue is kept from call to call.
use Rattle.std.proofs.Common.{◌≡◌, ℕ, ◌≤◌, Bool, true, false, if◌then◌else◌, nat_le, List, refl, length, take, replicate, ◌∙◌, arith, length-append, length-take, length-drop}
use Rattle.std.proofs.lemmas.List.{length-replicate}
use Rattle.std.proofs.lemmas.Bool.Decides.{nat_tests}
use Rattle.tcp_sendq.specs.SendQueue.{Queue, IsQueue, count_taken, after_offer, after_release, after_mark, without_marks, can_mark, marks_with, count_runs}
use Rattle.tcp_sendq.proofs.Runs.{count_runs-drop, count_runs-after_offer, count_runs-unmarked}

pub IsQueue-after_offer : {q : Queue} (text : List ℕ) → IsQueue q → IsQueue (after_offer q text)
IsQueue-after_offer {q} text old = record {
  least = old.least;
  most = old.most;
  within = omega (arith, old.within, length-append q.bytes (take (count_taken q text) text), length-take (count_taken q text) text);
  flags = omega (arith, old.flags, length-append q.bytes (take (count_taken q text) text), length-take (count_taken q text) text, length-append q.marks (replicate (count_taken q text) false), length-replicate (count_taken q text) false);
  least_runs = old.least_runs;
  most_of_runs = old.most_of_runs;
  few_runs = omega (arith, old.few_runs, count_runs-after_offer q.marks (count_taken q text));
}

pub IsQueue-after_release : {q : Queue} (n : ℕ) → IsQueue q → IsQueue (after_release q n)
IsQueue-after_release {q} n old = record {
  least = old.least;
  most = old.most;
  within = omega (arith, old.within, length-drop n q.bytes);
  flags = omega (arith, old.flags, length-drop n q.bytes, length-drop n q.marks);
  least_runs = old.least_runs;
  most_of_runs = old.most_of_runs;
  few_runs = omega (arith, old.few_runs, count_runs-drop n q.marks);
}

-- a part that is marked changes no length
pub length-marks_with : (from to : ℕ) (marks : List Bool) → from ≤ to → to ≤ length marks → length (marks_with from to marks) ≡ length marks
length-marks_with from to marks ordered within =
    simp (length-append, length-take, length-drop, length-replicate) (omega arith)

either : (b : Bool) (P : List Bool → Type 0) (xs ys : List Bool) → (b ≡ true → P xs) → P ys → P (if b then xs else ys)
either true P xs ys holds other = holds refl
either false P xs ys holds other = other

pub IsQueue-after_mark : {q : Queue} (from to : ℕ) → from ≤ to → to ≤ length q.bytes → IsQueue q → IsQueue (after_mark q from to)
unfolding after_mark can_mark
IsQueue-after_mark {q} from to ordered within old =
    let more : List Bool = marks_with from to q.marks in
    let few : Bool = nat_le (count_runs false more) q.most_runs in
    let flags : length more ≡ length q.bytes =
    length-marks_with from to q.marks ordered (omega (arith, old.flags)) ∙ old.flags in
    record {
      least = old.least;
      most = old.most;
      within = old.within;
      flags = either few (λ marks. length marks ≡ length q.bytes) more q.marks (λ _. flags) old.flags;
      least_runs = old.least_runs;
      most_of_runs = old.most_of_runs;
      few_runs = either few (λ marks. count_runs false marks ≤ q.most_runs) more q.marks (λ h. grind (arith, nat_tests)) old.few_runs;
    }

pub IsQueue-without_marks : {q : Queue} → IsQueue q → IsQueue (without_marks q)
unfolding without_marks
IsQueue-without_marks {q} old = record {
  least = old.least;
  most = old.most;
  within = old.within;
  flags = length-replicate (length q.bytes) false;
  least_runs = old.least_runs;
  most_of_runs = old.most_of_runs;
  few_runs = omega (arith, count_runs-unmarked false (length q.bytes));
}
