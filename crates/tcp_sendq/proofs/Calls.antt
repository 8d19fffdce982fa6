-- The queue after each call, where a table gives the marks.
use Rattle.std.proofs.Common.{◌≡◌, ℕ, ◌+◌, ◌-◌, ◌<◌, ◌≤◌, Bool, true, false, if◌then◌else◌, nat_le, List, [], ◌++◌, length, take, drop, replicate, refl, inl, inr, sym, ap, subst, ◌∙◌, arith, length-append, length-take, length-drop}
use Rattle.std.proofs.lemmas.Bool.{cases_lt, leb-true, le-leb}
use Rattle.std.specs.Prelude.{Option, Some, None, unwrap_or, ◌↔◌, ◌⊎◌, IsTrue, IsNone, IfSome, slice_get}
use Rattle.tcp_sendq.proofs.Runs.{runs_begun_is}
use Rattle.tcp_sendq.proofs.Places.{marks_with-only, marks_with-all, next_some, next_none, is_next_unmarked, all_marked, not_all_marked, last_some, last_none, is_last_mark_end, none_marked, not_none_marked}
use Rattle.tcp_sendq.proofs.Lookups.{last_end_is, first_unmarked_is, uncovered_first, next_start_is}
use Rattle.tcp_sendq.specs.declared.marks.Interval.{Interval}
use Rattle.tcp_sendq.specs.SendQueue.{Queue, IsQueue, count_taken, after_offer, after_release, after_mark, without_marks, can_mark, marks_with, count_runs, runs_begun, IsMarked, last_mark_end, end_of_marks, IsLastMarkEnd, NoneMarkedFrom, next_unmarked, first_unmarked, count_leading, IsNextUnmarked, AllMarkedFrom}
use Rattle.tcp_sendq.specs.Marks.{interval, marks_of, queue_of, IsTable, IsKept, moved_down, joined, last_end, first_uncovered, next_start}
use Rattle.tcp_sendq.proofs.Intervals.{marks_of-more, marks_of-moved_down, marks_of-joined, IsTableFrom-wider, IsTableFrom-moved_down, IsTableFrom-joined, count_runs-marks_of}
use Rattle.tcp_sendq.proofs.Kept.{IsQueue-after_offer, IsQueue-after_release, IsQueue-after_mark, IsQueue-without_marks}

-- after a call the queue is this one, and its invariant holds
pub record Leaves (after : Queue) (most capacity : ℕ) (bytes : List ℕ) (table : List Interval) : Type 0 where
  pub state : queue_of most capacity bytes table ≡ after
  pub kept : IsKept most capacity bytes table

pub leaves : (after : Queue) (most capacity : ℕ) (bytes : List ℕ) (table : List Interval) → queue_of most capacity bytes table ≡ after → IsQueue after → IsTable (length bytes) table → Leaves after most capacity bytes table
leaves after most capacity bytes table state sound in_order = record {
  state = state;
  kept = record { sound = subst IsQueue (sym state) sound; in_order = in_order };
}

pub offered : {most capacity : ℕ} {bytes : List ℕ} {table : List Interval} (text : List ℕ) → IsKept most capacity bytes table
    → Leaves (after_offer (queue_of most capacity bytes table) text) most capacity (bytes ++ take (count_taken (queue_of most capacity bytes table) text) text) table
offered {most} {capacity} {bytes} {table} text old =
    let q = queue_of most capacity bytes table in
    let more : List ℕ = bytes ++ take (count_taken q text) text in
    let longer : length more ≡ length bytes + count_taken q text = omega (arith, length-append bytes (take (count_taken q text) text), length-take (count_taken q text) text) in
    let marks : marks_of table (length more) ≡ marks_of table (length bytes) ++ replicate (count_taken q text) false =
    ap (marks_of table) longer ∙ marks_of-more table (length bytes) (count_taken q text) old.in_order in
    leaves (after_offer q text) most capacity more table (ap (λ marks. record { capacity = capacity; most_runs = most; bytes = more; marks = marks }) marks) (IsQueue-after_offer text old.sound)
    (IsTableFrom-wider 0 (length bytes) 0 (length more) table (omega arith) (omega arith) old.in_order)

pub released : {most capacity : ℕ} {bytes : List ℕ} {table : List Interval} (n : ℕ) → n ≤ length bytes → IsKept most capacity bytes table
    → Leaves (after_release (queue_of most capacity bytes table) n) most capacity (drop n bytes) (moved_down n table)
released {most} {capacity} {bytes} {table} n within old =
    let q = queue_of most capacity bytes table in
    let marks : marks_of (moved_down n table) (length (drop n bytes)) ≡ drop n (marks_of table (length bytes)) =
    ap (marks_of (moved_down n table)) (length-drop n bytes) ∙ marks_of-moved_down table (length bytes) n within in
    leaves (after_release q n) most capacity (drop n bytes) (moved_down n table) (ap (λ marks. record { capacity = capacity; most_runs = most; bytes = drop n bytes; marks = marks }) marks)
    (IsQueue-after_release n old.sound)
    (IsTableFrom-wider (0 - n) (length bytes - n) 0 (length (drop n bytes)) (moved_down n table) (omega arith) (omega (arith, length-drop n bytes)) (IsTableFrom-moved_down n 0 (length bytes) table old.in_order))

pub unmarked : {most capacity : ℕ} {bytes : List ℕ} {table : List Interval} → IsKept most capacity bytes table
    → Leaves (without_marks (queue_of most capacity bytes table)) most capacity bytes []
unfolding without_marks
unmarked {most} {capacity} {bytes} {table} old =
    let q = queue_of most capacity bytes table in
    let all : length bytes ≡ 0 + length bytes = omega arith in
    let none : marks_of [] (length bytes) ≡ replicate (length bytes) false = ap (marks_of []) all ∙ marks_of-more [] 0 (length bytes) tt in
    leaves (without_marks q) most capacity bytes [] (ap (λ marks. record { capacity = capacity; most_runs = most; bytes = bytes; marks = marks }) none) (IsQueue-without_marks old.sound) tt

-- the runs of the marks with another part are the intervals of the table with it
pub count_runs-joined : (table : List Interval) (count from to : ℕ) → from < to → to ≤ count → IsTable count table
    → count_runs false (marks_with from to (marks_of table count)) ≡ length (joined (interval from to) table)
count_runs-joined table count from to ordered within h =
    ap (count_runs false) (sym (marks_of-joined table count from to ordered within h))
    ∙ count_runs-marks_of (joined (interval from to) table) count (IsTableFrom-joined 0 count (interval from to) table (omega arith) ordered within h)

pub can_mark-queue_of : (most capacity : ℕ) (bytes : List ℕ) (table : List Interval) (from to : ℕ) → from < to → to ≤ length bytes → IsKept most capacity bytes table
    → can_mark (queue_of most capacity bytes table) from to ≡ nat_le (length (joined (interval from to) table)) most
unfolding can_mark
can_mark-queue_of most capacity bytes table from to ordered within old =
    ap (λ runs. nat_le runs most) (count_runs-joined table (length bytes) from to ordered within old.in_order)

marked_cases : (most capacity : ℕ) (bytes : List ℕ) (table : List Interval) (from to : ℕ) (few : Bool) (after : Queue) → from < to → to ≤ length bytes → IsKept most capacity bytes table → IsQueue after
    → after ≡ record { capacity = capacity; most_runs = most; bytes = bytes; marks = if few then marks_with from to (marks_of table (length bytes)) else marks_of table (length bytes) }
    → Leaves after most capacity bytes (if few then joined (interval from to) table else table)
marked_cases most capacity bytes table from to true after ordered within old sound is =
    leaves after most capacity bytes (joined (interval from to) table)
    (ap (λ marks. record { capacity = capacity; most_runs = most; bytes = bytes; marks = marks }) (marks_of-joined table (length bytes) from to ordered within old.in_order) ∙ sym is) sound
    (IsTableFrom-joined 0 (length bytes) (interval from to) table (omega arith) ordered within old.in_order)
marked_cases most capacity bytes table from to false after ordered within old sound is = leaves after most capacity bytes table (sym is) sound old.in_order

pub marked : {most capacity : ℕ} {bytes : List ℕ} {table : List Interval} (from to : ℕ) (few : Bool) → from < to → to ≤ length bytes → IsKept most capacity bytes table
    → few ≡ nat_le (length (joined (interval from to) table)) most
    → Leaves (after_mark (queue_of most capacity bytes table) from to) most capacity bytes (if few then joined (interval from to) table else table)
unfolding after_mark
marked {most} {capacity} {bytes} {table} from to few ordered within old is =
    let q = queue_of most capacity bytes table in
    let sound : IsQueue (after_mark q from to) = IsQueue-after_mark from to (omega arith) within old.sound in
    let can : can_mark q from to ≡ few = can_mark-queue_of most capacity bytes table from to ordered within old ∙ sym is in
    let after : after_mark q from to ≡ record { capacity = capacity; most_runs = most; bytes = bytes; marks = if few then marks_with from to q.marks else q.marks } =
    ap (λ b. record { capacity = capacity; most_runs = most; bytes = bytes; marks = if b then marks_with from to q.marks else q.marks }) can in
    marked_cases most capacity bytes table from to few (after_mark q from to) ordered within old sound after

-- ---- what the calls return

pub marked_runs : (q : Queue) (from to : ℕ) (few : Bool) → few ≡ can_mark q from to → IsTrue few ↔ (runs_begun (marks_with from to q.marks) ≤ q.most_runs)
unfolding can_mark
marked_runs q from to few is =
    let more : List Bool = marks_with from to q.marks in (
      λ holds. omega (arith, runs_begun_is more, leb-true (count_runs false more) q.most_runs (sym is ∙ holds)),
      λ holds. is ∙ le-leb (count_runs false more) q.most_runs (omega (arith, runs_begun_is more)),
    )

pub marked_places : (before after : Queue) (from to : ℕ) (few : Bool) → after ≡ after_mark before from to → few ≡ can_mark before from to → from < to → to ≤ length before.bytes → IsQueue before
    → IsTrue few → (place : ℕ) → IsMarked after place ↔ (IsMarked before place ⊎ ((from ≤ place) × (place < to)))
unfolding after_mark
marked_places before after from to few is can ordered within sound holds place =
    let marks : after.marks ≡ marks_with from to before.marks =
    ap (λ q. q.marks) is ∙ ap (λ b. if b then marks_with from to before.marks else before.marks) (sym can ∙ holds) in
    let flags : to ≤ length before.marks = omega (arith, sound.flags) in (
      λ now. marks_with-only from to before.marks place (omega arith) flags (ap (λ all. slice_get all place) (sym marks) ∙ now),
      λ either. ap (λ all. slice_get all place) marks ∙ marks_with-all from to before.marks place (omega arith) flags either,
    )

pub last_mark_end-queue_of : (most capacity : ℕ) (bytes : List ℕ) (table : List Interval) → IsKept most capacity bytes table → last_end table ≡ last_mark_end (queue_of most capacity bytes table)
unfolding last_mark_end
last_mark_end-queue_of most capacity bytes table old = last_end_is table (length bytes) old.in_order

pub last_mark_end-last : (q : Queue) (last : Option ℕ) → IsQueue q → last ≡ last_mark_end q → IfSome last (IsLastMarkEnd q)
last_mark_end-last q last sound is = elim (cases_lt 0 (end_of_marks q.marks)) [
  | inl some ↦ subst (λ answer. IfSome answer (IsLastMarkEnd q)) (sym (is ∙ last_some q some)) (is_last_mark_end q sound.flags some)
  | inr none ↦ subst (λ answer. IfSome answer (IsLastMarkEnd q)) (sym (is ∙ last_none q (omega arith))) tt
]

pub last_mark_end-none : (q : Queue) (last : Option ℕ) → IsQueue q → last ≡ last_mark_end q → IsNone last ↔ NoneMarkedFrom q 0
last_mark_end-none q last sound is = elim (cases_lt 0 (end_of_marks q.marks)) [
  | inl some ↦ subst (λ answer. IsNone answer ↔ NoneMarkedFrom q 0) (sym (is ∙ last_some q some)) (λ never. cc, λ none. absurd (not_none_marked q sound.flags some none))
  | inr none ↦ subst (λ answer. IsNone answer ↔ NoneMarkedFrom q 0) (sym (is ∙ last_none q (omega arith))) (λ _. none_marked q sound.flags (omega arith), λ _. refl)
]

pub next_unmarked-queue_of_none : (most capacity : ℕ) (bytes : List ℕ) (table : List Interval) (at : ℕ) → IsKept most capacity bytes table → length bytes ≤ first_uncovered at table
    → None ≡ next_unmarked (queue_of most capacity bytes table) at
next_unmarked-queue_of_none most capacity bytes table at old past =
    let q = queue_of most capacity bytes table in
    let first : first_unmarked q at ≡ first_uncovered at table = first_unmarked_is table (length bytes) at old.in_order in
    sym (next_none q at (omega (arith, old.sound.flags)))

pub next_unmarked-queue_of_some : (most capacity : ℕ) (bytes : List ℕ) (table : List Interval) (at : ℕ) → IsKept most capacity bytes table → first_uncovered at table < length bytes
    → Some (first_uncovered at table, unwrap_or (next_start (first_uncovered at table) table) (length bytes)) ≡ next_unmarked (queue_of most capacity bytes table) at
next_unmarked-queue_of_some most capacity bytes table at old within =
    let q = queue_of most capacity bytes table in
    let first : first_unmarked q at ≡ first_uncovered at table = first_unmarked_is table (length bytes) at old.in_order in
    let next : first_uncovered at table + count_leading false (drop (first_uncovered at table) q.marks) ≡ unwrap_or (next_start (first_uncovered at table) table) (length bytes) =
    next_start_is table (length bytes) (first_uncovered at table) old.in_order within (uncovered_first table (length bytes) at old.in_order) in
    ap (λ end. Some (first_uncovered at table, end)) (sym next)
    ∙ (ap (λ from. Some (from, from + count_leading false (drop from q.marks))) (sym first) ∙ sym (next_some q at (omega (arith, old.sound.flags))))

pub next_unmarked-first : (q : Queue) (at : ℕ) (next : Option (ℕ × ℕ)) → IsQueue q → next ≡ next_unmarked q at → IfSome next (IsNextUnmarked q at)
next_unmarked-first q at next sound is = elim (cases_lt (first_unmarked q at) (length q.marks)) [
  | inl some ↦ subst (λ answer. IfSome answer (IsNextUnmarked q at)) (sym (is ∙ next_some q at some)) (is_next_unmarked q at sound.flags some)
  | inr none ↦ subst (λ answer. IfSome answer (IsNextUnmarked q at)) (sym (is ∙ next_none q at none)) tt
]

pub next_unmarked-none : (q : Queue) (at : ℕ) (next : Option (ℕ × ℕ)) → IsQueue q → next ≡ next_unmarked q at → IsNone next ↔ AllMarkedFrom q at
next_unmarked-none q at next sound is = elim (cases_lt (first_unmarked q at) (length q.marks)) [
  | inl some ↦ subst (λ answer. IsNone answer ↔ AllMarkedFrom q at) (sym (is ∙ next_some q at some)) (λ never. cc, λ all. absurd (not_all_marked q at sound.flags some all))
  | inr none ↦ subst (λ answer. IsNone answer ↔ AllMarkedFrom q at) (sym (is ∙ next_none q at none)) (λ _. all_marked q at sound.flags none, λ _. refl)
]
