-- The runs by stamp are the same runs with falling stamps.
use Rattle.std.proofs.Common.{◌≡◌, ℕ, ◌≤◌, List, [], ◌∷◌, refl, arith}
use Rattle.std.specs.Prelude.{Bool, true, false, nat_lt, if◌then◌else◌}
use Rattle.std.specs.List.{AllByRecursion}
use Rattle.std.specs.List.Sorted.{IsPermutation}
use Rattle.std.proofs.lemmas.Bool.Decides.{nat_tests}
use Rattle.std.proofs.lemmas.List.Sorted.{IsPermutation-refl, IsPermutation-cons, IsPermutation-middle, IsPermutation-trans}
use Rattle.tcp_reasm.specs.Reassembly.{Run, insertion_by_stamp, runs_newest_first}
use Rattle.tcp_reasm.specs.Laws.{Falls, NewestComeFirst}

below : (a b : ℕ) → nat_lt a b ≡ true → a ≤ b
below a b e = grind (arith, nat_tests)

not_below : (a b : ℕ) → nat_lt a b ≡ false → b ≤ a
not_below a b e = grind (arith, nat_tests)

same_choice : (run other : Run) (others : List Run) (b : Bool) → IsPermutation (run ∷ others) (insertion_by_stamp run others) → IsPermutation (run ∷ other ∷ others) (if b then run ∷ other ∷ others else other ∷ insertion_by_stamp run others)
same_choice run other others true h = IsPermutation-refl (run ∷ other ∷ others)
same_choice run other others false h =
    IsPermutation-trans (run ∷ other ∷ others) (other ∷ run ∷ others) (other ∷ insertion_by_stamp run others)
    (IsPermutation-middle (run ∷ []) other others)
    (IsPermutation-cons other (run ∷ others) (insertion_by_stamp run others) h)

same_by_stamp : (run : Run) (others : List Run) → IsPermutation (run ∷ others) (insertion_by_stamp run others)
same_by_stamp run [] = IsPermutation-refl (run ∷ [])
same_by_stamp run (other ∷ others) = same_choice run other others (nat_lt other.stamp run.stamp) (same_by_stamp run others)

same_newest : (all : List Run) → IsPermutation all (runs_newest_first all)
unfolding runs_newest_first
same_newest [] = IsPermutation-refl []
same_newest (run ∷ others) =
    IsPermutation-trans (run ∷ others) (run ∷ runs_newest_first others) (insertion_by_stamp run (runs_newest_first others))
    (IsPermutation-cons run others (runs_newest_first others) (same_newest others))
    (same_by_stamp run (runs_newest_first others))

-- no stamp of some runs is above another
abbrev AtMost : ℕ → List Run → Type 0
AtMost stamp all = AllByRecursion (λ (run : Run). run.stamp ≤ stamp) all

at_most_weaken : (low high : ℕ) (all : List Run) → low ≤ high → AtMost low all → AtMost high all
at_most_weaken low high [] h all_low = tt
at_most_weaken low high (run ∷ others) h all_low = (omega (arith, all_low.0), at_most_weaken low high others h all_low.1)

at_most_choice : (stamp : ℕ) (run other : Run) (others : List Run) (b : Bool) → run.stamp ≤ stamp → AtMost stamp (other ∷ others) → AtMost stamp (insertion_by_stamp run others) → AtMost stamp (if b then run ∷ other ∷ others else other ∷ insertion_by_stamp run others)
at_most_choice stamp run other others true h all_low rest = (h, all_low)
at_most_choice stamp run other others false h all_low rest = (all_low.0, rest)

at_most_by_stamp : (stamp : ℕ) (run : Run) (others : List Run) → run.stamp ≤ stamp → AtMost stamp others → AtMost stamp (insertion_by_stamp run others)
at_most_by_stamp stamp run [] h all_low = (h, tt)
at_most_by_stamp stamp run (other ∷ others) h all_low =
    at_most_choice stamp run other others (nat_lt other.stamp run.stamp) h all_low (at_most_by_stamp stamp run others h all_low.1)

falls_choice : (run other : Run) (others : List Run) (b : Bool) → nat_lt other.stamp run.stamp ≡ b → Falls (other ∷ others) → Falls (insertion_by_stamp run others) → Falls (if b then run ∷ other ∷ others else other ∷ insertion_by_stamp run others)
falls_choice run other others true e falls rest =
    ((below other.stamp run.stamp e, at_most_weaken other.stamp run.stamp others (below other.stamp run.stamp e) falls.0), falls)
falls_choice run other others false e falls rest =
    (at_most_by_stamp other.stamp run others (not_below other.stamp run.stamp e) falls.0, rest)

falls_by_stamp : (run : Run) (others : List Run) → Falls others → Falls (insertion_by_stamp run others)
falls_by_stamp run [] falls = (tt, tt)
falls_by_stamp run (other ∷ others) falls = falls_choice run other others (nat_lt other.stamp run.stamp) refl falls (falls_by_stamp run others falls.1)

falls_newest : (all : List Run) → Falls (runs_newest_first all)
unfolding runs_newest_first
falls_newest [] = tt
falls_newest (run ∷ others) = falls_by_stamp run (runs_newest_first others) (falls_newest others)

pub newest_come_first_lem : NewestComeFirst
newest_come_first_lem all = (same_newest all, falls_newest all)
