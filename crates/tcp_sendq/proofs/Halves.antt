-- The search by halves in a table of intervals that are in order.
use Rattle.std.proofs.Common.{◌≡◌, ℕ, zero, suc, ◌+◌, ◌<◌, ◌≤◌, true, false, nat_lt, List, [], ◌∷◌, Option, Some, None, length, get_or, slice_get, refl, ap, sym, subst, ◌∙◌, inl, inr, arith}
use Rattle.std.specs.Prelude.{if◌then◌else◌, nat_le}
use Rattle.std.specs.Option.{option_map}
use Rattle.std.specs.List.{AllByRecursion}
use Rattle.std.specs.List.Sorted.{IsNonDecreasingBy, IsPartitionedBy, IsPartitionPoint}
use Rattle.std.proofs.lemmas.Bool.{cases_lt, leb-true, leb-false, le-leb, lt-leb, lt-ltb, le-ltb}
use Rattle.std.proofs.lemmas.Option.{slice_get-get_or}
use Rattle.std.proofs.lemmas.List.Sorted.{IsPartitionedBy-ltb, IsPartitionedBy-leb}
use Rattle.tcp_sendq.specs.declared.marks.Interval.{Interval}
use Rattle.tcp_sendq.specs.Marks.{AreInOrder, IsTableFrom, count_before, count_to, count_ended, first_uncovered, next_start}
use Rattle.tcp_sendq.proofs.Intervals.{has_place-inside, has_place-below, has_place-above}

-- ---- starts and ends rise

later_start : (low : ℕ) (table : List Interval) (j : ℕ) (d : Interval) → AllByRecursion (λ later. low < later.start) table → j < length table → low < (get_or table j d).start
later_start low [] j d h below = absurd (omega (arith, below))
later_start low (one ∷ rest) zero d h below = h.0
later_start low (one ∷ rest) (suc j) d h below = later_start low rest j d h.1 (omega (arith, below))

some_at : (table : List Interval) (j : ℕ) (d : Interval) → AreInOrder table → j < length table → (get_or table j d).start < (get_or table j d).end
some_at [] j d h below = absurd (omega (arith, below))
some_at (one ∷ rest) zero d h below = h.0
some_at (one ∷ rest) (suc j) d h below = some_at rest j d h.2 (omega (arith, below))

ends : (table : List Interval) → AreInOrder table → IsNonDecreasingBy (λ one. one.end) table
ends [] h i j d le lt = absurd (omega (arith, lt))
ends (one ∷ rest) h zero zero d le lt = omega arith
ends (one ∷ rest) h zero (suc j) d le lt = omega (arith, later_start one.end rest j d h.1 (omega (arith, lt)), some_at rest j d h.2 (omega (arith, lt)))
ends (one ∷ rest) h (suc i) zero d le lt = absurd (omega (arith, le))
ends (one ∷ rest) h (suc i) (suc j) d le lt = ends rest h.2 i j d (omega (arith, le)) (omega (arith, lt))

starts : (table : List Interval) → AreInOrder table → IsNonDecreasingBy (λ one. one.start) table
starts [] h i j d le lt = absurd (omega (arith, lt))
starts (one ∷ rest) h zero zero d le lt = omega arith
starts (one ∷ rest) h zero (suc j) d le lt = omega (arith, h.0, later_start one.end rest j d h.1 (omega (arith, lt)))
starts (one ∷ rest) h (suc i) zero d le lt = absurd (omega (arith, le))
starts (one ∷ rest) h (suc i) (suc j) d le lt = starts rest h.2 i j d (omega (arith, le)) (omega (arith, lt))

pub ends_rise : (table : List Interval) (from : ℕ) → AreInOrder table → IsPartitionedBy (λ one. nat_lt one.end from) table
ends_rise table from h = IsPartitionedBy-ltb (λ (one : Interval). one.end) table from (ends table h)

pub ends_rise_to : (table : List Interval) (at : ℕ) → AreInOrder table → IsPartitionedBy (λ one. nat_le one.end at) table
ends_rise_to table at h = IsPartitionedBy-leb (λ (one : Interval). one.end) table at (ends table h)

pub starts_rise_to : (table : List Interval) (at : ℕ) → AreInOrder table → IsPartitionedBy (λ one. nat_le one.start at) table
starts_rise_to table at h = IsPartitionedBy-leb (λ (one : Interval). one.start) table at (starts table h)

-- ---- what stands at the point

pub count_from_point : (table : List Interval) (from i : ℕ) → i ≤ length table → IsPartitionPoint (λ one. nat_lt one.end from ≡ true) (λ one. nat_lt one.end from ≡ false) table i → i ≡ count_before from table
count_from_point [] from i within point = omega (arith, within)
count_from_point (one ∷ rest) from zero within point =
    ap (λ b. if b then suc (count_before from rest) else 0) (sym (point.1 0 one (omega arith) (omega arith)))
count_from_point (one ∷ rest) from (suc i) within point =
    ap suc (count_from_point rest from i (omega (arith, within)) (λ k d low high. point.0 (suc k) d (omega arith) (omega (arith, high)), λ k d low high. point.1 (suc k) d (omega (arith, low)) (omega (arith, high))))
    ∙ ap (λ b. if b then suc (count_before from rest) else 0) (sym (point.0 0 one (omega arith) (omega arith)))

pub count_to-from_point : (table : List Interval) (to i : ℕ) → i ≤ length table → IsPartitionPoint (λ one. nat_le one.start to ≡ true) (λ one. nat_le one.start to ≡ false) table i → i ≡ count_to to table
count_to-from_point [] to i within point = omega (arith, within)
count_to-from_point (one ∷ rest) to zero within point =
    ap (λ b. if b then suc (count_to to rest) else 0) (sym (point.1 0 one (omega arith) (omega arith)))
count_to-from_point (one ∷ rest) to (suc i) within point =
    ap suc (count_to-from_point rest to i (omega (arith, within)) (λ k d low high. point.0 (suc k) d (omega arith) (omega (arith, high)), λ k d low high. point.1 (suc k) d (omega (arith, low)) (omega (arith, high))))
    ∙ ap (λ b. if b then suc (count_to to rest) else 0) (sym (point.0 0 one (omega arith) (omega arith)))

pub count_ended-from_point : (table : List Interval) (place i : ℕ) → i ≤ length table → IsPartitionPoint (λ one. nat_le one.end place ≡ true) (λ one. nat_le one.end place ≡ false) table i → i ≡ count_ended place table
count_ended-from_point [] place i within point = omega (arith, within)
count_ended-from_point (one ∷ rest) place zero within point =
    ap (λ b. if b then suc (count_ended place rest) else 0) (sym (point.1 0 one (omega arith) (omega arith)))
count_ended-from_point (one ∷ rest) place (suc i) within point =
    ap suc (count_ended-from_point rest place i (omega (arith, within)) (λ k d low high. point.0 (suc k) d (omega arith) (omega (arith, high)), λ k d low high. point.1 (suc k) d (omega (arith, low)) (omega (arith, high))))
    ∙ ap (λ b. if b then suc (count_ended place rest) else 0) (sym (point.0 0 one (omega arith) (omega arith)))

-- what stands at an index, of the two forms of a lookup
pub none_at : (table : List Interval) (i : ℕ) → length table ≤ i → slice_get table i ≡ None
none_at [] i past = refl
none_at (one ∷ rest) zero past = absurd (omega (arith, past))
none_at (one ∷ rest) (suc i) past = none_at rest i (omega (arith, past))

pub some_found : (table : List Interval) (i : ℕ) (one : Interval) → i < length table → one ≡ get_or table i one → slice_get table i ≡ Some one
some_found table i one below is = slice_get-get_or table i one below ∙ ap (λ found. Some found) (sym is)

-- an offset before every interval is in none
before_all : (table : List Interval) (at low : ℕ) → at < low → AllByRecursion (λ later. low < later.start) table → first_uncovered at table ≡ at
before_all [] at low below h = refl
before_all (one ∷ rest) at low below h =
    ap (λ b. if b then one.end else first_uncovered at rest) (has_place-below one at (omega (arith, below, h.0))) ∙ before_all rest at low below h.1

-- the end of this interval where the offset is in it
abbrev pub end_or : ℕ → Option Interval → ℕ
end_or at None = at
end_or at (Some one) = if nat_le one.start at then one.end else at

first_from_point : (table : List Interval) (at i : ℕ) → AreInOrder table → i ≤ length table → IsPartitionPoint (λ one. nat_le one.end at ≡ true) (λ one. nat_le one.end at ≡ false) table i → end_or at (slice_get table i) ≡ first_uncovered at table
first_from_point [] at i h within point = refl
first_from_point (one ∷ rest) at zero h within point =
    let behind : at < one.end = leb-false one.end at (point.1 0 one (omega arith) (omega arith)) in
    elim (cases_lt at one.start) [
      | inl before ↦
          ap (λ b. if b then one.end else at) (lt-leb one.start at before)
          ∙ sym (ap (λ b. if b then one.end else first_uncovered at rest) (has_place-below one at before) ∙ before_all rest at one.end behind h.1)
      | inr inside ↦
          ap (λ b. if b then one.end else at) (le-leb one.start at inside)
          ∙ sym (ap (λ b. if b then one.end else first_uncovered at rest) (has_place-inside one at inside behind))
    ]
first_from_point (one ∷ rest) at (suc i) h within point =
    first_from_point rest at i h.2 (omega (arith, within)) (λ k d low high. point.0 (suc k) d (omega arith) (omega (arith, high)), λ k d low high. point.1 (suc k) d (omega (arith, low)) (omega (arith, high)))
    ∙ sym (ap (λ b. if b then one.end else first_uncovered at rest) (has_place-above one at (leb-true one.end at (point.0 0 one (omega arith) (omega arith)))))

next_from_point : (table : List Interval) (from i : ℕ) → i ≤ length table → IsPartitionPoint (λ one. nat_le one.start from ≡ true) (λ one. nat_le one.start from ≡ false) table i → option_map (λ one. one.start) (slice_get table i) ≡ next_start from table
next_from_point [] from i within point = refl
next_from_point (one ∷ rest) from zero within point =
    sym (ap (λ b. if b then Some one.start else next_start from rest) (lt-ltb from one.start (leb-false one.start from (point.1 0 one (omega arith) (omega arith)))))
next_from_point (one ∷ rest) from (suc i) within point =
    next_from_point rest from i (omega (arith, within)) (λ k d low high. point.0 (suc k) d (omega arith) (omega (arith, high)), λ k d low high. point.1 (suc k) d (omega (arith, low)) (omega (arith, high)))
    ∙ sym (ap (λ b. if b then Some one.start else next_start from rest) (le-ltb from one.start (leb-true one.start from (point.0 0 one (omega arith) (omega arith)))))

-- ---- a table is in order

above : (low high : ℕ) (least : ℕ) (table : List Interval) → least < low → IsTableFrom low high table → AllByRecursion (λ later. least < later.start) table
above low high least [] less h = tt
above low high least (one ∷ rest) less h = (omega (arith, less, h.0), above (one.end + 1) high least rest (omega (arith, less, h.0, h.1)) h.3)

pub table_in_order : (low high : ℕ) (table : List Interval) → IsTableFrom low high table → AreInOrder table
table_in_order low high [] h = tt
table_in_order low high (one ∷ rest) h = (h.1, above (one.end + 1) high one.end rest (omega arith) h.3, table_in_order (one.end + 1) high rest h.3)

-- ---- the two look-ups, at a table that is another's copy

pub first_found : (runs table : List Interval) (at i : ℕ) → runs ≡ table → AreInOrder table → i ≤ length runs
    → (IsPartitionedBy (λ one. nat_le one.end at) runs → IsPartitionPoint (λ one. nat_le one.end at ≡ true) (λ one. nat_le one.end at ≡ false) runs i)
    → end_or at (slice_get runs i) ≡ first_uncovered at table
first_found runs table at i same h within point =
    let order : AreInOrder runs = subst AreInOrder (sym same) h in
    first_from_point runs at i order within (point (ends_rise_to runs at order)) ∙ ap (first_uncovered at) same

pub next_found : (runs table : List Interval) (from i : ℕ) → runs ≡ table → AreInOrder table → i ≤ length runs
    → (IsPartitionedBy (λ one. nat_le one.start from) runs → IsPartitionPoint (λ one. nat_le one.start from ≡ true) (λ one. nat_le one.start from ≡ false) runs i)
    → option_map (λ one. one.start) (slice_get runs i) ≡ next_start from table
next_found runs table from i same h within point =
    next_from_point runs from i within (point (starts_rise_to runs from (subst AreInOrder (sym same) h))) ∙ ap (next_start from) same
