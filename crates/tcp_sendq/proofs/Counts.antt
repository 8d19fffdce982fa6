-- How many offsets a table has.
use Rattle.std.proofs.Common.{◌≡◌, ℕ, zero, suc, ◌+◌, ◌-◌, ◌≤◌, Bool, true, false, List, [], ◌∷◌, ◌++◌, replicate, map, refl, ap, ◌∙◌, arith}
use Rattle.std.specs.List.{range_with_len}
use Rattle.tcp_sendq.specs.declared.marks.Interval.{Interval}
use Rattle.tcp_sendq.specs.SendQueue.{count_marked}
use Rattle.tcp_sendq.specs.Marks.{IsTable, IsTableFrom, covers, marks_of, total}
use Rattle.tcp_sendq.proofs.Intervals.{IsTableFrom-wider, map-range_with_len-flag, marks_from}

count_marked-append : (front rest : List Bool) → count_marked (front ++ rest) ≡ count_marked front + count_marked rest
count_marked-append [] rest = omega arith
count_marked-append (marked ∷ front) rest = omega (arith, count_marked-append front rest)

count_marked-unmarked : (n : ℕ) → count_marked (replicate n false) ≡ 0
count_marked-unmarked zero = refl
count_marked-unmarked (suc n) = omega (arith, count_marked-unmarked n)

count_marked-all : (n : ℕ) → count_marked (replicate n true) ≡ n
count_marked-all zero = refl
count_marked-all (suc n) = omega (arith, count_marked-all n)

count_marked_from : (from low high : ℕ) (table : List Interval) → from ≤ low → IsTableFrom low high table
    → count_marked (map (covers table) (range_with_len from (high - from))) ≡ total table
count_marked_from from low high [] early h =
    ap count_marked (map-range_with_len-flag false from (high - from)) ∙ count_marked-unmarked (high - from)
count_marked_from from low high (one ∷ rest) early h =
    let gap : List Bool = replicate (one.start - from) false in
    let own : List Bool = replicate (one.end - one.start) true in
    let behind : List Bool = map (covers rest) (range_with_len one.end (high - one.end)) in
    let later : count_marked behind ≡ total rest = count_marked_from one.end (one.end + 1) high rest (omega arith) h.3 in
    let whole : count_marked (gap ++ own ++ behind) ≡ count_marked (gap ++ own) + count_marked behind = count_marked-append (gap ++ own) behind in
    let two : count_marked (gap ++ own) ≡ count_marked gap + count_marked own = count_marked-append gap own in
    ap count_marked (marks_from from low high one rest early h)
    ∙ omega (arith, whole, two, later, count_marked-unmarked (one.start - from), count_marked-all (one.end - one.start))

-- a table of marks has as many as are marked
pub count_marked-marks_of : (table : List Interval) (count : ℕ) → IsTable count table → count_marked (marks_of table count) ≡ total table
count_marked-marks_of table count h =
    let all : count ≡ count - 0 = omega arith in
    ap (λ n. count_marked (map (covers table) (range_with_len 0 n))) all ∙ count_marked_from 0 0 count table (omega arith) h

-- and no more than there are
pub total-within : (low high : ℕ) (table : List Interval) → low ≤ high → IsTableFrom low high table → total table + low ≤ high
total-within low high [] fits h = omega (arith, fits)
total-within low high (one ∷ []) fits h = omega (arith, h.0, h.1, h.2)
total-within low high (one ∷ next ∷ rest) fits h =
    let behind : total (next ∷ rest) + one.end ≤ high =
    total-within one.end high (next ∷ rest) h.2 (IsTableFrom-wider (one.end + 1) high one.end high (next ∷ rest) (omega arith) (omega arith) h.3) in
    omega (arith, h.0, h.1, behind)
