-- Lemmas on what is looked up in a table of intervals.
use Rattle.std.proofs.Common.{◌≡◌, ℕ, suc, ◌+◌, ◌-◌, ◌<◌, ◌≤◌, ◌⊎◌, Bool, true, false, ◌||◌, nat_lt, if◌then◌else◌, List, [], ◌∷◌, length, drop, get_or, Some, None, slice_get, refl, sym, ap, subst, ◌∙◌, inl, inr, arith}
use Rattle.std.specs.Prelude.{unwrap_or}
use Rattle.std.specs.Option.{option_map}
use Rattle.std.proofs.Math.Bool.{or-true}
use Rattle.std.proofs.lemmas.Bool.{cases_lt, cases_order, cases_Bool, lt-ltb, le-ltb, false≢true}
use Rattle.std.proofs.lemmas.Bool.Decides.{nat_tests}
use Rattle.std.proofs.lemmas.List.{drop_all}
use Rattle.std.proofs.lemmas.Option.{slice_get-get_or}
use Rattle.tcp_sendq.specs.SendQueue.{count_leading, end_of_marks}
use Rattle.tcp_sendq.specs.declared.marks.Interval.{Interval}
use Rattle.tcp_sendq.specs.Marks.{has_place, covers, marks_of, IsTableFrom, IsTable, first_uncovered, next_start, last_end}
use Rattle.tcp_sendq.proofs.Places.{count_leading_between, count_leading_then, count_leading_within, end_of_marks-marked, end_of_marks-beyond, end_of_marks-le}
use Rattle.tcp_sendq.proofs.Intervals.{has_place-inside, has_place-below, has_place-above, has_place-true, covers-below, length-marks_of, slice_get-marks_of}

-- ---- tests

has_place-false : (one : Interval) (p : ℕ) → one.start ≤ p → has_place one p ≡ false → one.end ≤ p
has_place-false one p low outside = grind (arith, nat_tests)

or_parts : (a b : Bool) → (a || b) ≡ false → (a ≡ false) × (b ≡ false)
or_parts true b h = absurd (false≢true (sym h))
or_parts false b h = (refl, h)

-- ---- the first offset that isn't covered

record IsFirstUncovered (table : List Interval) (high at first : ℕ) : Type 0 where
  from_at : at ≤ first
  within : (first ≡ at) ⊎ (first ≤ high)
  passed : (p : ℕ) → at ≤ p → p < first → covers table p ≡ true
  uncovered : covers table first ≡ false

outside_still : (one : Interval) (rest : List Interval) (high at first : ℕ) → has_place one at ≡ false → IsTableFrom (one.end + 1) high rest → IsFirstUncovered rest high at first → has_place one first ≡ false
outside_still one rest high at first outside h later = elim (cases_lt at first) [
  | inl behind ↦ elim (cases_lt at (one.end + 1)) [
    | inl near ↦ absurd (false≢true (sym (covers-below (one.end + 1) high rest at h near) ∙ later.passed at (omega arith) behind))
    | inr far ↦ has_place-above one first (omega arith)
  ]
  | inr same ↦ let e : at ≡ first = omega (arith, later.from_at) in ap (has_place one) (sym e) ∙ outside
]

is_first_uncovered : (at low high : ℕ) (table : List Interval) → IsTableFrom low high table → IsFirstUncovered table high at (first_uncovered at table)
is_first_uncovered at low high [] h = record { from_at = omega arith; within = inl refl; passed = λ p low' high'. absurd (omega arith); uncovered = refl }
is_first_uncovered at low high (one ∷ rest) h = elim (cases_Bool (has_place one at)) [
  | inl inside ↦
      let place = has_place-true one at inside in
      let first : first_uncovered at (one ∷ rest) ≡ one.end = ap (λ b. if b then one.end else first_uncovered at rest) inside in
      subst (IsFirstUncovered (one ∷ rest) high at) (sym first) (record {
        from_at = omega (arith, place.1);
        within = inr h.2;
        passed = λ p low' high'. ap (λ b. b || covers rest p) (has_place-inside one p (omega (arith, place.0)) high');
        uncovered = ap (λ b. b || covers rest one.end) (has_place-above one one.end (omega arith)) ∙ covers-below (one.end + 1) high rest one.end h.3 (omega arith);
      })
  | inr outside ↦
      let first : first_uncovered at (one ∷ rest) ≡ first_uncovered at rest = ap (λ b. if b then one.end else first_uncovered at rest) outside in
      let later : IsFirstUncovered rest high at (first_uncovered at rest) = is_first_uncovered at (one.end + 1) high rest h.3 in
      let here : has_place one (first_uncovered at rest) ≡ false = outside_still one rest high at (first_uncovered at rest) outside h.3 later in
      subst (IsFirstUncovered (one ∷ rest) high at) (sym first) (record {
        from_at = later.from_at;
        within = later.within;
        passed = λ p low' high'. ap (λ b. has_place one p || b) (later.passed p low' high') ∙ or-true (has_place one p);
        uncovered = ap (λ b. b || covers rest (first_uncovered at rest)) here ∙ later.uncovered;
      })
]

pub uncovered_first : (table : List Interval) (count at : ℕ) → IsTable count table → covers table (first_uncovered at table) ≡ false
uncovered_first table count at h =
    let is : IsFirstUncovered table count at (first_uncovered at table) = is_first_uncovered at 0 count table h in
    is.uncovered

pub first_uncovered-from_at : (table : List Interval) (count at : ℕ) → IsTable count table → at ≤ first_uncovered at table
first_uncovered-from_at table count at h =
    let is : IsFirstUncovered table count at (first_uncovered at table) = is_first_uncovered at 0 count table h in
    is.from_at

-- it is where the marked bytes from `at` on end
pub first_unmarked_is : (table : List Interval) (count at : ℕ) → IsTable count table → at + count_leading true (drop at (marks_of table count)) ≡ first_uncovered at table
first_unmarked_is table count at h =
    let marks : List Bool = marks_of table count in
    let all : length marks ≡ count = length-marks_of table count in
    let first : ℕ = first_uncovered at table in
    let is : IsFirstUncovered table count at first = is_first_uncovered at 0 count table h in
    let found : ℕ = at + count_leading true (drop at marks) in
    elim (cases_lt at count) [
      | inr past ↦
          let none : drop at marks ≡ [] = drop_all at marks (omega arith) in
          let here : count_leading true (drop at marks) ≡ 0 = ap (count_leading true) none in
          omega (arith, is.from_at, is.within)
      | inl inside ↦ elim (cases_order found first) [
        | inl same ↦ same
        | inr (inl early) ↦
            let marked : slice_get marks found ≡ Some true = slice_get-marks_of table count found (omega (arith, is.within)) ∙ ap (λ b. Some b) (is.passed found (omega arith) early) in
            let unmarked : slice_get marks found ≡ Some false = count_leading_then true marks at (omega (arith, is.within)) in
            cc
        | inr (inr late) ↦
            let marked : slice_get marks first ≡ Some true = count_leading_between true marks at first is.from_at late in
            let unmarked : slice_get marks first ≡ Some false =
            slice_get-marks_of table count first (omega (arith, count_leading_within true marks at (omega arith))) ∙ ap (λ b. Some b) is.uncovered in
            cc
      ]
    ]

-- ---- the next offset that is covered

record IsNextStart (table : List Interval) (high from next : ℕ) : Type 0 where
  behind : from < next
  within : next ≤ high
  passed : (p : ℕ) → from ≤ p → p < next → covers table p ≡ false
  stops : (next ≡ high) ⊎ (covers table next ≡ true)

is_next_start : (from low high : ℕ) (table : List Interval) → IsTableFrom low high table → from < high → covers table from ≡ false → IsNextStart table high from (unwrap_or (next_start from table) high)
is_next_start from low high [] h within uncovered = record { behind = within; within = omega arith; passed = λ p low' high'. refl; stops = inl refl }
is_next_start from low high (one ∷ rest) h within uncovered = elim (cases_lt from one.start) [
  | inl before ↦
      let next : unwrap_or (next_start from (one ∷ rest)) high ≡ one.start =
      ap (λ b. unwrap_or (if b then Some one.start else next_start from rest) high) (lt-ltb from one.start before) in
      subst (IsNextStart (one ∷ rest) high from) (sym next) (record {
        behind = before;
        within = omega (arith, h.1, h.2);
        passed = λ p low' high'. ap (λ b. b || covers rest p) (has_place-below one p high') ∙ covers-below (one.end + 1) high rest p h.3 (omega (arith, h.1));
        stops = inr (ap (λ b. b || covers rest one.start) (has_place-inside one one.start (omega arith) h.1));
      })
  | inr after ↦
      let next : unwrap_or (next_start from (one ∷ rest)) high ≡ unwrap_or (next_start from rest) high =
      ap (λ b. unwrap_or (if b then Some one.start else next_start from rest) high) (le-ltb from one.start after) in
      let parts = or_parts (has_place one from) (covers rest from) uncovered in
      let above : one.end ≤ from = has_place-false one from after parts.0 in
      let later : IsNextStart rest high from (unwrap_or (next_start from rest) high) = is_next_start from (one.end + 1) high rest h.3 within parts.1 in
      subst (IsNextStart (one ∷ rest) high from) (sym next) (record {
        behind = later.behind;
        within = later.within;
        passed = λ p low' high'. ap (λ b. b || covers rest p) (has_place-above one p (omega arith)) ∙ later.passed p low' high';
        stops = elim later.stops [
          | inl end ↦ inl end
          | inr covered ↦ inr (ap (λ b. has_place one (unwrap_or (next_start from rest) high) || b) covered ∙ or-true (has_place one (unwrap_or (next_start from rest) high)))
        ];
      })
]

-- it is where the unmarked bytes from `from` on end
pub next_start_is : (table : List Interval) (count from : ℕ) → IsTable count table → from < count → covers table from ≡ false
    → from + count_leading false (drop from (marks_of table count)) ≡ unwrap_or (next_start from table) count
next_start_is table count from h within uncovered =
    let marks : List Bool = marks_of table count in
    let all : length marks ≡ count = length-marks_of table count in
    let next : ℕ = unwrap_or (next_start from table) count in
    let is : IsNextStart table count from next = is_next_start from 0 count table h within uncovered in
    let found : ℕ = from + count_leading false (drop from marks) in
    let fits : found ≤ count = omega (arith, count_leading_within false marks from (omega arith)) in
    elim (cases_order found next) [
      | inl same ↦ same
      | inr (inl early) ↦
          let unmarked : slice_get marks found ≡ Some false = slice_get-marks_of table count found (omega (arith, is.within)) ∙ ap (λ b. Some b) (is.passed found (omega arith) early) in
          let marked : slice_get marks found ≡ Some true = count_leading_then false marks from (omega (arith, is.within)) in
          cc
      | inr (inr late) ↦
          let unmarked : slice_get marks next ≡ Some false = count_leading_between false marks from next (omega (arith, is.behind)) late in
          let stops : covers table next ≡ true = elim is.stops [ inl end ↦ absurd (omega arith) | inr covered ↦ covered ] in
          let marked : slice_get marks next ≡ Some true = slice_get-marks_of table count next (omega arith) ∙ ap (λ b. Some b) stops in
          cc
    ]

-- ---- the last offset that is covered

record IsLastEnd (table : List Interval) (high end : ℕ) : Type 0 where
  positive : 0 < end
  within : end ≤ high
  covered : covers table (end - 1) ≡ true
  beyond : (p : ℕ) → end ≤ p → covers table p ≡ false

end_after : (one : Interval) (rest : List Interval) (high end : ℕ) → IsTableFrom (one.end + 1) high rest → IsLastEnd rest high end → one.end < end
end_after one rest high end h is = elim (cases_lt one.end end) [
  | inl behind ↦ behind
  | inr low ↦ absurd (false≢true (sym (covers-below (one.end + 1) high rest (end - 1) h (omega (arith, is.positive))) ∙ is.covered))
]

is_last_end : (low high : ℕ) (table : List Interval) (last : Interval) → IsTableFrom low high table → slice_get table (length table - 1) ≡ Some last → IsLastEnd table high last.end
is_last_end low high [] last h found = cc
is_last_end low high (one ∷ []) last h found =
    let same : one ≡ last = cc in
    subst (λ other. IsLastEnd (one ∷ []) high other.end) same (record {
      positive = omega (arith, h.1);
      within = h.2;
      covered = ap (λ b. b || false) (has_place-inside one (one.end - 1) (omega (arith, h.1)) (omega (arith, h.1)));
      beyond = λ p above. ap (λ b. b || false) (has_place-above one p above);
    })
is_last_end low high (one ∷ next ∷ rest) last h found =
    let place : length (one ∷ next ∷ rest) - 1 ≡ suc (length (next ∷ rest) - 1) = omega arith in
    let found' : slice_get (next ∷ rest) (length (next ∷ rest) - 1) ≡ Some last = sym (ap (slice_get (one ∷ next ∷ rest)) place) ∙ found in
    let later : IsLastEnd (next ∷ rest) high last.end = is_last_end (one.end + 1) high (next ∷ rest) last h.3 found' in
    let behind : one.end < last.end = end_after one (next ∷ rest) high last.end h.3 later in
    record {
      positive = later.positive;
      within = later.within;
      covered = ap (λ b. has_place one (last.end - 1) || b) later.covered ∙ or-true (has_place one (last.end - 1));
      beyond = λ p above. ap (λ b. b || covers (next ∷ rest) p) (has_place-above one p (omega arith)) ∙ later.beyond p above;
    }

-- it is the end of the marks
end_of_marks_is : (table : List Interval) (count end : ℕ) → IsLastEnd table count end → end_of_marks (marks_of table count) ≡ end
end_of_marks_is table count end is =
    let marks : List Bool = marks_of table count in
    let all : length marks ≡ count = length-marks_of table count in
    let found : ℕ = end_of_marks marks in
    elim (cases_order found end) [
      | inl same ↦ same
      | inr (inl early) ↦
          let unmarked : slice_get marks (end - 1) ≡ Some false = end_of_marks-beyond marks (end - 1) (omega arith) (omega (arith, is.positive, is.within)) in
          let marked : slice_get marks (end - 1) ≡ Some true = slice_get-marks_of table count (end - 1) (omega (arith, is.positive, is.within)) ∙ ap (λ b. Some b) is.covered in
          cc
      | inr (inr late) ↦
          let marked : slice_get marks (found - 1) ≡ Some true = end_of_marks-marked marks (omega arith) in
          let unmarked : slice_get marks (found - 1) ≡ Some false =
          slice_get-marks_of table count (found - 1) (omega (arith, end_of_marks-le marks)) ∙ ap (λ b. Some b) (is.beyond (found - 1) (omega arith)) in
          cc
    ]

no_marks_end : (count : ℕ) → end_of_marks (marks_of [] count) ≡ 0
no_marks_end count = elim (cases_lt 0 (end_of_marks (marks_of [] count))) [
  | inr none ↦ omega arith
  | inl some ↦
      let marks : List Bool = marks_of [] count in
      let marked : slice_get marks (end_of_marks marks - 1) ≡ Some true = end_of_marks-marked marks some in
      let unmarked : slice_get marks (end_of_marks marks - 1) ≡ Some false =
      slice_get-marks_of [] count (end_of_marks marks - 1) (omega (arith, end_of_marks-le marks, length-marks_of [] count)) in
      cc
]

pub last_end_is : (table : List Interval) (count : ℕ) → IsTable count table
    → last_end table ≡ (if nat_lt 0 (end_of_marks (marks_of table count)) then Some (end_of_marks (marks_of table count)) else None)
last_end_is [] count h = ap (λ end. if nat_lt 0 end then Some end else None) (sym (no_marks_end count))
last_end_is (one ∷ rest) count h =
    let last : Interval = get_or (one ∷ rest) (length (one ∷ rest) - 1) one in
    let found : slice_get (one ∷ rest) (length (one ∷ rest) - 1) ≡ Some last = slice_get-get_or (one ∷ rest) (length (one ∷ rest) - 1) one (omega arith) in
    let is : IsLastEnd (one ∷ rest) count last.end = is_last_end 0 count (one ∷ rest) last h found in
    let end : end_of_marks (marks_of (one ∷ rest) count) ≡ last.end = end_of_marks_is (one ∷ rest) count last.end is in
    let some : nat_lt 0 last.end ≡ true = lt-ltb 0 last.end is.positive in
    ap (option_map (λ run. run.end)) found ∙ sym (ap (λ n. if nat_lt 0 n then Some n else None) end ∙ ap (λ b. if b then Some last.end else None) some)
