-- Lemmas on tables of intervals.
use Rattle.std.proofs.Common.{◌≡◌, ℕ, zero, suc, ◌+◌, ◌-◌, ◌<◌, ◌≤◌, Bool, true, false, ◌||◌, nat_lt, if◌then◌else◌, List, [], ◌∷◌, ◌++◌, length, drop, replicate, map, get_or, Some, slice_get, refl, sym, ap, subst, ◌∙◌, inl, inr, arith, length-append, length-drop}
use Rattle.std.specs.List.Retain.{RetainsInTurn}
use Rattle.std.specs.List.{range_with_len}
use Rattle.std.proofs.Math.Bool.{or-true, or_assoc}
use Rattle.std.proofs.lemmas.Bool.{cases_lt, lt-ltb, le-ltb, false≢true}
use Rattle.std.proofs.lemmas.Bool.Decides.{nat_tests}
use Rattle.std.proofs.lemmas.List.{get_or_append_left, get_or-append_right, get_or-replicate, get_or-drop, length-replicate}
use Rattle.std.proofs.lemmas.List.FromFn.{fill_by_all, length-map-range_with_len, get_or-map-range_with_len}
use Rattle.std.proofs.lemmas.Option.{slice_get-get_or, get_or_from_slice_get}
use Rattle.tcp_sendq.specs.SendQueue.{marks_with, count_runs}
use Rattle.tcp_sendq.proofs.Runs.{flag_after, flag_after-append, flag_after-marked, count_runs-append, count_runs-unmarked, count_runs-part}
use Rattle.tcp_sendq.proofs.Kept.{length-marks_with}
use Rattle.tcp_sendq.proofs.Places.{marks_with-below, marks_with-inside, marks_with-above}
use Rattle.tcp_sendq.specs.declared.marks.Interval.{Interval}
use Rattle.tcp_sendq.specs.Marks.{interval, has_place, covers, marks_of, IsTableFrom, IsTable, moved_down, union, joined, joined_front}

-- the table after a `retain` that moves each interval down and drops those that are empty then
pub moved_down-from_retain : {F : Type 0} (R : F → Interval → Bool → F → Interval → Type 0) (f : F) (n : ℕ)
    → ((x : Interval) (b : Bool) (t : F) (y : Interval) → R f x b t y → (b ≡ nat_lt 0 (x.end - n)) × (t ≡ f) × (y ≡ interval (x.start - n) (x.end - n)))
    → (xs ys : List Interval) → RetainsInTurn R f xs ys → ys ≡ moved_down n xs
moved_down-from_retain R f n says [] ys h = h
moved_down-from_retain R f n says (x ∷ xs) ys (b, t, y, called, zs, rest, is) =
    let s = says x b t y called in
    let later : zs ≡ moved_down n xs = moved_down-from_retain R f n says xs zs (subst (λ g. RetainsInTurn R g xs zs) s.1 rest) in
    cc (is, s.0, s.2, later)

-- ---- the offsets of one interval

pub has_place-inside : (one : Interval) (p : ℕ) → one.start ≤ p → p < one.end → has_place one p ≡ true
has_place-inside one p low high = grind (arith, nat_tests)

pub has_place-below : (one : Interval) (p : ℕ) → p < one.start → has_place one p ≡ false
has_place-below one p below = grind (arith, nat_tests)

pub has_place-above : (one : Interval) (p : ℕ) → one.end ≤ p → has_place one p ≡ false
has_place-above one p above = grind (arith, nat_tests)

pub has_place-true : (one : Interval) (p : ℕ) → has_place one p ≡ true → (one.start ≤ p) × (p < one.end)
has_place-true one p h = grind (arith, nat_tests)

has_place-moved_down : (one : Interval) (n p : ℕ) → has_place (interval (one.start - n) (one.end - n)) p ≡ has_place one (n + p)
has_place-moved_down one n p = grind (arith, nat_tests)

has_place-union : (one next : Interval) (p : ℕ) → next.start ≤ one.end → one.start ≤ next.end → has_place (union one next) p ≡ (has_place one p || has_place next p)
has_place-union one next p touch other = grind (arith, nat_tests)

or_swap : (a b c : Bool) → (a || (b || c)) ≡ (b || (a || c))
or_swap true b c = sym (or-true b)
or_swap false b c = refl

-- ---- the offsets of a table

-- a table that begins later, or ends earlier, is one that begins earlier and ends later
pub IsTableFrom-wider : (low high low' high' : ℕ) (table : List Interval) → low' ≤ low → high ≤ high' → IsTableFrom low high table → IsTableFrom low' high' table
IsTableFrom-wider low high low' high' [] lower higher h = tt
IsTableFrom-wider low high low' high' (one ∷ rest) lower higher h =
    (omega (arith, h.0), h.1, omega (arith, h.2), IsTableFrom-wider (one.end + 1) high (one.end + 1) high' rest (omega arith) higher h.3)

pub covers-below : (low high : ℕ) (table : List Interval) (p : ℕ) → IsTableFrom low high table → p < low → covers table p ≡ false
covers-below low high [] p h below = refl
covers-below low high (one ∷ rest) p h below =
    let here : has_place one p ≡ false = has_place-below one p (omega (arith, h.0)) in
    let later : covers rest p ≡ false = covers-below (one.end + 1) high rest p h.3 (omega (arith, h.0, h.1)) in
    rw (here, later) refl

pub covers-above : (low high : ℕ) (table : List Interval) (p : ℕ) → IsTableFrom low high table → high ≤ p → covers table p ≡ false
covers-above low high [] p h above = refl
covers-above low high (one ∷ rest) p h above =
    let here : has_place one p ≡ false = has_place-above one p (omega (arith, h.2)) in
    let later : covers rest p ≡ false = covers-above (one.end + 1) high rest p h.3 above in
    rw (here, later) refl

-- ---- the marks that a table gives

pub length-marks_of : (table : List Interval) (count : ℕ) → length (marks_of table count) ≡ count
length-marks_of table count = length-map-range_with_len (covers table) 0 count

mark_at : (table : List Interval) (count p : ℕ) → p < count → get_or (marks_of table count) p false ≡ covers table p
mark_at table count p h = get_or-map-range_with_len (covers table) 0 count p p false h (omega arith)

pub slice_get-marks_of : (table : List Interval) (count p : ℕ) → p < count → slice_get (marks_of table count) p ≡ Some (covers table p)
slice_get-marks_of table count p h =
    slice_get-get_or (marks_of table count) p false (omega (arith, length-marks_of table count)) ∙ ap (λ mark. Some mark) (mark_at table count p h)

-- ---- after an offer

pub marks_of-more : (table : List Interval) (count more : ℕ) → IsTable count table → marks_of table (count + more) ≡ marks_of table count ++ replicate more false
marks_of-more table count more h =
    let marks : List Bool = marks_of table count ++ replicate more false in
    let counted : length marks ≡ count + more =
    omega (arith, length-append (marks_of table count) (replicate more false), length-marks_of table count, length-replicate more false) in
    sym (fill_by_all (covers table) marks (count + more) false counted (λ p within. elim (cases_lt p count) [
      | inl old ↦ get_or_append_left (marks_of table count) (replicate more false) false p (omega (arith, length-marks_of table count)) ∙ mark_at table count p old
      | inr new ↦ get_or-append_right (marks_of table count) (replicate more false) count p false (length-marks_of table count) new
          ∙ (get_or-replicate more (p - count) false false (omega arith) ∙ sym (covers-above 0 count table p h new))
    ]))

-- ---- after a release

moved_down-kept : (n : ℕ) (one : Interval) (rest : List Interval) → n < one.end → moved_down n (one ∷ rest) ≡ interval (one.start - n) (one.end - n) ∷ moved_down n rest
moved_down-kept n one rest h =
    ap (λ kept. if kept then interval (one.start - n) (one.end - n) ∷ moved_down n rest else moved_down n rest) (lt-ltb 0 (one.end - n) (omega arith))

moved_down-gone : (n : ℕ) (one : Interval) (rest : List Interval) → one.end ≤ n → moved_down n (one ∷ rest) ≡ moved_down n rest
moved_down-gone n one rest h =
    ap (λ kept. if kept then interval (one.start - n) (one.end - n) ∷ moved_down n rest else moved_down n rest) (le-ltb 0 (one.end - n) (omega arith))

covers-moved_down : (n : ℕ) (table : List Interval) (p : ℕ) → covers (moved_down n table) p ≡ covers table (n + p)
covers-moved_down n [] p = refl
covers-moved_down n (one ∷ rest) p = elim (cases_lt n one.end) [
  | inl kept ↦ ap (λ t. covers t p) (moved_down-kept n one rest kept)
      ∙ (ap (λ here. here || covers (moved_down n rest) p) (has_place-moved_down one n p) ∙ ap (λ later. has_place one (n + p) || later) (covers-moved_down n rest p))
  | inr gone ↦ ap (λ t. covers t p) (moved_down-gone n one rest gone)
      ∙ (covers-moved_down n rest p ∙ sym (ap (λ here. here || covers rest (n + p)) (has_place-above one (n + p) (omega arith))))
]

pub marks_of-moved_down : (table : List Interval) (count n : ℕ) → n ≤ count → marks_of (moved_down n table) (count - n) ≡ drop n (marks_of table count)
marks_of-moved_down table count n within =
    let counted : length (drop n (marks_of table count)) ≡ count - n = omega (arith, length-drop n (marks_of table count), length-marks_of table count) in
    sym (fill_by_all (covers (moved_down n table)) (drop n (marks_of table count)) (count - n) false counted
    (λ p h. get_or-drop n (marks_of table count) p false ∙ (mark_at table count (n + p) (omega arith) ∙ sym (covers-moved_down n table p))))

pub IsTableFrom-moved_down : (n low high : ℕ) (table : List Interval) → IsTableFrom low high table → IsTableFrom (low - n) (high - n) (moved_down n table)
IsTableFrom-moved_down n low high [] h = tt
IsTableFrom-moved_down n low high (one ∷ rest) h =
    let later : IsTableFrom (one.end + 1 - n) (high - n) (moved_down n rest) = IsTableFrom-moved_down n (one.end + 1) high rest h.3 in
    elim (cases_lt n one.end) [
      | inl kept ↦ subst (IsTableFrom (low - n) (high - n)) (sym (moved_down-kept n one rest kept))
          (omega (arith, h.0), omega (arith, h.1), omega (arith, h.2), IsTableFrom-wider (one.end + 1 - n) (high - n) (one.end - n + 1) (high - n) (moved_down n rest) (omega arith) (omega arith) later)
      | inr gone ↦ subst (IsTableFrom (low - n) (high - n)) (sym (moved_down-gone n one rest gone))
          (IsTableFrom-wider (one.end + 1 - n) (high - n) (low - n) (high - n) (moved_down n rest) (omega (arith, h.0, h.1)) (omega arith) later)
    ]

-- ---- after a mark

pub joined_front-apart : (one next : Interval) (rest : List Interval) → one.end < next.start → joined_front one (next ∷ rest) ≡ one ∷ next ∷ rest
joined_front-apart one next rest h =
    ap (λ apart. if apart then one ∷ next ∷ rest else joined_front (union one next) rest) (lt-ltb one.end next.start h)

pub joined_front-touching : (one next : Interval) (rest : List Interval) → next.start ≤ one.end → joined_front one (next ∷ rest) ≡ joined_front (union one next) rest
joined_front-touching one next rest h =
    ap (λ apart. if apart then one ∷ next ∷ rest else joined_front (union one next) rest) (le-ltb one.end next.start h)

pub joined-before : (one next : Interval) (rest : List Interval) → next.end < one.start → joined one (next ∷ rest) ≡ next ∷ joined one rest
joined-before one next rest h =
    ap (λ before. if before then next ∷ joined one rest else joined_front one (next ∷ rest)) (lt-ltb next.end one.start h)

pub joined-behind : (one next : Interval) (rest : List Interval) → one.start ≤ next.end → joined one (next ∷ rest) ≡ joined_front one (next ∷ rest)
joined-behind one next rest h =
    ap (λ before. if before then next ∷ joined one rest else joined_front one (next ∷ rest)) (le-ltb next.end one.start h)

-- the first interval of a table doesn't end before this one begins
abbrev Reaches : Interval → List Interval → Type 0
Reaches one [] = Unit {0}
Reaches one (next ∷ rest) = one.start ≤ next.end

reaches : (low high : ℕ) (one : Interval) (table : List Interval) → one.start ≤ low → IsTableFrom low high table → Reaches one table
reaches low high one [] early h = tt
reaches low high one (next ∷ rest) early h = omega (arith, h.0, h.1)

covers-joined_front : (low high : ℕ) (one : Interval) (table : List Interval) (p : ℕ) → IsTableFrom low high table → Reaches one table → covers (joined_front one table) p ≡ (has_place one p || covers table p)
covers-joined_front low high one [] p h reach = refl
covers-joined_front low high one (next ∷ rest) p h reach = elim (cases_lt one.end next.start) [
  | inl apart ↦ ap (λ t. covers t p) (joined_front-apart one next rest apart)
  | inr touching ↦
      let reach' : Reaches (union one next) rest = reaches (next.end + 1) high (union one next) rest (omega (arith, h.1)) h.3 in
      ap (λ t. covers t p) (joined_front-touching one next rest touching)
      ∙ (covers-joined_front (next.end + 1) high (union one next) rest p h.3 reach'
      ∙ (ap (λ here. here || covers rest p) (has_place-union one next p touching reach) ∙ or_assoc (has_place one p) (has_place next p) (covers rest p)))
]

covers-joined : (low high : ℕ) (one : Interval) (table : List Interval) (p : ℕ) → IsTableFrom low high table → covers (joined one table) p ≡ (has_place one p || covers table p)
covers-joined low high one [] p h = refl
covers-joined low high one (next ∷ rest) p h = elim (cases_lt next.end one.start) [
  | inl before ↦ ap (λ t. covers t p) (joined-before one next rest before)
      ∙ (ap (λ later. has_place next p || later) (covers-joined (next.end + 1) high one rest p h.3) ∙ or_swap (has_place next p) (has_place one p) (covers rest p))
  | inr behind ↦ ap (λ t. covers t p) (joined-behind one next rest behind) ∙ covers-joined_front low high one (next ∷ rest) p h behind
]

IsTableFrom-joined_front : (low high : ℕ) (one : Interval) (table : List Interval) → low ≤ one.start → one.start < one.end → one.end ≤ high → IsTableFrom low high table → IsTableFrom low high (joined_front one table)
IsTableFrom-joined_front low high one [] from_low some to_high h = (from_low, some, to_high, tt)
IsTableFrom-joined_front low high one (next ∷ rest) from_low some to_high h = elim (cases_lt one.end next.start) [
  | inl apart ↦ subst (IsTableFrom low high) (sym (joined_front-apart one next rest apart)) (from_low, some, to_high, (omega arith, h.1, h.2, h.3))
  | inr touching ↦ subst (IsTableFrom low high) (sym (joined_front-touching one next rest touching))
      (IsTableFrom-joined_front low high (union one next) rest (omega (arith, h.0)) (omega (arith, h.1)) (omega (arith, h.2))
      (IsTableFrom-wider (next.end + 1) high low high rest (omega (arith, h.0, h.1)) (omega arith) h.3))
]

pub IsTableFrom-joined : (low high : ℕ) (one : Interval) (table : List Interval) → low ≤ one.start → one.start < one.end → one.end ≤ high → IsTableFrom low high table → IsTableFrom low high (joined one table)
IsTableFrom-joined low high one [] from_low some to_high h = (from_low, some, to_high, tt)
IsTableFrom-joined low high one (next ∷ rest) from_low some to_high h = elim (cases_lt next.end one.start) [
  | inl before ↦ subst (IsTableFrom low high) (sym (joined-before one next rest before))
      (h.0, h.1, h.2, IsTableFrom-joined (next.end + 1) high one rest (omega arith) some to_high h.3)
  | inr behind ↦ subst (IsTableFrom low high) (sym (joined-behind one next rest behind)) (IsTableFrom-joined_front low high one (next ∷ rest) from_low some to_high h)
]

pub marks_of-joined : (table : List Interval) (count from to : ℕ) → from < to → to ≤ count → IsTable count table → marks_of (joined (interval from to) table) count ≡ marks_with from to (marks_of table count)
marks_of-joined table count from to ordered within table_is =
    let marks : List Bool = marks_of table count in
    let all : length marks ≡ count = length-marks_of table count in
    let new : List Interval = joined (interval from to) table in
    let counted : length (marks_with from to marks) ≡ count = length-marks_with from to marks (omega arith) (omega arith) ∙ all in
    sym (fill_by_all (covers new) (marks_with from to marks) count false counted (λ p h. elim (cases_lt p from) [
      | inl below ↦ get_or_from_slice_get (marks_with from to marks) p (covers table p) false
          (marks_with-below from to marks p (omega arith) (omega arith) below ∙ slice_get-marks_of table count p h)
          ∙ sym (covers-joined 0 count (interval from to) table p table_is ∙ ap (λ here. here || covers table p) (has_place-below (interval from to) p below))
      | inr low ↦ elim (cases_lt p to) [
        | inl high ↦ get_or_from_slice_get (marks_with from to marks) p true false (marks_with-inside from to marks p low high (omega arith))
            ∙ sym (covers-joined 0 count (interval from to) table p table_is ∙ ap (λ here. here || covers table p) (has_place-inside (interval from to) p low high))
        | inr above ↦ get_or_from_slice_get (marks_with from to marks) p (covers table p) false
            (marks_with-above from to marks p (omega arith) (omega arith) above ∙ slice_get-marks_of table count p h)
            ∙ sym (covers-joined 0 count (interval from to) table p table_is ∙ ap (λ here. here || covers table p) (has_place-above (interval from to) p above))
      ]
    ]))

-- ---- the runs that a table gives

map-range_with_len-append : (f : ℕ → Bool) (from a b : ℕ) → map f (range_with_len from (a + b)) ≡ map f (range_with_len from a) ++ map f (range_with_len (from + a) b)
map-range_with_len-append f from zero b =
    let e : from ≡ from + 0 = omega arith in
    let whole : 0 + b ≡ b = omega arith in
    ap (λ n. map f (range_with_len from n)) whole ∙ ap (λ n. map f (range_with_len n b)) e
map-range_with_len-append f from (suc a) b =
    let count : suc a + b ≡ suc (a + b) = omega arith in
    let next : from + 1 + a ≡ from + suc a = omega arith in
    ap (λ n. map f (range_with_len from n)) count
    ∙ ap (λ marks. f from ∷ marks) (map-range_with_len-append f (from + 1) a b ∙ ap (λ n. map f (range_with_len (from + 1) a) ++ map f (range_with_len n b)) next)

map-range_with_len-same : (f g : ℕ → Bool) (from n : ℕ) → ((p : ℕ) → from ≤ p → p < from + n → f p ≡ g p) → map f (range_with_len from n) ≡ map g (range_with_len from n)
map-range_with_len-same f g from zero same = refl
map-range_with_len-same f g from (suc n) same =
    let here : f from ≡ g from = same from (omega arith) (omega arith) in
    let later : map f (range_with_len (from + 1) n) ≡ map g (range_with_len (from + 1) n) =
    map-range_with_len-same f g (from + 1) n (λ p low high. same p (omega arith) (omega arith)) in
    cc

pub map-range_with_len-flag : (flag : Bool) (from n : ℕ) → map (λ p. flag) (range_with_len from n) ≡ replicate n flag
map-range_with_len-flag flag from zero = refl
map-range_with_len-flag flag from (suc n) = ap (λ marks. flag ∷ marks) (map-range_with_len-flag flag (from + 1) n)

-- the marks from an offset on begin with those before the first interval, and then its own
pub marks_from : (from low high : ℕ) (one : Interval) (rest : List Interval) → from ≤ low → IsTableFrom low high (one ∷ rest)
    → map (covers (one ∷ rest)) (range_with_len from (high - from))
    ≡ replicate (one.start - from) false ++ replicate (one.end - one.start) true ++ map (covers rest) (range_with_len one.end (high - one.end))
marks_from from low high one rest early h =
    let gap = one.start - from in
    let own = one.end - one.start in
    let f = covers (one ∷ rest) in
    let to_start : from + gap ≡ one.start = omega (arith, h.0) in
    let to_end : from + (gap + own) ≡ one.end = omega (arith, h.0, h.1) in
    let all : high - from ≡ gap + own + (high - one.end) = omega (arith, h.0, h.1, h.2) in
    let before : map f (range_with_len from gap) ≡ replicate gap false =
    map-range_with_len-same f (λ p. false) from gap (λ p low' high'.
    ap (λ here. here || covers rest p) (has_place-below one p (omega arith)) ∙ covers-below (one.end + 1) high rest p h.3 (omega (arith, h.1)))
    ∙ map-range_with_len-flag false from gap in
    let inside : map f (range_with_len (from + gap) own) ≡ replicate own true =
    map-range_with_len-same f (λ p. true) (from + gap) own (λ p low' high'. ap (λ here. here || covers rest p) (has_place-inside one p (omega arith) (omega arith)))
    ∙ map-range_with_len-flag true (from + gap) own in
    let behind : map f (range_with_len (from + (gap + own)) (high - one.end)) ≡ map (covers rest) (range_with_len one.end (high - one.end)) =
    map-range_with_len-same f (covers rest) (from + (gap + own)) (high - one.end) (λ p low' high'. ap (λ here. here || covers rest p) (has_place-above one p (omega arith)))
    ∙ ap (λ n. map (covers rest) (range_with_len n (high - one.end))) to_end in
    let two : map f (range_with_len from (gap + own)) ≡ map f (range_with_len from gap) ++ map f (range_with_len (from + gap) own) = map-range_with_len-append f from gap own in
    let three : map f (range_with_len from (gap + own + (high - one.end))) ≡ map f (range_with_len from (gap + own)) ++ map f (range_with_len (from + (gap + own)) (high - one.end)) =
    map-range_with_len-append f from (gap + own) (high - one.end) in
    rw (all, three, two, before, inside, behind) refl

flag_after-unmarked : (before : Bool) (n : ℕ) → (before ≡ true → 0 < n) → flag_after before (replicate n false) ≡ false
flag_after-unmarked true zero some = absurd (omega (arith, some refl))
flag_after-unmarked false zero some = refl
flag_after-unmarked before (suc zero) some = refl
flag_after-unmarked before (suc (suc n)) some = flag_after-unmarked false (suc n) (λ h. omega arith)

count_runs_from : (before : Bool) (from low high : ℕ) (table : List Interval) → from ≤ low → (before ≡ true → from < low) → IsTableFrom low high table
    → count_runs before (map (covers table) (range_with_len from (high - from))) ≡ length table
count_runs_from before from low high [] early apart h =
    ap (count_runs before) (map-range_with_len-flag false from (high - from)) ∙ count_runs-unmarked before (high - from)
count_runs_from before from low high (one ∷ rest) early apart h =
    let gap : List Bool = replicate (one.start - from) false in
    let own : List Bool = replicate (one.end - one.start) true in
    let behind : List Bool = map (covers rest) (range_with_len one.end (high - one.end)) in
    let later : count_runs true behind ≡ length rest = count_runs_from true one.end (one.end + 1) high rest (omega arith) (λ _. omega arith) h.3 in
    let unmarked : flag_after before gap ≡ false = flag_after-unmarked before (one.start - from) (λ holds. omega (arith, h.0, apart holds)) in
    let marked : flag_after before (gap ++ own) ≡ true =
    flag_after-append before gap own ∙ flag_after-marked (flag_after before gap) (one.end - one.start) (omega (arith, h.1)) in
    let whole : count_runs before (gap ++ own ++ behind) ≡ count_runs before (gap ++ own) + count_runs (flag_after before (gap ++ own)) behind =
    count_runs-append before (gap ++ own) behind in
    let two : count_runs before (gap ++ own) ≡ count_runs before gap + count_runs (flag_after before gap) own = count_runs-append before gap own in
    let none : count_runs before gap ≡ 0 = count_runs-unmarked before (one.start - from) in
    let single : count_runs false own ≡ 1 = count_runs-part false (one.end - one.start) (omega (arith, h.1)) in
    ap (count_runs before) (marks_from from low high one rest early h) ∙ rw (whole, two, none, unmarked, marked, single, later) (omega arith)

-- each interval is a run
pub count_runs-marks_of : (table : List Interval) (count : ℕ) → IsTable count table → count_runs false (marks_of table count) ≡ length table
count_runs-marks_of table count h =
    let all : count ≡ count - 0 = omega arith in
    ap (λ n. count_runs false (map (covers table) (range_with_len 0 n))) all
    ∙ count_runs_from false 0 0 count table (omega arith) (λ impossible. absurd (false≢true impossible)) h
