-- Runs in order by place, and the look-ups that don't depend on the order of a list.
use Rattle.std.proofs.Common.{◌≡◌, ℕ, zero, suc, ◌-◌, ◌<◌, ◌≤◌, ◌⊎◌, inl, inr, List, [], ◌∷◌, ◌++◌, length, take, drop, refl, sym, ◌∙◌, ap, subst, arith}
use Rattle.std.specs.Prelude.{map, true, false, min, max, if◌then◌else◌}
use Rattle.std.proofs.lemmas.Bool.{cases_lt, false≢true}
use Rattle.std.proofs.lemmas.Bool.Decides.{nat_tests}
use Rattle.std.proofs.lemmas.List.{get_or-map}
use Rattle.tcp_reasm.specs.declared.table.Run.{Run as Entry}
use Rattle.tcp_reasm.specs.Reassembly.{Run, is_within}
use Rattle.tcp_reasm.specs.Store.{run_of, runs_in, touches, joined, union_of, held_to, gap_before, gap_to}
use Rattle.tcp_reasm.specs.Rows.{at, count, span, run_at, run_in, runs_at, Rising}
use Rattle.tcp_reasm.proofs.Links.{once_same, once_other, same_or_not}
use Rattle.tcp_reasm.proofs.Freed.{index_of}
use Rattle.tcp_reasm.proofs.Gaps.{gap_to_most}
use Rattle.tcp_reasm.proofs.Joins.{stamp_union, union_wraps}

true_false : true ≡ false → ⊥
true_false e = absurd (false≢true (sym e))

-- ---- in order

pub rising_low : (low : ℕ) (runs : List Entry) (k : ℕ) → Rising low runs → k < length runs → low < (run_at runs k).from
rising_low low [] k h below = absurd (omega (arith, below))
rising_low low (run ∷ runs) zero h below = h.0
rising_low low (run ∷ runs) (suc k) h below = omega (arith, h.0, h.1, rising_low run.to runs k h.2 (omega (arith, below)))

pub rising_some : (low : ℕ) (runs : List Entry) (k : ℕ) → Rising low runs → k < length runs → (run_at runs k).from < (run_at runs k).to
rising_some low [] k h below = absurd (omega (arith, below))
rising_some low (run ∷ runs) zero h below = h.1
rising_some low (run ∷ runs) (suc k) h below = rising_some run.to runs k h.2 (omega (arith, below))

pub rising_apart : (low : ℕ) (runs : List Entry) (k m : ℕ) → Rising low runs → k < m → m < length runs → (run_at runs k).to < (run_at runs m).from
rising_apart low [] k m h less below = absurd (omega (arith, below))
rising_apart low (run ∷ runs) k zero h less below = absurd (omega (arith, less))
rising_apart low (run ∷ runs) zero (suc m) h less below = rising_low run.to runs m h.2 (omega (arith, below))
rising_apart low (run ∷ runs) (suc k) (suc m) h less below = rising_apart run.to runs k m h.2 (omega (arith, less)) (omega (arith, below))

pub rising_from : (low high : ℕ) (runs : List Entry) → Rising low runs → (0 < length runs → high < (run_at runs 0).from) → Rising high runs
rising_from low high [] h above = tt
rising_from low high (run ∷ runs) h above = (above (omega arith), h.1, h.2)

pub drop_rises : (low high past : ℕ) (runs : List Entry) → Rising low runs → ((k : ℕ) → past ≤ k → k < length runs → high < (run_at runs k).from) → Rising high (drop past runs)
drop_rises low high zero runs h behind = rising_from low high runs h (λ any. behind 0 (omega arith) any)
drop_rises low high (suc past) [] h behind = tt
drop_rises low high (suc past) (run ∷ runs) h behind = drop_rises run.to high past runs h.2 (λ k least below. behind (suc k) (omega (arith, least)) (omega (arith, below)))

-- without some
pub rising_out : (low first past : ℕ) (runs : List Entry) → Rising low runs → first ≤ past → Rising low (take first runs ++ drop past runs)
rising_out low zero past runs h ordered = drop_rises low low past runs h (λ k least below. rising_low low runs k h below)
rising_out low (suc first) zero runs h ordered = absurd (omega (arith, ordered))
rising_out low (suc first) (suc past) [] h ordered = tt
rising_out low (suc first) (suc past) (run ∷ runs) h ordered = (h.0, h.1, rising_out run.to first past runs h.2 (omega (arith, ordered)))

-- with another in the place of some
pub rising_put : (low first past : ℕ) (runs : List Entry) (u : Entry) → Rising low runs → first ≤ past → low < u.from → u.from < u.to
    → ((k : ℕ) → k < first → k < length runs → (run_at runs k).to < u.from) → ((k : ℕ) → past ≤ k → k < length runs → u.to < (run_at runs k).from)
    → Rising low (take first runs ++ u ∷ drop past runs)
rising_put low zero past runs u h ordered above some before behind = (above, some, drop_rises low u.to past runs h behind)
rising_put low (suc first) zero runs u h ordered above some before behind = absurd (omega (arith, ordered))
rising_put low (suc first) (suc past) [] u h ordered above some before behind = (above, some, tt)
rising_put low (suc first) (suc past) (run ∷ runs) u h ordered above some before behind = (
  h.0,
  h.1,
  rising_put run.to first past runs u h.2 (omega (arith, ordered)) (before 0 (omega arith) (omega arith)) some
      (λ k less below. before (suc k) (omega (arith, less)) (omega (arith, below))) (λ k least below. behind (suc k) (omega (arith, least)) (omega (arith, below))),
)

-- nearer to the left
pub rising_moved : (low count : ℕ) (runs : List Entry) (f : Entry → Entry) → Rising low runs → ((run : Entry) → ((f run).from ≡ run.from - count) × ((f run).to ≡ run.to - count)) → count ≤ low → Rising (low - count) (map f runs)
rising_moved low count [] f h is less = tt
rising_moved low count (run ∷ runs) f h is less =
    let later = rising_moved run.to count runs f h.2 is (omega (arith, less, h.0, h.1)) in
    (omega (arith, (is run).0, less, h.0), omega (arith, (is run).0, (is run).1, less, h.0, h.1), rising_from (run.to - count) (f run).to (map f runs) later (λ any. omega (arith, (is run).1, rising_low (run.to - count) (map f runs) 0 later any)))

-- ---- the runs of rows, by their indexes

pub run_at-runs_at : (base : ℕ) (all : List Entry) (ids : List ℕ) (k : ℕ) → k < length ids → run_at (runs_at base all ids) k ≡ run_in base all (at ids k)
run_at-runs_at base all ids k below = get_or-map (run_in base all) ids k 0 (span 0 0) below

-- what holds of the runs at all indexes holds of each row
pub each_row : (base : ℕ) (all : List Entry) (ids : List ℕ) (P : Entry → Type 0) → ((k : ℕ) → k < length ids → P (run_at (runs_at base all ids) k)) → (x : ℕ) → 0 < count x ids → P (run_in base all x)
each_row base all ids P h x some =
    let place = index_of x ids some in
    subst P (run_at-runs_at base all ids place.0 place.1 ∙ ap (run_in base all) place.2) (h place.0 place.1)

-- ---- a union

pub touch_true : (piece run : Run) → piece.from ≤ run.to → run.from ≤ piece.to → touches piece run ≡ true
touch_true piece run low high = grind (arith, nat_tests)

pub touch_before : (piece run : Run) → run.to < piece.from → touches piece run ≡ false
touch_before piece run h = grind (arith, nat_tests)

pub touch_behind : (piece run : Run) → piece.to < run.from → touches piece run ≡ false
touch_behind piece run h = grind (arith, nat_tests)

union_above : (f : ℕ → Entry) (piece acc : Run) (low : ℕ) (r : List ℕ) → low ≤ acc.from → ((x : ℕ) → 0 < count x r → touches piece (run_of (f x)) ≡ true → low ≤ (f x).from) → low ≤ (union_of acc piece (runs_in (map f r))).from
union_above f piece acc low [] h each = h
union_above f piece acc low (x ∷ r) h each =
    (elim (touches piece (run_of (f x))) as (λ b. touches piece (run_of (f x)) ≡ b → low ≤ (union_of (if b then joined acc (run_of (f x)) else acc) piece (runs_in (map f r))).from) [
      | true ↦ λ e. union_above f piece (joined acc (run_of (f x))) low r (omega (arith, h, each x (omega (arith, once_same x x refl)) e)) (λ y some t. each y (omega (arith, some)) t)
      | false ↦ λ e. union_above f piece acc low r h (λ y some t. each y (omega (arith, some)) t)
    ]) refl

union_below : (f : ℕ → Entry) (piece acc : Run) (high : ℕ) (r : List ℕ) → acc.to ≤ high → ((x : ℕ) → 0 < count x r → touches piece (run_of (f x)) ≡ true → (f x).to ≤ high) → (union_of acc piece (runs_in (map f r))).to ≤ high
union_below f piece acc high [] h each = h
union_below f piece acc high (x ∷ r) h each =
    (elim (touches piece (run_of (f x))) as (λ b. touches piece (run_of (f x)) ≡ b → (union_of (if b then joined acc (run_of (f x)) else acc) piece (runs_in (map f r))).to ≤ high) [
      | true ↦ λ e. union_below f piece (joined acc (run_of (f x))) high r (omega (arith, h, each x (omega (arith, once_same x x refl)) e)) (λ y some t. each y (omega (arith, some)) t)
      | false ↦ λ e. union_below f piece acc high r h (λ y some t. each y (omega (arith, some)) t)
    ]) refl

union_has : (f : ℕ → Entry) (piece acc : Run) (x : ℕ) (r : List ℕ) → 0 < count x r → touches piece (run_of (f x)) ≡ true →
    ((union_of acc piece (runs_in (map f r))).from ≤ (f x).from) × ((f x).to ≤ (union_of acc piece (runs_in (map f r))).to)
union_has f piece acc x [] some touched = absurd (omega (arith, some))
union_has f piece acc x (y ∷ r) some touched =
    elim (same_or_not x y) [
      | inl e ↦
          let is : touches piece (run_of (f y)) ≡ true = ap (λ z. touches piece (run_of (f z))) (sym e) ∙ touched in
          let whole : union_of acc piece (runs_in (map f (y ∷ r))) ≡ union_of (joined acc (run_of (f y))) piece (runs_in (map f r)) =
          ap (λ b. union_of (if b then joined acc (run_of (f y)) else acc) piece (runs_in (map f r))) is in
          let wraps = union_wraps (joined acc (run_of (f y))) piece (runs_in (map f r)) in
          (omega (arith, ap (λ (run : Run). run.from) whole, wraps.0, ap (λ z. (f z).from) e), omega (arith, ap (λ (run : Run). run.to) whole, wraps.1, ap (λ z. (f z).to) e))
      | inr ne ↦
          elim (touches piece (run_of (f y))) as (λ b. let whole = union_of (if b then joined acc (run_of (f y)) else acc) piece (runs_in (map f r)) in (whole.from ≤ (f x).from) × ((f x).to ≤ whole.to)) [
            | true ↦ union_has f piece (joined acc (run_of (f y))) x r (omega (arith, some, once_other x y ne)) touched
            | false ↦ union_has f piece acc x r (omega (arith, some, once_other x y ne)) touched
          ]
    ]

same_run : (a b : Run) → a.from ≡ b.from → a.to ≡ b.to → a.stamp ≡ b.stamp → a ≡ b
same_run a b from to stamp =
    ap (λ n. record { from = n; to = a.to; stamp = a.stamp }) from ∙ (ap (λ n. record { from = b.from; to = n; stamp = a.stamp }) to ∙ ap (λ n. record { from = b.from; to = b.to; stamp = n }) stamp)

-- the union with no run
pub union_alone : (f : ℕ → Entry) (piece : Entry) (r : List ℕ) → ((x : ℕ) → 0 < count x r → touches (run_of piece) (run_of (f x)) ≡ false) → run_of piece ≡ union_of (run_of piece) (run_of piece) (runs_in (map f r))
union_alone f piece r none =
    let whole = union_of (run_of piece) (run_of piece) (runs_in (map f r)) in
    let wraps = union_wraps (run_of piece) (run_of piece) (runs_in (map f r)) in
    let never : (x : ℕ) → 0 < count x r → touches (run_of piece) (run_of (f x)) ≡ true → ⊥ = λ x some t. true_false (sym t ∙ none x some) in
    same_run (run_of piece) whole (omega (arith, wraps.0, union_above f (run_of piece) (run_of piece) piece.from r (omega arith) (λ x some t. absurd (never x some t))))
    (omega (arith, wraps.1, union_below f (run_of piece) (run_of piece) piece.to r (omega arith) (λ x some t. absurd (never x some t))))
    (sym (stamp_union (run_of piece) (run_of piece) (runs_in (map f r))))

-- and with some, of which x is the first and y the last
pub union_some : (f : ℕ → Entry) (piece u : Entry) (x y : ℕ) (r : List ℕ) → 0 < count x r → 0 < count y r → touches (run_of piece) (run_of (f x)) ≡ true → touches (run_of piece) (run_of (f y)) ≡ true
    → u.from ≡ min piece.from (f x).from → u.to ≡ max piece.to (f y).to
    → ((z : ℕ) → 0 < count z r → touches (run_of piece) (run_of (f z)) ≡ true → ((f x).from ≤ (f z).from) × ((f z).to ≤ (f y).to))
    → run_of u ≡ union_of (run_of piece) (run_of piece) (runs_in (map f r))
union_some f piece u x y r some_x some_y touch_x touch_y from to each =
    let whole = union_of (run_of piece) (run_of piece) (runs_in (map f r)) in
    let wraps = union_wraps (run_of piece) (run_of piece) (runs_in (map f r)) in
    same_run (run_of u) whole
    (omega (
      arith,
      from,
      wraps.0,
      (union_has f (run_of piece) (run_of piece) x r some_x touch_x).0,
      union_above f (run_of piece) (run_of piece) u.from r (omega (arith, from)) (λ z some t. omega (arith, from, (each z some t).0)),
    ))
    (omega (
      arith,
      to,
      wraps.1,
      (union_has f (run_of piece) (run_of piece) y r some_y touch_y).1,
      union_below f (run_of piece) (run_of piece) u.to r (omega (arith, to)) (λ z some t. omega (arith, to, (each z some t).1)),
    ))
    (sym (stamp_union (run_of piece) (run_of piece) (runs_in (map f r))))

-- ---- how far bytes are kept

within_true : (place : ℕ) (run : Run) → run.from ≤ place → place < run.to → is_within place run ≡ true
within_true place run low high = grind (arith, nat_tests)

pub within_false : (place : ℕ) (run : Run) → (place < run.from) ⊎ (run.to ≤ place) → is_within place run ≡ false
within_false place run (inl h) = grind (arith, nat_tests)
within_false place run (inr h) = grind (arith, nat_tests)

pub held_none : (f : ℕ → Entry) (place : ℕ) (r : List ℕ) → ((x : ℕ) → 0 < count x r → (place < (f x).from) ⊎ ((f x).to ≤ place)) → place ≡ held_to (runs_in (map f r)) place
held_none f place [] none = refl
held_none f place (x ∷ r) none =
    held_none f place r (λ y some. none y (omega (arith, some)))
    ∙ sym (ap (λ b. if b then (f x).to else held_to (runs_in (map f r)) place) (within_false place (run_of (f x)) (none x (omega (arith, once_same x x refl)))))

pub held_some : (f : ℕ → Entry) (place x : ℕ) (r : List ℕ) → 0 < count x r → (f x).from ≤ place → place < (f x).to
    → ((y : ℕ) → 0 < count y r → (place < (f y).from) ⊎ ((f y).to ≤ place) ⊎ ((f y).to ≡ (f x).to)) → (f x).to ≡ held_to (runs_in (map f r)) place
held_some f place x [] some low high each = absurd (omega (arith, some))
held_some f place x (y ∷ r) some low high each =
    let later : is_within place (run_of (f y)) ≡ false → (f x).to ≡ held_to (runs_in (map f (y ∷ r))) place =
    λ e. elim (same_or_not x y) [
      | inl same ↦ absurd (true_false (sym (within_true place (run_of (f y)) (subst (λ z. (f z).from ≤ place) same low) (subst (λ z. place < (f z).to) same high)) ∙ e))
      | inr ne ↦ held_some f place x r (omega (arith, some, once_other x y ne)) low high (λ z more. each z (omega (arith, more))) ∙ sym (ap (λ b. if b then (f y).to else held_to (runs_in (map f r)) place) e)
    ] in
    elim (each y (omega (arith, once_same y y refl))) [
      | inl before ↦ later (within_false place (run_of (f y)) (inl before))
      | inr (inl behind) ↦ later (within_false place (run_of (f y)) (inr behind))
      | inr (inr same) ↦
          elim (is_within place (run_of (f y))) as (λ b. is_within place (run_of (f y)) ≡ b → (f x).to ≡ held_to (runs_in (map f (y ∷ r))) place) [
            | true ↦ λ e. sym same ∙ sym (ap (λ b. if b then (f y).to else held_to (runs_in (map f r)) place) e)
            | false ↦ λ e. later e
          ] refl
    ]

-- ---- how far none is

gap_before_is : (run : Run) (place end low : ℕ) → place ≤ end → low ≤ end → (place < run.to → low ≤ max place run.from) → run.from < run.to → low ≤ gap_before run place end
gap_before_is run place end low fits most h some =
    elim (cases_lt place run.to) [ inl less ↦ let bound = h less in grind (arith, nat_tests) | inr behind ↦ grind (arith, nat_tests) ]

gap_least : (run : Run) (place end : ℕ) → place ≤ end → place ≤ gap_before run place end
gap_least run place end h = grind (arith, nat_tests)

pub gap_above : (f : ℕ → Entry) (place end low : ℕ) (r : List ℕ) → place ≤ end → low ≤ end → ((x : ℕ) → 0 < count x r → ((f x).from < (f x).to) × (place < (f x).to → low ≤ max place (f x).from)) → low ≤ gap_to (runs_in (map f r)) place end
gap_above f place end low [] fits most each = most
gap_above f place end low (x ∷ r) fits most each =
    let here = each x (omega (arith, once_same x x refl)) in
    gap_above f place (gap_before (run_of (f x)) place end) low r (gap_least (run_of (f x)) place end fits) (gap_before_is (run_of (f x)) place end low fits most here.1 here.0) (λ y some. each y (omega (arith, some)))

gap_reach : (run : Run) (place end : ℕ) → place ≤ end → place < run.to → gap_before run place end ≤ max place run.from
gap_reach run place end h less = grind (arith, nat_tests)

pub gap_below : (f : ℕ → Entry) (place end x : ℕ) (r : List ℕ) → 0 < count x r → place ≤ end → place < (f x).to → gap_to (runs_in (map f r)) place end ≤ max place (f x).from
gap_below f place end x [] some fits less = absurd (omega (arith, some))
gap_below f place end x (y ∷ r) some fits less =
    elim (same_or_not x y) [
      | inl e ↦
          omega (arith, gap_to_most (runs_in (map f r)) place (gap_before (run_of (f y)) place end) (gap_least (run_of (f y)) place end fits), gap_reach (run_of (f y)) place end fits (subst (λ z. place < (f z).to) e less), ap (λ z. (f z).from) e)
      | inr ne ↦ gap_below f place (gap_before (run_of (f y)) place end) x r (omega (arith, some, once_other x y ne)) (gap_least (run_of (f y)) place end fits) less
    ]

-- ---- ends and beginnings rise

pub rising_ends : (low : ℕ) (runs : List Entry) (k m : ℕ) → Rising low runs → k ≤ m → m < length runs → (run_at runs k).to ≤ (run_at runs m).to
rising_ends low runs k m h least below =
    elim (cases_lt k m) [
      | inl less ↦ omega (arith, rising_apart low runs k m h less below, rising_some low runs m h below)
      | inr not ↦ let same : k ≡ m = omega (arith, least, not) in omega (arith, ap (λ i. (run_at runs i).to) same)
    ]

pub rising_begins : (low : ℕ) (runs : List Entry) (k m : ℕ) → Rising low runs → k ≤ m → m < length runs → (run_at runs k).from ≤ (run_at runs m).from
rising_begins low runs k m h least below =
    elim (cases_lt k m) [
      | inl less ↦ omega (arith, rising_apart low runs k m h less below, rising_some low runs k h (omega (arith, less, below)))
      | inr not ↦ let same : k ≡ m = omega (arith, least, not) in omega (arith, ap (λ i. (run_at runs i).from) same)
    ]
