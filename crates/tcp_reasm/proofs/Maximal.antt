-- The runs are the maximal intervals of kept bytes.
use Rattle.std.proofs.Common.{◌≡◌, ℕ, zero, suc, ◌+◌, ◌<◌, ◌≤◌, ◌≢◌, ◌⊎◌, inl, inr, List, [], ◌∷◌, refl, sym, ◌∙◌, ap, arith}
use Rattle.std.specs.Prelude.{Bool, true, false, max, Option, Some, None, is_some, ◌==◌, if◌then◌else◌}
use Rattle.std.specs.List.{AllByRecursion}
use Rattle.std.proofs.lemmas.Bool.{cases_eq}
use Rattle.std.proofs.lemmas.Bool.Decides.{nat_tests}
use Rattle.tcp_reasm.specs.Reassembly.{Cell, Run, runs, runs_from, with_place, stamp_at}
use Rattle.tcp_reasm.specs.Laws.{cell_at, IsMaximal, SomeCovers, StandApart, RunsAreMaximal, RunsCover, RunsStandApart}
use Rattle.tcp_reasm.proofs.Beginnings.{begins_at, is_held_first, begins_at-runs_from}

-- the cell at a place, of places that begin at another
abbrev cell_from : ℕ → List (Option Cell) → ℕ → Option Cell
cell_from first [] place = None
cell_from first (cell ∷ places) place = if place == first then cell else cell_from (suc first) places place

eq_true : (m n : ℕ) → m ≡ n → (m == n) ≡ true
eq_true m n e = grind (arith, nat_tests)

eq_false : (m n : ℕ) → m ≢ n → (m == n) ≡ false
eq_false m n ne = grind (arith, nat_tests)

eq_from : (m n : ℕ) → (m == n) ≡ true → m ≡ n
eq_from m n e = grind (arith, nat_tests)

ne_from : (m n : ℕ) → (m == n) ≡ false → m ≢ n
ne_from m n e same = grind (arith, nat_tests)

not_below : (a b : ℕ) → (b < a → ⊥) → a ≤ b
not_below a b h = omega arith

touches : (first place from : ℕ) → place ≡ first → suc place ≡ from → suc first < from → ⊥
touches first place from same e apart = omega arith

later_other : (first from to : ℕ) → suc first ≤ from → from < to → to ≢ first
later_other first from to h some = omega arith

later_same : (first from place : ℕ) → suc first ≤ from → from ≤ place → place ≢ first
later_same first from place h low = omega arith

strictly : (a b : ℕ) → a ≤ b → b ≢ a → a < b
strictly a b h ne = omega arith

suc_other : (n : ℕ) → suc n ≢ n
suc_other n = omega arith

max_is : (a b : ℕ) → (max a b ≡ a) ⊎ (max a b ≡ b)
max_is a b = grind arith

here : (first : ℕ) (cell : Option Cell) (places : List (Option Cell)) (place : ℕ) → place ≡ first → cell_from first (cell ∷ places) place ≡ cell
here first cell places place e = ap (λ b. if b then cell else cell_from (suc first) places place) (eq_true place first e)

behind : (first : ℕ) (cell : Option Cell) (places : List (Option Cell)) (place : ℕ) → place ≢ first → cell_from first (cell ∷ places) place ≡ cell_from (suc first) places place
behind first cell places place ne = ap (λ b. if b then cell else cell_from (suc first) places place) (eq_false place first ne)

cell_from-cell_at : (first : ℕ) (places : List (Option Cell)) (i place : ℕ) → first + i ≡ place → cell_from first places place ≡ cell_at places i
cell_from-cell_at first [] i place e = refl
cell_from-cell_at first (cell ∷ places) zero place e = here first cell places place (omega arith)
cell_from-cell_at first (cell ∷ places) (suc i) place e =
    behind first cell places place (omega arith) ∙ cell_from-cell_at (suc first) places i place (omega arith)

nothing_before : (first : ℕ) (places : List (Option Cell)) (place : ℕ) → place < first → is_some (cell_from first places place) ≡ false
nothing_before first [] place h = refl
nothing_before first (cell ∷ places) place h =
    ap is_some (behind first cell places place (omega arith)) ∙ nothing_before (suc first) places place (omega arith)

true_or_false : (b : Bool) → b ≡ true → b ≡ false → ⊥
true_or_false b t f = cc

held_from : (first : ℕ) (places : List (Option Cell)) (place : ℕ) → is_some (cell_from first places place) ≡ true → first ≤ place
held_from first places place h = not_below first place (λ below. true_or_false (is_some (cell_from first places place)) h (nothing_before first places place below))

held_at_first : (first : ℕ) (places : List (Option Cell)) → is_some (cell_from first places first) ≡ is_held_first places
held_at_first first [] = refl
held_at_first first (None ∷ places) = ap is_some (here first None places first refl)
held_at_first first (Some cell ∷ places) = ap is_some (here first (Some cell) places first refl)

-- maximal among places that begin at another
record Maximal (first : ℕ) (places : List (Option Cell)) (run : Run) : Type 0 where
  some : run.from < run.to
  inside : (place : ℕ) → run.from ≤ place → place < run.to → is_some (cell_from first places place) ≡ true
  before : (place : ℕ) → suc place ≡ run.from → is_some (cell_from first places place) ≡ true → ⊥
  after : is_some (cell_from first places run.to) ≡ true → ⊥
  stamps : (place : ℕ) → run.from ≤ place → place < run.to → stamp_at (cell_from first places place) ≤ run.stamp
  newest : (place : ℕ) × (run.from ≤ place) × (place < run.to) × (stamp_at (cell_from first places place) ≡ run.stamp)

begins_from : (first : ℕ) (places : List (Option Cell)) (run : Run) → Maximal first places run → first ≤ run.from
begins_from first places run m = held_from first places run.from (m.inside run.from (omega arith) m.some)

-- a run after the first place is as maximal with that place before it, where that place has no byte or doesn't touch
goes_on : (first : ℕ) (cell : Option Cell) (places : List (Option Cell)) (run : Run) → Maximal (suc first) places run → ((is_some cell ≡ true) → suc first < run.from) → Maximal first (cell ∷ places) run
goes_on first cell places run m apart =
    let from : suc first ≤ run.from = begins_from (suc first) places run m in
    record {
      some = m.some;
      inside = λ place low high. ap is_some (behind first cell places place (omega arith)) ∙ m.inside place low high;
      before = λ place e held.
          elim (cases_eq place first) [
            | inl same ↦ absurd (touches first place run.from same e (apart (sym (ap is_some (here first cell places place same)) ∙ held)))
            | inr other ↦ m.before place e (sym (ap is_some (behind first cell places place other)) ∙ held)
          ];
      after = λ held. m.after (sym (ap is_some (behind first cell places run.to (later_other first run.from run.to from m.some))) ∙ held);
      stamps = λ place low high. omega (arith, ap stamp_at (behind first cell places place (omega arith)), m.stamps place low high);
      newest = (m.newest.0, m.newest.1, m.newest.2, ap stamp_at (behind first cell places m.newest.0 (later_same first run.from m.newest.0 from m.newest.1)) ∙ m.newest.3);
    }

-- a run of the first place alone
alone : (first : ℕ) (cell : Cell) (places : List (Option Cell)) → is_held_first places ≡ false → Maximal first (Some cell ∷ places) (record { from = first; to = suc first; stamp = cell.stamp })
alone first cell places none = record {
  some = omega arith;
  inside = λ place low high. ap is_some (here first (Some cell) places place (omega arith));
  before = λ place e held. true_or_false (is_some (cell_from first (Some cell ∷ places) place)) held (nothing_before first (Some cell ∷ places) place (omega arith));
  after = λ held. true_or_false (is_some (cell_from first (Some cell ∷ places) (suc first))) held
      (ap is_some (behind first (Some cell) places (suc first) (suc_other first)) ∙ held_at_first (suc first) places ∙ none);
  stamps = λ place low high. omega (arith, ap stamp_at (here first (Some cell) places place (omega arith)));
  newest = (first, omega arith, omega arith, ap stamp_at (here first (Some cell) places first refl));
}

newest_joined : (first : ℕ) (cell : Cell) (places : List (Option Cell)) (run : Run) → Maximal (suc first) places run → run.from ≡ suc first →
    (place : ℕ) × (first ≤ place) × (place < run.to) × (stamp_at (cell_from first (Some cell ∷ places) place) ≡ max cell.stamp run.stamp)
newest_joined first cell places run m next =
    elim (max_is cell.stamp run.stamp) [
      | inl own ↦ (first, omega arith, omega (arith, m.some), ap stamp_at (here first (Some cell) places first refl) ∙ sym own)
      | inr others ↦ (
        m.newest.0,
        omega (arith, m.newest.1),
        m.newest.2,
        ap stamp_at (behind first (Some cell) places m.newest.0 (later_same first run.from m.newest.0 (omega arith) m.newest.1)) ∙ m.newest.3 ∙ sym others,
      )
    ]

-- the first place joined to the run that begins right after it
joined : (first : ℕ) (cell : Cell) (places : List (Option Cell)) (run : Run) → Maximal (suc first) places run → run.from ≡ suc first → Maximal first (Some cell ∷ places) (record { from = first; to = run.to; stamp = max cell.stamp run.stamp })
joined first cell places run m next = record {
  some = omega (arith, m.some);
  inside = λ place low high.
      elim (cases_eq place first) [
        | inl same ↦ ap is_some (here first (Some cell) places place same)
        | inr other ↦ ap is_some (behind first (Some cell) places place other) ∙ m.inside place (omega arith) high
      ];
  before = λ place e held. true_or_false (is_some (cell_from first (Some cell ∷ places) place)) held (nothing_before first (Some cell ∷ places) place (omega arith));
  after = λ held. m.after (sym (ap is_some (behind first (Some cell) places run.to (later_other first run.from run.to (omega arith) m.some))) ∙ held);
  stamps = λ place low high.
      elim (cases_eq place first) [
        | inl same ↦ omega (arith, ap stamp_at (here first (Some cell) places place same))
        | inr other ↦ omega (arith, ap stamp_at (behind first (Some cell) places place other), m.stamps place (omega arith) high)
      ];
  newest = newest_joined first cell places run m next;
}

-- runs that don't touch, each maximal
record Listed (first : ℕ) (places : List (Option Cell)) (all : List Run) : Type 0 where
  maximal : AllByRecursion (Maximal first places) all
  apart : StandApart all

goes_on_all : (first : ℕ) (cell : Option Cell) (places : List (Option Cell)) (to : ℕ) (all : List Run) → suc first ≤ to → AllByRecursion (Maximal (suc first) places) all → AllByRecursion (λ (later : Run). to < later.from) all → AllByRecursion (Maximal first (cell ∷ places)) all
goes_on_all first cell places to [] h maximal later = tt
goes_on_all first cell places to (run ∷ others) h maximal later =
    (goes_on first cell places run maximal.0 (λ held. omega (arith, later.0)), goes_on_all first cell places to others h maximal.1 later.1)

goes_on_none : (first : ℕ) (places : List (Option Cell)) (all : List Run) → AllByRecursion (Maximal (suc first) places) all → AllByRecursion (Maximal first (None ∷ places)) all
goes_on_none first places [] maximal = tt
goes_on_none first places (run ∷ others) maximal =
    (goes_on first None places run maximal.0 (λ held. absurd (true_or_false false held refl)), goes_on_none first places others maximal.1)

later_weaken : (low high : ℕ) (all : List Run) → low ≤ high → AllByRecursion (λ (later : Run). high < later.from) all → AllByRecursion (λ (later : Run). low < later.from) all
later_weaken low high [] h later = tt
later_weaken low high (run ∷ others) h later = (omega (arith, later.0), later_weaken low high others h later.1)

listed_choice : (first : ℕ) (cell : Cell) (places : List (Option Cell)) (run : Run) (others : List Run) (b : Bool) → (run.from == suc first) ≡ b → b ≡ is_held_first places → Listed (suc first) places (run ∷ others) → Listed first (Some cell ∷ places) (if b then record { from = first; to = run.to; stamp = max cell.stamp run.stamp } ∷ others else record { from = first; to = suc first; stamp = cell.stamp } ∷ run ∷ others)
listed_choice first cell places run others true e held listed =
    let next : run.from ≡ suc first = eq_from run.from (suc first) e in
    record {
      maximal = (joined first cell places run listed.maximal.0 next, goes_on_all first (Some cell) places run.to others (omega (arith, listed.maximal.0.some)) listed.maximal.1 listed.apart.0);
      apart = (listed.apart.0, listed.apart.1);
    }
listed_choice first cell places run others false e held listed =
    let ne : run.from ≢ suc first = ne_from run.from (suc first) e in
    let from : suc first ≤ run.from = begins_from (suc first) places run listed.maximal.0 in
    let further : suc first < run.from = strictly (suc first) run.from from ne in
    let none_between = later_weaken (suc first) run.to others (omega (arith, listed.maximal.0.some)) listed.apart.0 in
    record {
      maximal = (alone first cell places (sym held), (goes_on first (Some cell) places run listed.maximal.0 (λ _. further), goes_on_all first (Some cell) places run.to others (omega (arith, listed.maximal.0.some)) listed.maximal.1 listed.apart.0));
      apart = ((further, none_between), (listed.apart.0, listed.apart.1));
    }

listed_with_place : (first : ℕ) (cell : Cell) (places : List (Option Cell)) (all : List Run) → begins_at (suc first) all ≡ is_held_first places → Listed (suc first) places all → Listed first (Some cell ∷ places) (with_place first cell.stamp all)
listed_with_place first cell places [] held listed = record { maximal = (alone first cell places (sym held), tt); apart = (tt, tt) }
listed_with_place first cell places (run ∷ others) held listed = listed_choice first cell places run others (run.from == suc first) refl held listed

listed : (first : ℕ) (places : List (Option Cell)) → Listed first places (runs_from first places)
listed first [] = record { maximal = tt; apart = tt }
listed first (None ∷ places) =
    let rest = listed (suc first) places in
    record { maximal = goes_on_none first places (runs_from (suc first) places) rest.maximal; apart = rest.apart }
listed first (Some cell ∷ places) =
    listed_with_place first cell places (runs_from (suc first) places) (begins_at-runs_from (suc first) places) (listed (suc first) places)

maximal_at : (held : List (Option Cell)) (all : List Run) → AllByRecursion (Maximal 0 held) all → AllByRecursion (IsMaximal held) all
maximal_at held [] maximal = tt
maximal_at held (run ∷ others) maximal =
    let m = maximal.0 in
    let same : (place : ℕ) → cell_from 0 held place ≡ cell_at held place = λ place. cell_from-cell_at 0 held place place (omega arith) in (
      record {
        some = m.some;
        inside = λ place low high. sym (ap is_some (same place)) ∙ m.inside place low high;
        before = λ place e is_held. m.before place e (ap is_some (same place) ∙ is_held);
        after = λ is_held. m.after (ap is_some (same run.to) ∙ is_held);
        stamps = λ place low high. omega (arith, ap stamp_at (same place), m.stamps place low high);
        newest = (m.newest.0, m.newest.1, m.newest.2, sym (ap stamp_at (same m.newest.0)) ∙ m.newest.3);
      },
      maximal_at held others maximal.1,
    )

pub runs_are_maximal_lem : RunsAreMaximal
runs_are_maximal_lem held = maximal_at held (runs held) (listed 0 held).maximal

pub runs_stand_apart_lem : RunsStandApart
runs_stand_apart_lem held = (listed 0 held).apart

-- each kept byte is in a run
covers_choice : (first : ℕ) (cell : Cell) (run : Run) (others : List Run) (place : ℕ) (b : Bool) → (run.from == suc first) ≡ b → run.from < run.to → (place ≡ first) ⊎ SomeCovers (run ∷ others) place → SomeCovers (if b then record { from = first; to = run.to; stamp = max cell.stamp run.stamp } ∷ others else record { from = first; to = suc first; stamp = cell.stamp } ∷ run ∷ others) place
covers_choice first cell run others place true e some (inl same) =
    let next : run.from ≡ suc first = eq_from run.from (suc first) e in
    inl (omega arith, omega arith)
covers_choice first cell run others place true e some (inr (inl covered)) =
    let next : run.from ≡ suc first = eq_from run.from (suc first) e in
    inl (omega (arith, covered.0), covered.1)
covers_choice first cell run others place true e some (inr (inr later)) = inr later
covers_choice first cell run others place false e some (inl same) = inl (omega arith, omega arith)
covers_choice first cell run others place false e some (inr covered) = inr covered

covers_with_place : (first : ℕ) (cell : Cell) (places : List (Option Cell)) (all : List Run) (place : ℕ) → AllByRecursion (Maximal (suc first) places) all → (place ≡ first) ⊎ SomeCovers all place → SomeCovers (with_place first cell.stamp all) place
covers_with_place first cell places [] place maximal (inl same) = inl (omega arith, omega arith)
covers_with_place first cell places [] place maximal (inr covered) = absurd covered
covers_with_place first cell places (run ∷ others) place maximal h = covers_choice first cell run others place (run.from == suc first) refl maximal.0.some h

covers_from : (first : ℕ) (places : List (Option Cell)) (place : ℕ) → is_some (cell_from first places place) ≡ true → SomeCovers (runs_from first places) place
covers_from first [] place held = absurd (true_or_false false held refl)
covers_from first (None ∷ places) place held =
    elim (cases_eq place first) [
      | inl same ↦ absurd (true_or_false false (sym (ap is_some (here first None places place same)) ∙ held) refl)
      | inr other ↦ covers_from (suc first) places place (sym (ap is_some (behind first None places place other)) ∙ held)
    ]
covers_from first (Some cell ∷ places) place held =
    covers_with_place first cell places (runs_from (suc first) places) place (listed (suc first) places).maximal
    (elim (cases_eq place first) [
      | inl same ↦ inl same
      | inr other ↦ inr (covers_from (suc first) places place (sym (ap is_some (behind first (Some cell) places place other)) ∙ held))
    ])

pub runs_cover_lem : RunsCover
runs_cover_lem held place h = covers_from 0 held place (ap is_some (cell_from-cell_at 0 held place place (omega arith)) ∙ h)
