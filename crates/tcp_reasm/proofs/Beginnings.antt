-- There are as many runs as kept bytes with none kept right before them.
use Rattle.std.proofs.Common.{◌≡◌, ℕ, zero, suc, ◌+◌, ◌≤◌, List, [], ◌∷◌, length, drop, refl, sym, ◌∙◌, ap, arith}
use Rattle.std.specs.Prelude.{Bool, true, false, not, max, Option, Some, None, is_some, ◌==◌, ◌&&◌, if◌then◌else◌}
use Rattle.std.proofs.lemmas.Bool.Decides.{nat_tests}
use Rattle.tcp_reasm.specs.Reassembly.{Cell, Run, runs_from, with_place}
use Rattle.tcp_reasm.specs.Laws.{beginnings}

eq_self : (n : ℕ) → (n == n) ≡ true
eq_self n = grind (arith, nat_tests)

eq_above : (m n : ℕ) → suc n ≤ m → (m == n) ≡ false
eq_above m n h = grind (arith, nat_tests)

-- whether the first run begins right at a place
abbrev pub begins_at : ℕ → List Run → Bool
begins_at place [] = false
begins_at place (run ∷ others) = run.from == place

abbrev pub is_held_first : List (Option Cell) → Bool
is_held_first [] = false
is_held_first (None ∷ places) = false
is_held_first (Some cell ∷ places) = true

-- no run begins before a place
abbrev pub BeginFrom : ℕ → List Run → Type 0
BeginFrom place [] = Unit {0}
BeginFrom place (run ∷ others) = place ≤ run.from

with_place-from : (place stamp : ℕ) (others : List Run) → BeginFrom place (with_place place stamp others)
with_place-from place stamp [] = omega arith
with_place-from place stamp (run ∷ others) =
    elim (run.from == suc place) as (λ b. BeginFrom place (if b then record { from = place; to = run.to; stamp = max stamp run.stamp } ∷ others else record { from = place; to = suc place; stamp = stamp } ∷ run ∷ others))
    [ true ↦ omega arith | false ↦ omega arith ]

BeginFrom-weaken : (place : ℕ) (others : List Run) → BeginFrom (suc place) others → BeginFrom place others
BeginFrom-weaken place [] h = tt
BeginFrom-weaken place (run ∷ others) h = omega arith

pub runs_from-from : (place : ℕ) (places : List (Option Cell)) → BeginFrom place (runs_from place places)
runs_from-from place [] = tt
runs_from-from place (None ∷ places) = BeginFrom-weaken place (runs_from (suc place) places) (runs_from-from (suc place) places)
runs_from-from place (Some cell ∷ places) = with_place-from place cell.stamp (runs_from (suc place) places)

with_place-begins : (place stamp : ℕ) (others : List Run) → begins_at place (with_place place stamp others) ≡ true
with_place-begins place stamp [] = grind (arith, nat_tests)
with_place-begins place stamp (run ∷ others) =
    elim (run.from == suc place) as (λ b. begins_at place (if b then record { from = place; to = run.to; stamp = max stamp run.stamp } ∷ others else record { from = place; to = suc place; stamp = stamp } ∷ run ∷ others) ≡ true)
    [ true ↦ eq_self place | false ↦ eq_self place ]

later-begins_not : (place : ℕ) (others : List Run) → BeginFrom (suc place) others → begins_at place others ≡ false
later-begins_not place [] h = refl
later-begins_not place (run ∷ others) h = eq_above run.from place h

-- the first run begins at the first place exactly where that has a byte
pub begins_at-runs_from : (place : ℕ) (places : List (Option Cell)) → begins_at place (runs_from place places) ≡ is_held_first places
begins_at-runs_from place [] = refl
begins_at-runs_from place (None ∷ places) = later-begins_not place (runs_from (suc place) places) (runs_from-from (suc place) places)
begins_at-runs_from place (Some cell ∷ places) = with_place-begins place cell.stamp (runs_from (suc place) places)

length-with_place : (place stamp : ℕ) (others : List Run) → length (with_place place stamp others) ≡ (if begins_at (suc place) others then length others else suc (length others))
length-with_place place stamp [] = refl
length-with_place place stamp (run ∷ others) =
    elim (run.from == suc place) as (λ b. length (if b then record { from = place; to = run.to; stamp = max stamp run.stamp } ∷ others else record { from = place; to = suc place; stamp = stamp } ∷ run ∷ others) ≡ (if b then length (run ∷ others) else suc (length (run ∷ others))))
    [ true ↦ refl | false ↦ refl ]

beginnings-held : (cell : Cell) (places : List (Option Cell)) → beginnings false (Some cell ∷ places) ≡ (if is_held_first places then beginnings false places else suc (beginnings false places))
beginnings-held cell [] = refl
beginnings-held cell (None ∷ places) = refl
beginnings-held cell (Some other ∷ places) = refl

pub length-runs_from : (place : ℕ) (places : List (Option Cell)) → length (runs_from place places) ≡ beginnings false places
length-runs_from place [] = refl
length-runs_from place (None ∷ places) = length-runs_from (suc place) places
length-runs_from place (Some cell ∷ places) =
    length-with_place place cell.stamp (runs_from (suc place) places)
    ∙ ap (λ b. if b then length (runs_from (suc place) places) else suc (length (runs_from (suc place) places))) (begins_at-runs_from (suc place) places)
    ∙ ap (λ n. if is_held_first places then n else suc n) (length-runs_from (suc place) places)
    ∙ sym (beginnings-held cell places)

-- one place further
pub beginnings-step : (before : Bool) (place : Option Cell) (places : List (Option Cell)) → beginnings before (place ∷ places) ≡ (if is_some place && not before then 1 else 0) + beginnings (is_some place) places
beginnings-step before None places = omega arith
beginnings-step true (Some cell) places = omega arith
beginnings-step false (Some cell) places = omega arith

-- from a later place on there are no more runs
beginnings-weaken : (places : List (Option Cell)) → beginnings true places ≤ beginnings false places
beginnings-weaken [] = omega arith
beginnings-weaken (None ∷ places) = omega arith
beginnings-weaken (Some cell ∷ places) = omega arith

beginnings-less : (places : List (Option Cell)) → beginnings false places ≤ suc (beginnings true places)
beginnings-less [] = omega arith
beginnings-less (None ∷ places) = omega arith
beginnings-less (Some cell ∷ places) = omega arith

pub beginnings-drop : (n : ℕ) (places : List (Option Cell)) → beginnings false (drop n places) ≤ beginnings false places
beginnings-drop zero places = omega arith
beginnings-drop (suc n) [] = omega arith
beginnings-drop (suc n) (None ∷ places) = beginnings-drop n places
beginnings-drop (suc n) (Some cell ∷ places) = omega (arith, beginnings-drop n places, beginnings-less places)
