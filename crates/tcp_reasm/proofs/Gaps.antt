-- How far what is kept reaches from a place of a text on, and how far the gap after it reaches.
use Rattle.std.proofs.Common.{◌≡◌, ℕ, ◌<◌, ◌≤◌, inl, inr, List, [], ◌∷◌, refl, sym, subst, arith}
use Rattle.std.specs.Prelude.{true, false, min, if◌then◌else◌}
use Rattle.std.proofs.lemmas.Bool.{cases_lt}
use Rattle.std.proofs.lemmas.Bool.Decides.{nat_tests}
use Rattle.tcp_reasm.specs.Reassembly.{Run, is_within}
use Rattle.tcp_reasm.specs.Laws.{SomeCovers}
use Rattle.tcp_reasm.specs.Store.{held_to, gap_before, gap_to}
use Rattle.tcp_reasm.proofs.Described.{within_tells}

within_not : (place : ℕ) (run : Run) → is_within place run ≡ false → run.from ≤ place → place < run.to → ⊥
within_not place run e low high = grind (arith, nat_tests)

pub held_to_least : (all : List Run) (place : ℕ) → place ≤ held_to all place
held_to_least [] place = omega arith
held_to_least (run ∷ others) place =
    (elim (is_within place run) as (λ b. is_within place run ≡ b → place ≤ (if b then run.to else held_to others place)) [
      | true ↦ λ e. let h = within_tells place run.from run.to e in omega (arith, h.1)
      | false ↦ λ e. held_to_least others place
    ]) refl

pub held_to_held : (all : List Run) (place i : ℕ) → place ≤ i → i < held_to all place → SomeCovers all i
held_to_held [] place i low high = absurd (omega arith)
held_to_held (run ∷ others) place i low high =
    (elim (is_within place run) as (λ b. is_within place run ≡ b → i < (if b then run.to else held_to others place) → SomeCovers (run ∷ others) i) [
      | true ↦ λ e h. let is = within_tells place run.from run.to e in inl (omega (arith, is.0), h)
      | false ↦ λ e h. inr (held_to_held others place i low h)
    ]) refl high

pub held_to_none : (all : List Run) (place : ℕ) → held_to all place ≡ place → SomeCovers all place → ⊥
held_to_none [] place same c = c
held_to_none (run ∷ others) place same c =
    (elim (is_within place run) as (λ b. is_within place run ≡ b → (if b then run.to else held_to others place) ≡ place → ⊥) [
      | true ↦ λ e s. let is = within_tells place run.from run.to e in omega (arith, is.1)
      | false ↦ λ e s. elim c [ inl h ↦ within_not place run e h.0 h.1 | inr d ↦ held_to_none others place s d ]
    ]) refl same

gap_before_most : (run : Run) (place end : ℕ) → place ≤ end → gap_before run place end ≤ end
gap_before_most run place end h = grind (arith, nat_tests)

gap_before_least : (run : Run) (place end : ℕ) → place ≤ end → place ≤ gap_before run place end
gap_before_least run place end h = grind (arith, nat_tests)

gap_before_free : (run : Run) (place end i : ℕ) → place ≤ i → i < gap_before run place end → run.from ≤ i → i < run.to → ⊥
gap_before_free run place end i low below from to = grind (arith, nat_tests)

gap_before_some : (run : Run) (place end : ℕ) → place < end → (run.from ≤ place → place < run.to → ⊥) → place < gap_before run place end
gap_before_some run place end h free =
    elim (cases_lt place run.from) [
      | inl before ↦ grind (arith, nat_tests)
      | inr from ↦ elim (cases_lt place run.to) [ inl to ↦ absurd (free from to) | inr behind ↦ grind (arith, nat_tests) ]
    ]

pub gap_to_most : (all : List Run) (place end : ℕ) → place ≤ end → gap_to all place end ≤ end
gap_to_most [] place end h = omega arith
gap_to_most (run ∷ others) place end h =
    omega (arith, gap_before_most run place end h, gap_to_most others place (gap_before run place end) (gap_before_least run place end h))

pub gap_to_least : (all : List Run) (place end : ℕ) → place ≤ end → place ≤ gap_to all place end
gap_to_least [] place end h = h
gap_to_least (run ∷ others) place end h = gap_to_least others place (gap_before run place end) (gap_before_least run place end h)

pub gap_to_free : (all : List Run) (place end i : ℕ) → place ≤ end → place ≤ i → i < gap_to all place end → SomeCovers all i → ⊥
gap_to_free [] place end i fits low high c = c
gap_to_free (run ∷ others) place end i fits low high (inl h) =
    gap_before_free run place end i low (omega (arith, gap_to_most others place (gap_before run place end) (gap_before_least run place end fits))) h.0 h.1
gap_to_free (run ∷ others) place end i fits low high (inr c) =
    gap_to_free others place (gap_before run place end) i (gap_before_least run place end fits) low high c

pub gap_to_some : (all : List Run) (place end : ℕ) → place < end → (SomeCovers all place → ⊥) → place < gap_to all place end
gap_to_some [] place end h free = h
gap_to_some (run ∷ others) place end h free =
    gap_to_some others place (gap_before run place end) (gap_before_some run place end h (λ from to. free (inl (from, to)))) (λ c. free (inr c))

-- each turn over a text gets further
pub turn_goes_on : (all : List Run) (place end : ℕ) → place < end → place < gap_to all (min (held_to all place) end) end
turn_goes_on all place end h =
    elim (cases_lt place (held_to all place)) [
      | inl further ↦ omega (arith, gap_to_least all (min (held_to all place) end) end (omega arith))
      | inr not ↦
          let same : held_to all place ≡ place = omega (arith, held_to_least all place) in
          let here : min (held_to all place) end ≡ place = omega arith in
          subst (λ p. place < gap_to all p end) (sym here) (gap_to_some all place end h (held_to_none all place same))
    ]
