-- A list is cut at the first element that equals this one.
use Rattle.std.proofs.Common.{◌≡◌, ℕ, zero, suc, ◌<◌, false, eqb, List, [], ◌∷◌, length, get_or, take, drop, refl, ap, ◌∙◌, arith, eq-eqb}
use Rattle.std.specs.List.{slice_split, onto_first}
use Rattle.std.proofs.lemmas.List.Splits.{slice_split-cons_yes, slice_split-cons_no}

pub slice_split-first : (at : ℕ) (bytes : List ℕ) (i : ℕ) → i < length bytes → ((k : ℕ) → k < i → eqb (get_or bytes k 0) at ≡ false) → get_or bytes i 0 ≡ at
    → slice_split (λ b. eqb b at) bytes ≡ take i bytes ∷ slice_split (λ b. eqb b at) (drop (suc i) bytes)
slice_split-first at [] i within before here = absurd (omega arith)
slice_split-first at (x ∷ xs) zero within before here = slice_split-cons_yes (λ b. eqb b at) x xs (eq-eqb x at here)
slice_split-first at (x ∷ xs) (suc i) within before here =
    slice_split-cons_no (λ b. eqb b at) x xs (before 0 (omega arith))
    ∙ ap (onto_first x) (slice_split-first at xs i (omega arith) (λ k below. before (suc k) (omega arith)) here)

pub slice_split-nowhere : (at : ℕ) (bytes : List ℕ) → ((k : ℕ) → k < length bytes → eqb (get_or bytes k 0) at ≡ false) → slice_split (λ b. eqb b at) bytes ≡ bytes ∷ []
slice_split-nowhere at [] none = refl
slice_split-nowhere at (x ∷ xs) none =
    slice_split-cons_no (λ b. eqb b at) x xs (none 0 (omega arith))
    ∙ ap (onto_first x) (slice_split-nowhere at xs (λ k below. none (suc k) (omega arith)))
