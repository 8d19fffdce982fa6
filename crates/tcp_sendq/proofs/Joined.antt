-- Lemmas on two lists read as one.
use Rattle.std.proofs.Common.{◌≡◌, ℕ, zero, suc, ◌-◌, List, [], ◌∷◌, ◌++◌, length, take, drop, refl, ap, ◌∙◌, ◌+◌, ◌≤◌, arith}
use Rattle.std.proofs.lemmas.List.{append-nil, length-drop}

pub drop-joined : {X : Type 0} (n : ℕ) (xs ys : List X) → drop n (xs ++ ys) ≡ drop n xs ++ drop (n - length xs) ys
drop-joined zero [] ys = refl
drop-joined (suc n) [] ys = let e : suc n - 0 ≡ suc n = omega arith in rw e refl
drop-joined zero (x ∷ xs) ys = let e : 0 - length (x ∷ xs) ≡ 0 = omega arith in rw e refl
drop-joined (suc n) (x ∷ xs) ys =
    let e : suc n - suc (length xs) ≡ n - length xs = omega arith in rw e (drop-joined n xs ys)

pub take-joined : {X : Type 0} (n : ℕ) (xs ys : List X) → take n (xs ++ ys) ≡ take n xs ++ take (n - length xs) ys
take-joined zero [] ys = refl
take-joined (suc n) [] ys = let e : suc n - 0 ≡ suc n = omega arith in rw e refl
take-joined zero (x ∷ xs) ys = let e : 0 - length (x ∷ xs) ≡ 0 = omega arith in rw e refl
take-joined (suc n) (x ∷ xs) ys =
    let e : suc n - suc (length xs) ≡ n - length xs = omega arith in rw e (ap (λ zs. x ∷ zs) (take-joined n xs ys))

-- a part that ends in the first list
pub inside : {X : Type 0} (n at : ℕ) (xs ys : List X) → at + n ≤ length xs → take n (drop at (xs ++ ys)) ≡ take n (drop at xs)
inside n at xs ys h =
    let both = ap (take n) (drop-joined at xs ys) ∙ take-joined n (drop at xs) (drop (at - length xs) ys) in
    let none : n - length (drop at xs) ≡ 0 = omega (arith, h, length-drop at xs) in
    both ∙ ap (λ (k : ℕ). take n (drop at xs) ++ take k (drop (at - length xs) ys)) none ∙ append-nil (take n (drop at xs))

pub ruleset joined = (drop-joined, take-joined)
