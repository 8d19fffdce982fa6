-- Bytes that pass in several calls.
use Rattle.std.proofs.Common.{◌≡◌, ℕ, zero, suc, List, [], ◌∷◌, ◌++◌, take, drop, subst, arith, Option, Some, None, ap, ◌∙◌, append_assoc, ◌+◌, ◌&&◌, cond, eqb, ltb, ne_eqb}
use Rattle.std.proofs.lemmas.List.{append-nil}
use Rattle.std.proofs.Math.Seq.{take-nil, drop-nil}
use Rattle.std.specs.Io.KnownBytes.{Appends, Keeps}

pub Appends-more : (a b c : Option (List ℕ)) (xs ys : List ℕ) → Appends a b xs → Appends b c ys → Appends a c (xs ++ ys)
Appends-more None b c xs ys h k = tt
Appends-more (Some ks) None c xs ys h k = absurd h
Appends-more (Some ks) (Some bs) None xs ys h k = absurd k
Appends-more (Some ks) (Some bs) (Some cs) xs ys h k = k ∙ ap (λ zs. zs ++ ys) h ∙ append_assoc ks xs ys

pub Appends-kept : (a b c : Option (List ℕ)) (xs : List ℕ) → Appends a b xs → Keeps b c → Appends a c xs
Appends-kept None b c xs h k = tt
Appends-kept (Some ks) None c xs h k = absurd h
Appends-kept (Some ks) (Some bs) None xs h k = absurd k
Appends-kept (Some ks) (Some bs) (Some cs) xs h k = k ∙ h

pub Appends-nothing : (a b c : Option (List ℕ)) (xs ys : List ℕ) (n : ℕ) → n ≡ 0 → Appends a b xs → Appends b c (take n ys) → Appends a c xs
Appends-nothing a b c xs ys n is_zero h k =
    let none : Appends b c [] = rw is_zero at k in subst (Appends a c) (append-nil xs) (Appends-more a b c xs [] h none)

take-empty : {X : Type 0} (n m k : ℕ) → take {A = X} n [] ++ take m (drop n []) ≡ take k []
take-empty n m k = simp (take-nil, drop-nil)

-- a front, and a front of what follows it
pub take-more : {X : Type 0} (n m k : ℕ) (xs : List X) → k ≡ n + m → take n xs ++ take m (drop n xs) ≡ take k xs
take-more n m k [] e = take-empty n m k
take-more zero m k (x ∷ xs) e = let same : m ≡ k = omega arith in ap (λ j. take j (x ∷ xs)) same
take-more (suc n) m zero (x ∷ xs) e = absurd (omega arith)
take-more (suc n) m (suc k) (x ∷ xs) e = ap (λ ys. x ∷ ys) (take-more n m k xs (omega arith))

-- a write of some bytes is no failure
pub some-written : (n m a b : ℕ) → (n ≡ 0 → ⊥) → a ≡ b + cond (eqb n 0 && ltb 0 m) 1 0 → a ≡ b
some-written n m a b some is = let here = rw (ne_eqb n 0 some) at is in omega arith
