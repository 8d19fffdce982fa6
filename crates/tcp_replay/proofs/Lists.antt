-- Cases by a test, prefixes of lists, bytes, and the numbers of positions.
use Rattle.tcp_replay.proofs.Words.{if◌then◌else◌, length, length-append}
use Rattle.tcp_replay.proofs.Words.{length-take, List, nil_from_length, None, number, Option, refl, Some, suc, sym, take, true, zero, ℕ, ◌∙◌, ◌∷◌, ◌≡◌}
use Rattle.tcp_replay.proofs.Words.{◌≤◌, ◌%◌, ◌&&◌, ◌++◌, ◌+◌, ◌-◌, ◌<◌, [], ◌^◌, Agrees, ap, arith, Bool, Cell, drop, false}

-- what holds by a test, either way
pub by_test : (b : Bool) (P : Bool → Type 0) → (b ≡ true → P true) → (b ≡ false → P false) → P b
by_test true P holds fails = holds refl
by_test false P holds fails = fails refl

-- how many numbers a FIN takes, where there is one
abbrev pub one_if : Bool → ℕ
one_if b = if b then 1 else 0

-- a flag that is not set counts nothing
pub one_if-false : (b : Bool) → b ≡ false → one_if b ≡ 0
one_if-false b e = rw e refl

-- a flag counts one at most
pub one_if-most : (b : Bool) → one_if b ≤ 1
one_if-most true = omega arith
one_if-most false = omega arith

-- where both of two tests, or either, fails
pub and-fails : (a b : Bool) → (a && b) ≡ false → a ≡ true → b ≡ false
and-fails true b e holds = e
and-fails false b e holds = absurd (cc)

-- a stream that grows still agrees with what is held
pub Agrees-more : (held : List (Option Cell)) (rest more : List ℕ) → Agrees held rest → Agrees held (rest ++ more)
Agrees-more [] rest more h = tt
Agrees-more (None ∷ places) [] [] h = h
Agrees-more (None ∷ places) [] (byte ∷ more) h = Agrees-more places [] more h
Agrees-more (None ∷ places) (byte ∷ rest) more h = Agrees-more places rest more h
Agrees-more (Some cell ∷ places) [] more h = absurd h
Agrees-more (Some cell ∷ places) (byte ∷ rest) more h = (h.0, Agrees-more places rest more h.1)

-- nothing is taken of nothing
pub take-none : (n : ℕ) → take {A = ℕ} n [] ≡ []
take-none zero = refl
take-none (suc n) = refl

-- what is behind a front of a front
pub drop-take_sub : (k n : ℕ) (xs : List ℕ) → drop k (take n xs) ≡ take (n - k) (drop k xs)
drop-take_sub zero n xs = let e : n ≡ n - zero = omega arith in ap (λ m. take m xs) e
drop-take_sub (suc k) zero xs = let e : zero ≡ zero - suc k = omega arith in ap (λ m. take m (drop (suc k) xs)) e
drop-take_sub (suc k) (suc n) [] = sym (take-none (suc n - suc k))
drop-take_sub (suc k) (suc n) (x ∷ xs) = drop-take_sub k n xs ∙ (let e : n - k ≡ suc n - suc k = omega arith in ap (λ m. take m (drop k xs)) e)

-- a list that comes before another one in a prefix is a prefix
pub front-is : (front more whole : List ℕ) (n : ℕ) → front ++ more ≡ take n whole → front ≡ take (length front) whole
front-is [] more whole n e = refl
front-is (x ∷ front) more whole zero e = absurd (cc)
front-is (x ∷ front) more [] (suc n) e = absurd (cc)
front-is (x ∷ front) more (w ∷ whole) (suc n) e = let rest = front-is front more whole n (cc) in cc

-- after all of a list nothing more of it follows
pub nothing-follows : (front more whole : List ℕ) (n : ℕ) → front ++ more ≡ take n whole → front ≡ whole → more ≡ []
nothing-follows front more whole n e is =
    nil_from_length more (omega (arith, length-append front more, ap length e, length-take n whole, ap length is))

-- the number after some text
pub number-further : (s p n w : ℕ) → w ≡ number s p → (w + n) % 2 ^ 32 ≡ number s (p + n)
number-further s p n w e = omega arith

-- two positions that differ by less than 2^32, with one number, are one
pub number-same : (s p q : ℕ) → q ≤ p → p < q + 2 ^ 32 → number s p ≡ number s q → p ≡ q
number-same s p q order close e = omega arith
