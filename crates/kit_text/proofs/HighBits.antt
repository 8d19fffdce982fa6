-- The highest bits of the bytes of a word, which are all clear where no byte is above 7f.
use Rattle.std.proofs.Common.{◌≡◌, ℕ, zero, suc, ◌+◌, ◌*◌, ◌<◌, ◌≤◌, ◌/◌, ◌%◌, ltb, eqb, Bool, true, false, ◌&&◌, List, [], ◌∷◌, length, take, drop, refl, ap, ap₂, ◌∙◌, arith}
use Rattle.std.specs.Prelude.{bit_and}
use Rattle.std.specs.List.{slice_index, list_all}
use Rattle.std.proofs.lemmas.Nat.{and_block}
use Rattle.std.proofs.lemmas.Nat.Bits.{and_high}
use Rattle.std.proofs.lemmas.Bool.{ltb-true, ltb-false}
use Rattle.byteorder.specs.Endian.{little_from}
use Rattle.byteorder.specs.Numbers.{little_from-cons}

-- the highest bit of each of n bytes
abbrev pub high_bits : ℕ → ℕ
high_bits zero = 0
high_bits (suc n) = high_bits n * 256 + 128

same_zero : (m n : ℕ) → m ≡ n * 256 → eqb m 0 ≡ eqb n 0
same_zero m n e = go (eqb m 0) (eqb n 0) refl refl
  where
    go : (a b : Bool) → eqb m 0 ≡ a → eqb n 0 ≡ b → a ≡ b
    go true true p q = refl
    go false false p q = refl
    go true false p q = absurd (grind arith)
    go false true p q = absurd (grind arith)

not_zero : (m : ℕ) → 0 < m → eqb m 0 ≡ false
not_zero m some = go (eqb m 0) refl
  where
    go : (b : Bool) → eqb m 0 ≡ b → b ≡ false
    go true p = absurd (grind arith)
    go false p = refl

-- a byte's, above those of the bytes behind it
clear : (behind x : ℕ) → x < 256 → eqb (behind * 256 + (x / 128 % 2) * 128) 0 ≡ (ltb x 128 && eqb behind 0)
clear behind x small = go (ltb x 128) refl
  where
    go : (b : Bool) → ltb x 128 ≡ b → eqb (behind * 256 + (x / 128 % 2) * 128) 0 ≡ (b && eqb behind 0)
    go true e = same_zero (behind * 256 + (x / 128 % 2) * 128) behind (omega (arith, ltb-true x 128 e))
    go false e = not_zero (behind * 256 + (x / 128 % 2) * 128) (omega (arith, ltb-false x 128 e, small))

pub all_clear : (n : ℕ) (xs : List ℕ) → n ≤ length xs → ((i : ℕ) → slice_index xs i < 256)
    → eqb (bit_and (little_from 0 n xs) (high_bits n)) 0 ≡ list_all (λ b. ltb b 128) (take n xs)
all_clear zero xs inside small = refl
all_clear (suc n) [] inside small = absurd (omega arith)
all_clear (suc n) (x ∷ xs) inside small =
    let behind = little_from 0 n xs in
    let number : x + 256 * little_from 1 n (x ∷ xs) ≡ behind * 256 + x = omega (arith, little_from-cons 0 n x xs) in
    let split : bit_and (behind * 256 + x) (high_bits n * 256 + 128) ≡ bit_and behind (high_bits n) * 256 + bit_and x 128 =
    and_block 8 behind (high_bits n) x 128 (small 0) (omega arith) in
    let high : bit_and x 128 ≡ (x / 128 % 2) * 128 = and_high x 1 7 in
    let rest = all_clear n xs (omega arith) (λ i. small (suc i)) in
    ap (λ (m : ℕ). eqb (bit_and m (high_bits n * 256 + 128)) 0) number
    ∙ ap (λ (m : ℕ). eqb m 0) (split ∙ ap (λ (m : ℕ). bit_and behind (high_bits n) * 256 + m) high)
    ∙ clear (bit_and behind (high_bits n)) x (small 0)
    ∙ ap (λ b. ltb x 128 && b) rest

-- ---- eight words are a load

and_again : (a b c : Bool) → ((a && b) && c) ≡ (a && (b && c))
and_again true b c = refl
and_again false b c = refl

pub all_more : (p : ℕ → Bool) (n m : ℕ) (xs : List ℕ) → n ≤ length xs
    → (list_all p (take n xs) && list_all p (take m (drop n xs))) ≡ list_all p (take (n + m) xs)
all_more p zero m xs inside = ap (λ (k : ℕ). list_all p (take k xs)) (omega arith)
all_more p (suc n) m [] inside = absurd (omega arith)
all_more p (suc n) m (x ∷ xs) inside =
    let more : suc (n + m) ≡ suc n + m = omega arith in
    and_again (p x) (list_all p (take n xs)) (list_all p (take m (drop n xs)))
    ∙ ap (λ b. p x && b) (all_more p n m xs (omega arith))
    ∙ ap (λ (k : ℕ). list_all p (take k (x ∷ xs))) more

-- a word more
pub words_more : (n : ℕ) (bytes : List ℕ) {part : List ℕ} {some next : Bool} → n + 8 ≤ length bytes → some ≡ list_all (λ b. ltb b 128) (take n bytes)
    → part ≡ drop n bytes → next ≡ list_all (λ b. ltb b 128) (take 8 part) → (some && next) ≡ list_all (λ b. ltb b 128) (take (n + 8) bytes)
words_more n bytes fits before is here =
    ap₂ (λ a b. a && b) before (here ∙ ap (λ (xs : List ℕ). list_all (λ b. ltb b 128) (take 8 xs)) is)
    ∙ all_more (λ b. ltb b 128) n 8 bytes (omega (arith, fits))
