-- Blocks and loads of bytes that are passed over, since none of them is the one that is looked for.
use Rattle.std.proofs.Common.{◌≡◌, ℕ, zero, suc, ◌+◌, ◌-◌, ◌<◌, ltb, eqb, Bool, true, false, ◌||◌, List, drop, get_or, refl, sym, ap, ap₂, subst, ◌∙◌, arith}
use Rattle.std.proofs.lemmas.Bool.{ltb-true, ltb-false}
use Rattle.std.proofs.lemmas.List.{get_or-drop}
use Rattle.kit_text.specs.Cutting.{IsNowhere, any_below}

neither : (a b : Bool) → (a || b) ≡ false → (a ≡ false) × (b ≡ false)
neither false false e = (refl, refl)
neither false true e = cc e
neither true b e = cc e

up_to : (test : ℕ → Bool) (n k : ℕ) → k < suc n → ((j : ℕ) → j < n → test j ≡ false) → test n ≡ false → test k ≡ false
up_to test n k low before last = go (ltb k n) refl
  where
    go : (b : Bool) → ltb k n ≡ b → test k ≡ false
    go true e = before k (ltb-true k n e)
    go false e = subst (λ (j : ℕ). test j ≡ false) (omega (arith, ltb-false k n e, low)) last

-- a test that passes at none of the first n places
pub none_below : (test : ℕ → Bool) (n : ℕ) → any_below test n ≡ false → (k : ℕ) → k < n → test k ≡ false
none_below test zero none k low = absurd (omega arith)
none_below test (suc n) none k low =
    let parts = neither (any_below test n) (test n) none in
    up_to test n k low (none_below test n parts.0) parts.1

-- n bytes more
passed : (at i n : ℕ) (bytes part : List ℕ) → IsNowhere at bytes i → part ≡ drop i bytes → ((j : ℕ) → j < n → eqb (get_or part j 0) at ≡ false) → IsNowhere at bytes (i + n)
passed at i n bytes part before is none k low = go (ltb k i) refl
  where
    go : (b : Bool) → ltb k i ≡ b → eqb (get_or bytes k 0) at ≡ false
    go true e = before k (ltb-true k i e)
    go false e =
        let place : i + (k - i) ≡ k = omega (arith, ltb-false k i e) in
        let same : get_or part (k - i) 0 ≡ get_or bytes k 0 = ap (λ (xs : List ℕ). get_or xs (k - i) 0) is ∙ get_or-drop i bytes (k - i) 0 ∙ ap (λ (j : ℕ). get_or bytes j 0) place in
        ap (λ (x : ℕ). eqb x at) (sym same) ∙ none (k - i) (omega (arith, ltb-false k i e, low))

-- a block more
pub block_passed : (at i : ℕ) (bytes part : List ℕ) → IsNowhere at bytes i → part ≡ drop i bytes → any_below (λ k. eqb (get_or part k 0) at) 16 ≡ false → IsNowhere at bytes (i + 16)
block_passed at i bytes part before is none = passed at i 16 bytes part before is (none_below (λ j. eqb (get_or part j 0) at) 16 none)

-- a load more
pub load_passed : (at i : ℕ) (bytes part : List ℕ) → IsNowhere at bytes i → part ≡ drop i bytes → any_below (λ k. eqb (get_or part k 0) at) 64 ≡ false → IsNowhere at bytes (i + 64)
load_passed at i bytes part before is none = passed at i 64 bytes part before is (none_below (λ j. eqb (get_or part j 0) at) 64 none)

-- ---- four blocks are a load

or_again : (a b c : Bool) → ((a || b) || c) ≡ (a || (b || c))
or_again true b c = refl
or_again false b c = refl

any_same : (f g : ℕ → Bool) (n : ℕ) → ((k : ℕ) → k < n → f k ≡ g k) → any_below f n ≡ any_below g n
any_same f g zero same = refl
any_same f g (suc n) same =
    ap (λ b. b || f n) (any_same f g n (λ k low. same k (omega (arith, low)))) ∙ ap (λ b. any_below g n || b) (same n (omega arith))

any_more : (f : ℕ → Bool) (n m : ℕ) → any_below f (n + m) ≡ (any_below f n || any_below (λ k. f (n + k)) m)
any_more f n zero =
    let same : n + zero ≡ n = omega arith in
    ap (any_below f) same ∙ sym (or_nothing (any_below f n))
  where
    or_nothing : (b : Bool) → (b || false) ≡ b
    or_nothing true = refl
    or_nothing false = refl
any_more f n (suc m) =
    let more : n + suc m ≡ suc (n + m) = omega arith in
    ap (any_below f) more ∙ ap (λ b. b || f (n + m)) (any_more f n m) ∙ or_again (any_below f n) (any_below (λ k. f (n + k)) m) (f (n + m))

-- a test of the bytes from a place on
from_place : (at n : ℕ) (bytes part : List ℕ) → part ≡ drop n bytes
    → any_below (λ k. eqb (get_or part k 0) at) 16 ≡ any_below (λ k. eqb (get_or bytes (n + k) 0) at) 16
from_place at n bytes part is =
    any_same (λ k. eqb (get_or part k 0) at) (λ k. eqb (get_or bytes (n + k) 0) at) 16
    (λ k low. ap (λ x. eqb x at) (ap (λ (xs : List ℕ). get_or xs k 0) is ∙ get_or-drop n bytes k 0))

-- the tests of four blocks in turn
pub four_blocks : (at : ℕ) (bytes second third fourth : List ℕ) → second ≡ drop 16 bytes → third ≡ drop 32 bytes → fourth ≡ drop 48 bytes
    → (((any_below (λ k. eqb (get_or bytes k 0) at) 16 || any_below (λ k. eqb (get_or second k 0) at) 16) || any_below (λ k. eqb (get_or third k 0) at) 16) || any_below (λ k. eqb (get_or fourth k 0) at) 16)
    ≡ any_below (λ k. eqb (get_or bytes k 0) at) 64
four_blocks at bytes second third fourth is-second is-third is-fourth =
    let test : ℕ → Bool = λ k. eqb (get_or bytes k 0) at in
    let two = ap (λ b. any_below test 16 || b) (from_place at 16 bytes second is-second) ∙ sym (any_more test 16 16) in
    let three = ap₂ (λ a b. a || b) two (from_place at 32 bytes third is-third) ∙ sym (any_more test 32 16) in
    ap₂ (λ a b. a || b) three (from_place at 48 bytes fourth is-fourth) ∙ sym (any_more test 48 16)
