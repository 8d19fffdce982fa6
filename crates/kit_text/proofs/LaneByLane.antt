-- What operations on vectors of bytes give, lane by lane.
use Rattle.std.proofs.Common.{◌≡◌, ℕ, zero, suc, ◌+◌, ◌*◌, ◌≤◌, ◌%◌, ◌^◌, eqb, Bool, true, false, not, ◌&&◌, cond, List, [], ◌∷◌, map, length, replicate, Fits, w8, refl, sym, ap, ap₂, ◌∙◌, arith}
use Rattle.std.proofs.lemmas.Bool.{agree_below, agree_below_at, eqb-true, ne_eqb}
use Rattle.std.proofs.lemmas.List.{length-map}
use Rattle.std.proofs.lemmas.Simd.{mask_l-mod}
use Rattle.std.specs.List.{list_all}
use lib.Lanes.{zip2, sel_l, mask_l, top, Each1}

zip2-map : (h : ℕ → ℕ → ℕ) (f g : ℕ → ℕ) (xs : List ℕ) → zip2 h (map f xs) (map g xs) ≡ map (λ x. h (f x) (g x)) xs
zip2-map h f g [] = refl
zip2-map h f g (x ∷ xs) = ap (λ r. h (f x) (g x) ∷ r) (zip2-map h f g xs)

-- an operation on two vectors that were computed lane by lane from v
pub joined : (h : ℕ → ℕ → ℕ) (f g : ℕ → ℕ) (v : List ℕ) {a b : List ℕ} → a ≡ map f v → b ≡ map g v → zip2 h a b ≡ map (λ x. h (f x) (g x)) v
joined h f g v p q = ap₂ (zip2 h) p q ∙ zip2-map h f g v

sel_l-map : (f g h : ℕ → ℕ) (v : List ℕ) → sel_l (map (top 7) (map f v)) (map g v) (map h v) ≡ map (λ x. cond (top 7 (f x)) (g x) (h x)) v
sel_l-map f g h [] = refl
sel_l-map f g h (x ∷ xs) = ap (λ r. cond (top 7 (f x)) (g x) (h x) ∷ r) (sel_l-map f g h xs)

-- a choice between two vectors by a third
pub chosen : (f g h : ℕ → ℕ) (v : List ℕ) {ms xs ys : List ℕ} → ms ≡ map f v → xs ≡ map g v → ys ≡ map h v → sel_l (map (top 7) ms) xs ys ≡ map (λ x. cond (top 7 (f x)) (g x) (h x)) v
chosen f g h v {ms} {xs} {ys} p q r = ap (λ (zs : List ℕ). sel_l (map (top 7) zs) xs ys) p ∙ ap₂ (sel_l (map (top 7) (map f v))) q r ∙ sel_l-map f g h v

pub splat_is : (v : List ℕ) (n y : ℕ) → length v ≡ n → replicate n y ≡ map (λ _. y) v
splat_is [] n y e = ap (λ k. replicate k y) (sym e)
splat_is (x ∷ xs) n y e = ap (λ k. replicate k y) (sym e) ∙ ap (λ r. y ∷ r) (splat_is xs (length xs) y refl)

pub itself : (v : List ℕ) → v ≡ map (λ x. x) v
itself [] = refl
itself (x ∷ xs) = ap (λ r. x ∷ r) (itself xs)

-- two functions that agree at each byte
pub same_lanes : (f g : ℕ → ℕ) → agree_below (λ c. eqb (f c) (g c)) (λ _. true) 256 ≡ true → (v : List ℕ) → Each1 (Fits w8) v → map f v ≡ map g v
same_lanes f g all [] fits = refl
same_lanes f g all (x ∷ xs) fits =
    ap₂ (λ a b. a ∷ b) (eqb-true (f x) (g x) (agree_below_at (λ c. eqb (f c) (g c)) (λ _. true) 256 x all fits.0.fits)) (same_lanes f g all xs fits.1)

-- no bit is set
clear_bits : (b : Bool) (m : ℕ) → eqb (cond (not b) 1 0 + 2 * m) 0 ≡ b && eqb m 0
clear_bits true zero = refl
clear_bits true (suc m) = ne_eqb (0 + 2 * suc m) 0 (λ e. absurd (omega (arith, e))) ∙ sym (ne_eqb (suc m) 0 (λ e. absurd (omega (arith, e))))
clear_bits false m = ne_eqb (1 + 2 * m) 0 (λ e. absurd (omega (arith, e)))

all_clear : (p : ℕ → Bool) (v : List ℕ) → eqb (mask_l (map (λ x. not (p x)) v)) 0 ≡ list_all p v
all_clear p [] = refl
all_clear p (x ∷ xs) = clear_bits (p x) (mask_l (map (λ y. not (p y)) xs)) ∙ ap (λ b. p x && b) (all_clear p xs)

tops_are : (f : ℕ → ℕ) (p : ℕ → Bool) → ((x : ℕ) → top 7 (f x) ≡ not (p x)) → (v : List ℕ) → map (top 7) (map f v) ≡ map (λ x. not (p x)) v
tops_are f p same [] = refl
tops_are f p same (x ∷ xs) = ap₂ (λ a b. a ∷ b) (same x) (tops_are f p same xs)

-- the mask of a vector whose top bits are set where a test fails
pub none_fails : (f : ℕ → ℕ) (p : ℕ → Bool) → ((x : ℕ) → top 7 (f x) ≡ not (p x)) → (v : List ℕ) {z : List ℕ} → length v ≤ 64 → z ≡ map f v
    → eqb (mask_l (map (top 7) z) % 2 ^ 64) 0 ≡ list_all p v
none_fails f p same v few is =
    ap (λ (zs : List ℕ). eqb (mask_l (map (top 7) zs) % 2 ^ 64) 0) is
    ∙ ap (λ (bs : List Bool). eqb (mask_l bs % 2 ^ 64) 0) (tops_are f p same v)
    ∙ ap (λ (m : ℕ). eqb m 0) (mask_l-mod (map (λ x. not (p x)) v) 64 (omega (arith, length-map v (λ x. not (p x)))))
    ∙ all_clear p v
