-- A list of rows without some of them, and what the runs that are left are.
use Rattle.std.proofs.Common.{◌≡◌, ℕ, zero, suc, ◌+◌, ◌-◌, ◌<◌, ◌≤◌, inl, inr, List, [], ◌∷◌, ◌++◌, length, take, drop, refl, sym, ◌∙◌, ap, arith}
use Rattle.std.specs.Prelude.{map, true, false, if◌then◌else◌}
use Rattle.std.proofs.lemmas.List.{take-append-le, length-append}
use Rattle.tcp_reasm.specs.declared.table.Run.{Run as Entry}
use Rattle.tcp_reasm.specs.Reassembly.{Run}
use Rattle.tcp_reasm.specs.Store.{run_of, runs_in, touches, rest_of}
use Rattle.tcp_reasm.specs.Rows.{at, count, without, minus, freed}
use Rattle.tcp_reasm.proofs.Links.{once_same, once_other, same_or_not, some_same, count-without, length-without, without_here, without_later}

-- ---- counts

pub count-take : (x n : ℕ) (xs : List ℕ) → count x (take n xs) ≤ count x xs
count-take x zero xs = omega arith
count-take x (suc n) [] = omega arith
count-take x (suc n) (y ∷ xs) = omega (arith, count-take x n xs)

pub count-drop : (x n : ℕ) (xs : List ℕ) → count x (drop n xs) ≤ count x xs
count-drop x zero xs = omega arith
count-drop x (suc n) [] = omega arith
count-drop x (suc n) (y ∷ xs) = omega (arith, count-drop x n xs)

pub count-split : (x n : ℕ) (xs : List ℕ) → count x (take n xs) + count x (drop n xs) ≡ count x xs
count-split x zero xs = omega arith
count-split x (suc n) [] = omega arith
count-split x (suc n) (y ∷ xs) = omega (arith, count-split x n xs)

-- an index of a number that is in a list
pub index_of : (x : ℕ) (xs : List ℕ) → 0 < count x xs → (k : ℕ) × (k < length xs) × (at xs k ≡ x)
index_of x [] some = absurd (omega (arith, some))
index_of x (y ∷ xs) some =
    elim (same_or_not x y) [
      | inl e ↦ (0, omega arith, sym e)
      | inr ne ↦ let later = index_of x xs (omega (arith, some, once_other x y ne)) in (suc later.0, omega (arith, later.1), later.2)
    ]

-- and a number at an index is in it
pub counted_at : (k : ℕ) (xs : List ℕ) → k < length xs → 0 < count (at xs k) xs
counted_at k [] below = absurd (omega (arith, below))
counted_at zero (y ∷ xs) below = omega (arith, once_same y y refl)
counted_at (suc k) (y ∷ xs) below = omega (arith, counted_at k xs (omega (arith, below)))

-- ---- some are moved behind all others

pub take_without : (x n : ℕ) (l m : List ℕ) → 0 < count x (take (suc n) l) → suc n ≤ length l → take n (without x l ++ m) ≡ without x (take (suc n) l)
take_without x n [] m some fits = absurd (omega (arith, fits))
take_without x zero (y ∷ ys) m some fits = sym (without_here x y [] (some_same x y (omega (arith, some))))
take_without x (suc n) (y ∷ ys) m some fits =
    elim (same_or_not x y) [
      | inl e ↦
          ap (λ (zs : List ℕ). take (suc n) (zs ++ m)) (without_here x y ys e) ∙ (take-append-le (suc n) ys m (omega (arith, fits)) ∙ sym (without_here x y (take (suc n) ys) e))
      | inr ne ↦
          ap (λ (zs : List ℕ). take (suc n) (zs ++ m)) (without_later x y ys ne)
          ∙ (ap (λ (zs : List ℕ). y ∷ zs) (take_without x n ys m (omega (arith, some, once_other x y ne)) (omega (arith, fits))) ∙ sym (without_later x y (take (suc n) ys) ne))
    ]

sub_without : (x : ℕ) (xs r : List ℕ) → ((y : ℕ) → count y (x ∷ xs) ≤ count y r) → (y : ℕ) → count y xs ≤ count y (without x r)
sub_without x xs r sub y = omega (arith, sub y, count-without x y r (omega (arith, sub x, once_same x x refl)))

pub freed_take : (xs l : List ℕ) (len : ℕ) → ((y : ℕ) → count y xs ≤ count y (take len l)) → len ≤ length l → take (len - length xs) (freed xs l) ≡ minus xs (take len l)
freed_take [] l len sub fits = let same : len - 0 ≡ len = omega arith in ap (λ n. take n l) same
freed_take (x ∷ xs) l zero sub fits = absurd (omega (arith, sub x, once_same x x refl))
freed_take (x ∷ xs) l (suc n) sub fits =
    let some : 0 < count x (take (suc n) l) = omega (arith, sub x, once_same x x refl) in
    let next : take n (without x l ++ x ∷ []) ≡ without x (take (suc n) l) = take_without x n l (x ∷ []) some fits in
    let less : suc n - suc (length xs) ≡ n - length xs = omega arith in
    ap (λ k. take k (freed xs (without x l ++ x ∷ []))) less
    ∙ (freed_take xs (without x l ++ x ∷ []) n (λ y. omega (arith, sub_without x xs (take (suc n) l) sub y, ap (count y) next))
    (omega (arith, length-append (without x l) (x ∷ []), length-without x l (omega (arith, some, count-take x (suc n) l)), fits))
    ∙ ap (minus xs) next)

pub count-minus : (xs r : List ℕ) → ((y : ℕ) → count y xs ≤ count y r) → (z : ℕ) → count z (minus xs r) + count z xs ≡ count z r
count-minus [] r sub z = omega arith
count-minus (x ∷ xs) r sub z = omega (arith, count-minus xs (without x r) (sub_without x xs r sub) z, count-without x z r (omega (arith, sub x, once_same x x refl)))

pub length-minus : (xs r : List ℕ) → ((y : ℕ) → count y xs ≤ count y r) → length (minus xs r) + length xs ≡ length r
length-minus [] r sub = omega arith
length-minus (x ∷ xs) r sub = omega (arith, length-minus xs (without x r) (sub_without x xs r sub), length-without x r (omega (arith, sub x, once_same x x refl)))

-- ---- what a piece leaves

pub rest_without : (f : ℕ → Entry) (piece : Run) (x : ℕ) (r : List ℕ) → 0 < count x r → touches piece (run_of (f x)) ≡ true → rest_of piece (runs_in (map f (without x r))) ≡ rest_of piece (runs_in (map f r))
rest_without f piece x [] some touched = absurd (omega (arith, some))
rest_without f piece x (y ∷ ys) some touched =
    elim (same_or_not x y) [
      | inl e ↦
          ap (λ (zs : List ℕ). rest_of piece (runs_in (map f zs))) (without_here x y ys e)
          ∙ sym (ap (λ b. if b then rest_of piece (runs_in (map f ys)) else run_of (f y) ∷ rest_of piece (runs_in (map f ys))) (ap (λ z. touches piece (run_of (f z))) (sym e) ∙ touched))
      | inr ne ↦
          ap (λ (zs : List ℕ). rest_of piece (runs_in (map f zs))) (without_later x y ys ne)
          ∙ ap (λ (rs : List Run). if touches piece (run_of (f y)) then rs else run_of (f y) ∷ rs) (rest_without f piece x ys (omega (arith, some, once_other x y ne)) touched)
    ]

pub rest_minus : (f : ℕ → Entry) (piece : Run) (xs r : List ℕ) → ((y : ℕ) → count y xs ≤ count y r) → ((y : ℕ) → 0 < count y xs → touches piece (run_of (f y)) ≡ true)
    → rest_of piece (runs_in (map f (minus xs r))) ≡ rest_of piece (runs_in (map f r))
rest_minus f piece [] r sub touched = refl
rest_minus f piece (x ∷ xs) r sub touched =
    rest_minus f piece xs (without x r) (sub_without x xs r sub) (λ y some. touched y (omega (arith, some)))
    ∙ rest_without f piece x r (omega (arith, sub x, once_same x x refl)) (touched x (omega (arith, once_same x x refl)))

pub rest_none : (f : ℕ → Entry) (piece : Run) (r : List ℕ) → ((y : ℕ) → 0 < count y r → touches piece (run_of (f y)) ≡ false) → rest_of piece (runs_in (map f r)) ≡ runs_in (map f r)
rest_none f piece [] untouched = refl
rest_none f piece (y ∷ ys) untouched =
    ap (λ b. if b then rest_of piece (runs_in (map f ys)) else run_of (f y) ∷ rest_of piece (runs_in (map f ys))) (untouched y (omega (arith, once_same y y refl)))
    ∙ ap (λ (rs : List Run). run_of (f y) ∷ rs) (rest_none f piece ys (λ z some. untouched z (omega (arith, some))))
