-- Lists of bytes, and the bytes of a number at its offset.
use Rattle.std.proofs.Common.{◌≡◌, ℕ, zero, suc, ◌+◌, ◌*◌, ◌/◌, ◌%◌, ◌<◌, ◌≤◌, List, [], ◌∷◌, ◌++◌, length, take, drop, get_or, replicate, refl, ap, ◌∙◌, inl, inr, arith}
use Rattle.std.proofs.lemmas.Bool.{cases_lt}
use Rattle.std.proofs.lemmas.List.{drop_more, get_or-drop, get_or-take, get_or_past, length-take}
use Rattle.byteorder.specs.Endian.{big_from, big_bytes}
use Rattle.tcp_numbers.specs.Checksum.{AreBytes}

pub bytes_cons : (x : ℕ) (xs : List ℕ) → x < 256 → AreBytes xs → AreBytes (x ∷ xs)
bytes_cons x xs h hs zero = h
bytes_cons x xs h hs (suc i) = hs i

pub bytes_nil : AreBytes []
bytes_nil i = omega arith

pub bytes_tail : (x : ℕ) (xs : List ℕ) → AreBytes (x ∷ xs) → AreBytes xs
bytes_tail x xs h i = h (suc i)

pub bytes_append : (xs ys : List ℕ) → AreBytes xs → AreBytes ys → AreBytes (xs ++ ys)
bytes_append [] ys hx hy = hy
bytes_append (x ∷ xs) ys hx hy = bytes_cons x (xs ++ ys) (hx 0) (bytes_append xs ys (bytes_tail x xs hx) hy)

pub bytes_zeros : (n : ℕ) → AreBytes (replicate {A = ℕ} n 0)
bytes_zeros zero = bytes_nil
bytes_zeros (suc n) = bytes_cons 0 (replicate {A = ℕ} n 0) (omega arith) (bytes_zeros n)

pub bytes_drop : (n : ℕ) (bytes : List ℕ) → AreBytes bytes → AreBytes (drop n bytes)
bytes_drop n bytes fits i = rw get_or-drop (fits (n + i))

pub bytes_take : (n : ℕ) (bytes : List ℕ) → AreBytes bytes → AreBytes (take n bytes)
bytes_take n bytes fits i =
    elim (cases_lt i n) [
      | inl lt ↦ rw (get_or-take n bytes i 0 lt) (fits i)
      | inr le ↦ rw (get_or_past (take n bytes) i 0 (omega (arith, length-take n bytes))) (omega arith)
    ]

-- what follows a front of bytes is bytes
pub bytes_after_front : (front rest : List ℕ) → AreBytes (front ++ rest) → AreBytes rest
bytes_after_front [] rest fits = fits
bytes_after_front (x ∷ front) rest fits = bytes_after_front front rest (bytes_tail x (front ++ rest) fits)

pub bytes_two : (n : ℕ) (xs : List ℕ) → AreBytes xs → AreBytes (big_bytes 2 n ++ xs)
bytes_two n xs h = bytes_cons (n / 256 % 256) (n % 256 ∷ xs) (omega arith) (bytes_cons (n % 256) xs (omega arith) h)

pub bytes_four : (n : ℕ) (xs : List ℕ) → AreBytes xs → AreBytes (big_bytes 4 n ++ xs)
bytes_four n xs h =
    bytes_cons (n / 16777216 % 256) (n / 65536 % 256 ∷ n / 256 % 256 ∷ n % 256 ∷ xs) (omega arith)
    (bytes_cons (n / 65536 % 256) (n / 256 % 256 ∷ n % 256 ∷ xs) (omega arith) (bytes_two n xs h))

at_place : (bytes : List ℕ) (i j : ℕ) → i ≡ j → get_or bytes i 0 ≡ get_or bytes j 0
at_place bytes i j e = ap (λ (k : ℕ). get_or bytes k 0) e

-- the bytes of a number that is read at an offset are there
pub next_two : (i : ℕ) (bytes : List ℕ) (x : ℕ) → AreBytes bytes → i + 2 ≤ length bytes → x ≡ big_from i 2 bytes → drop i bytes ≡ big_bytes 2 x ++ drop (i + 2) bytes
next_two i bytes x fits inside is =
    let a = drop_more bytes i 0 (omega arith) in
    let b = drop_more bytes (i + 1) 0 (omega arith) in
    let fa = fits i in
    let fb = fits (i + 1) in
    let s1 : get_or bytes (suc i) 0 ≡ get_or bytes (i + 1) 0 = at_place bytes (suc i) (i + 1) (omega arith) in
    let x_is : x ≡ get_or bytes i 0 * 256 + get_or bytes (i + 1) 0 = omega arith in
    let high : get_or bytes i 0 ≡ x / 256 % 256 = omega arith in
    let low : get_or bytes (i + 1) 0 ≡ x % 256 = omega arith in
    let next : i + 1 + 1 ≡ i + 2 = omega arith in
    rw (a, b, next, high, low) refl

pub next_four : (i : ℕ) (bytes : List ℕ) (x : ℕ) → AreBytes bytes → i + 4 ≤ length bytes → x ≡ big_from i 4 bytes → drop i bytes ≡ big_bytes 4 x ++ drop (i + 4) bytes
next_four i bytes x fits inside is =
    let a = drop_more bytes i 0 (omega arith) in
    let b = drop_more bytes (i + 1) 0 (omega arith) in
    let c = drop_more bytes (i + 2) 0 (omega arith) in
    let d = drop_more bytes (i + 3) 0 (omega arith) in
    let fa = fits i in
    let fb = fits (i + 1) in
    let fc = fits (i + 2) in
    let fd = fits (i + 3) in
    let s1 : get_or bytes (suc i) 0 ≡ get_or bytes (i + 1) 0 = at_place bytes (suc i) (i + 1) (omega arith) in
    let s2 : get_or bytes (suc (suc i)) 0 ≡ get_or bytes (i + 2) 0 = at_place bytes (suc (suc i)) (i + 2) (omega arith) in
    let s3 : get_or bytes (suc (suc (suc i))) 0 ≡ get_or bytes (i + 3) 0 = at_place bytes (suc (suc (suc i))) (i + 3) (omega arith) in
    let x_is : x ≡ get_or bytes i 0 * 16777216 + get_or bytes (i + 1) 0 * 65536 + get_or bytes (i + 2) 0 * 256 + get_or bytes (i + 3) 0 = omega arith in
    let ea : get_or bytes i 0 ≡ x / 16777216 % 256 = omega arith in
    let eb : get_or bytes (i + 1) 0 ≡ x / 65536 % 256 = omega arith in
    let ec : get_or bytes (i + 2) 0 ≡ x / 256 % 256 = omega arith in
    let ed : get_or bytes (i + 3) 0 ≡ x % 256 = omega arith in
    let n2 : i + 1 + 1 ≡ i + 2 = omega arith in
    let n3 : i + 2 + 1 ≡ i + 3 = omega arith in
    let n4 : i + 3 + 1 ≡ i + 4 = omega arith in
    rw (a, b, n2, c, n3, d, n4, ea, eb, ec, ed) refl

pub next_one : (i : ℕ) (bytes : List ℕ) (x : ℕ) → i < length bytes → get_or bytes i 0 ≡ x → drop i bytes ≡ x ∷ drop (i + 1) bytes
next_one i bytes x inside is = drop_more bytes i 0 inside ∙ ap (λ (y : ℕ). y ∷ drop (i + 1) bytes) is
