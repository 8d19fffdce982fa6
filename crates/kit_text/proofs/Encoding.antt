-- Bytes that are written as hexadecimal digits over lanes.
use Rattle.std.proofs.Common.{◌≡◌, ℕ, ◌+◌, ◌-◌, ◌*◌, ◌/◌, ◌%◌, ◌≤◌, eqb, ltb, true, List, [], ◌∷◌, ◌++◌, map, length, take, drop, slice_index, Result, Ok, Err, Fits, w8, refl, sym, ap, ap₂, ◌∙◌, arith, take-append-drop, take-add}
use Rattle.std.proofs.lemmas.Bool.{agree_below, agree_below_at, eqb-true, ltb-true}
use Rattle.std.proofs.lemmas.Str.Ascii.{IsAscii-from_reads}
use Rattle.std.specs.Prelude.{IsOk, OnOk}
use Rattle.std.specs.Str.{IsAscii}
use Rattle.std.proofs.lemmas.List.{append_assoc}
use lib.Lanes.{Each1, pick_l}
use borrow.Rule.Slice.PartMut.{put_mid}
use Rattle.hex.specs.Hex.{encode_with, encode_lower, lower_digits}
use Rattle.hex.specs.declared.error.FromHexError.{FromHexError}
use Rattle.kit_text.proofs.WrittenParts.{written_whole, written_len, written_front}

-- what two functions give of each element, by turns
abbrev pub weave : (ℕ → ℕ) → (ℕ → ℕ) → List ℕ → List ℕ
weave f g [] = []
weave f g (x ∷ xs) = f x ∷ g x ∷ weave f g xs

pub woven : (f g : ℕ → ℕ) (v : List ℕ) → length v ≡ 16
    → pick_l 0 (map f v ++ map g v) (0 ∷ 16 ∷ 1 ∷ 17 ∷ 2 ∷ 18 ∷ 3 ∷ 19 ∷ 4 ∷ 20 ∷ 5 ∷ 21 ∷ 6 ∷ 22 ∷ 7 ∷ 23 ∷ 8 ∷ 24 ∷ 9 ∷ 25 ∷ 10 ∷ 26 ∷ 11 ∷ 27 ∷ 12 ∷ 28 ∷ 13 ∷ 29 ∷ 14 ∷ 30 ∷ 15 ∷ 31 ∷ [])
    ≡ weave f g v
woven f g [] long = absurd (omega arith)
woven f g (a0 ∷ []) long = absurd (omega arith)
woven f g (a0 ∷ a1 ∷ []) long = absurd (omega arith)
woven f g (a0 ∷ a1 ∷ a2 ∷ []) long = absurd (omega arith)
woven f g (a0 ∷ a1 ∷ a2 ∷ a3 ∷ []) long = absurd (omega arith)
woven f g (a0 ∷ a1 ∷ a2 ∷ a3 ∷ a4 ∷ []) long = absurd (omega arith)
woven f g (a0 ∷ a1 ∷ a2 ∷ a3 ∷ a4 ∷ a5 ∷ []) long = absurd (omega arith)
woven f g (a0 ∷ a1 ∷ a2 ∷ a3 ∷ a4 ∷ a5 ∷ a6 ∷ []) long = absurd (omega arith)
woven f g (a0 ∷ a1 ∷ a2 ∷ a3 ∷ a4 ∷ a5 ∷ a6 ∷ a7 ∷ []) long = absurd (omega arith)
woven f g (a0 ∷ a1 ∷ a2 ∷ a3 ∷ a4 ∷ a5 ∷ a6 ∷ a7 ∷ a8 ∷ []) long = absurd (omega arith)
woven f g (a0 ∷ a1 ∷ a2 ∷ a3 ∷ a4 ∷ a5 ∷ a6 ∷ a7 ∷ a8 ∷ a9 ∷ []) long = absurd (omega arith)
woven f g (a0 ∷ a1 ∷ a2 ∷ a3 ∷ a4 ∷ a5 ∷ a6 ∷ a7 ∷ a8 ∷ a9 ∷ a10 ∷ []) long = absurd (omega arith)
woven f g (a0 ∷ a1 ∷ a2 ∷ a3 ∷ a4 ∷ a5 ∷ a6 ∷ a7 ∷ a8 ∷ a9 ∷ a10 ∷ a11 ∷ []) long = absurd (omega arith)
woven f g (a0 ∷ a1 ∷ a2 ∷ a3 ∷ a4 ∷ a5 ∷ a6 ∷ a7 ∷ a8 ∷ a9 ∷ a10 ∷ a11 ∷ a12 ∷ []) long = absurd (omega arith)
woven f g (a0 ∷ a1 ∷ a2 ∷ a3 ∷ a4 ∷ a5 ∷ a6 ∷ a7 ∷ a8 ∷ a9 ∷ a10 ∷ a11 ∷ a12 ∷ a13 ∷ []) long = absurd (omega arith)
woven f g (a0 ∷ a1 ∷ a2 ∷ a3 ∷ a4 ∷ a5 ∷ a6 ∷ a7 ∷ a8 ∷ a9 ∷ a10 ∷ a11 ∷ a12 ∷ a13 ∷ a14 ∷ []) long = absurd (omega arith)
woven f g (a0 ∷ a1 ∷ a2 ∷ a3 ∷ a4 ∷ a5 ∷ a6 ∷ a7 ∷ a8 ∷ a9 ∷ a10 ∷ a11 ∷ a12 ∷ a13 ∷ a14 ∷ a15 ∷ []) long = refl
woven f g (a0 ∷ a1 ∷ a2 ∷ a3 ∷ a4 ∷ a5 ∷ a6 ∷ a7 ∷ a8 ∷ a9 ∷ a10 ∷ a11 ∷ a12 ∷ a13 ∷ a14 ∷ a15 ∷ b ∷ rest) long = absurd (omega arith)

-- both digits of a byte
pub weave_encodes : (f g : ℕ → ℕ) → agree_below (λ c. eqb (f c) (slice_index lower_digits (c / 16))) (λ _. true) 256 ≡ true
    → agree_below (λ c. eqb (g c) (slice_index lower_digits (c % 16))) (λ _. true) 256 ≡ true → (v : List ℕ) → Each1 (Fits w8) v → weave f g v ≡ encode_lower v
unfolding encode_with
weave_encodes f g high low [] fits = refl
weave_encodes f g high low (x ∷ xs) fits =
    let h : f x ≡ slice_index lower_digits (x / 16) = eqb-true _ _ (agree_below_at (λ c. eqb (f c) (slice_index lower_digits (c / 16))) (λ _. true) 256 x high fits.0.fits) in
    let l : g x ≡ slice_index lower_digits (x % 16) = eqb-true _ _ (agree_below_at (λ c. eqb (g c) (slice_index lower_digits (c % 16))) (λ _. true) 256 x low fits.0.fits) in
    rw (h, l, weave_encodes f g high low xs fits.1) refl

pub encode_with-append : (t a b : List ℕ) → encode_with t (a ++ b) ≡ encode_with t a ++ encode_with t b
unfolding encode_with
encode_with-append t [] b = refl
encode_with-append t (x ∷ a) b = ap (λ (ds : List ℕ). slice_index t (x / 16) ∷ slice_index t (x % 16) ∷ ds) (encode_with-append t a b)

-- bytes in two pieces
pub encode_pieces : (n : ℕ) (bytes : List ℕ) → encode_lower (take n bytes) ++ encode_lower (drop n bytes) ≡ encode_lower bytes
encode_pieces n bytes = sym (encode_with-append lower_digits (take n bytes) (drop n bytes)) ∙ ap encode_lower (take-append-drop n bytes)

pub lower_digits_ascii : IsAscii lower_digits
lower_digits_ascii = IsAscii-from_reads lower_digits 16 (omega arith) (λ k low. ltb-true _ _ (agree_below_at (λ c. ltb (slice_index lower_digits c) 128) (λ _. true) 16 k refl low))

-- i bytes are written, of all that there is room for
pub record Encoded (i : ℕ) (bytes digits : List ℕ) : Type 0 where
  pub inside : i ≤ length bytes
  pub twice : length digits ≡ 2 * length bytes
  pub front : take (2 * i) digits ≡ encode_lower (take i bytes)

pub none_encoded : (bytes digits : List ℕ) → length digits ≡ 2 * length bytes → Encoded 0 bytes digits
unfolding encode_with
none_encoded bytes digits twice = record { inside = omega arith; twice = twice; front = refl }

-- a load more
pub load_encoded : (i : ℕ) (bytes digits part new : List ℕ) → Encoded i bytes digits → 16 ≤ length bytes - i → part ≡ drop i bytes
    → length new ≡ length digits - 2 * i → take 32 new ≡ encode_lower (take 16 part)
    → Encoded (i + 16) bytes (put_mid (2 * i) (length digits - 2 * i) digits new)
load_encoded i bytes digits part new done room is len read =
    let within : 2 * i ≤ length digits = omega (arith, done.inside, done.twice) in
    let place : 2 * (i + 16) ≡ 2 * i + 32 = omega arith in
    record {
      inside = omega arith;
      twice = written_len (2 * i) digits new within len ∙ done.twice;
      front =
          ap (λ (k : ℕ). take k (put_mid (2 * i) (length digits - 2 * i) digits new)) place
          ∙ written_front (2 * i) 32 digits new within
          ∙ ap₂ (λ (a b : List ℕ). a ++ b) done.front (read ∙ ap (λ (bs : List ℕ). encode_lower (take 16 bs)) is)
          ∙ sym (encode_with-append lower_digits (take i bytes) (take 16 (drop i bytes)))
          ∙ ap encode_lower (sym (take-add i 16 bytes));
    }

-- the rest is written by itself
pub rest_encoded : (i : ℕ) (bytes digits out : List ℕ) → Encoded i bytes digits → out ≡ encode_lower (drop i bytes)
    → put_mid (2 * i) (length digits - 2 * i) digits out ≡ encode_lower bytes
rest_encoded i bytes digits out done is =
    written_whole (2 * i) digits out ∙ ap₂ (λ (a b : List ℕ). a ++ b) done.front is ∙ encode_pieces i bytes

-- what a call promises where it succeeds, once it did
pub where_ok : {P : Type 0} (r : Result Unit FromHexError) → IsOk r → OnOk r P → P
where_ok (Ok u) ok p = p
where_ok (Err e) ok p = cc ok

-- a block more is appended
pub block_appended : (n : ℕ) (old new bytes front behind whole : List ℕ) → new ≡ old ++ encode_lower front → front ≡ take n bytes → behind ≡ drop n bytes
    → old ++ encode_lower bytes ≡ whole → new ++ encode_lower behind ≡ whole
block_appended n old new bytes front behind whole more is rest before =
    ap₂ (λ (a b : List ℕ). a ++ encode_lower b) more rest
    ∙ append_assoc old (encode_lower front) (encode_lower (drop n bytes))
    ∙ ap (λ (ds : List ℕ). old ++ ds) (ap (λ (bs : List ℕ). encode_lower bs ++ encode_lower (drop n bytes)) is ∙ encode_pieces n bytes)
    ∙ before
