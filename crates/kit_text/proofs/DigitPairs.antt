-- Pairs of hexadecimal digits, by the values that lanes hold of them.
use Rattle.std.proofs.Common.{◌≡◌, ℕ, zero, suc, ◌+◌, ◌*◌, ◌/◌, ◌%◌, ◌<◌, ◌≤◌, ltb, eqb, Bool, true, not, ◌||◌, List, [], ◌∷◌, ◌++◌, map, length, take, replicate, Option, Some, None, unwrap_or, Result, Ok, Err, Fits, w8, bit_and, refl, sym, ap, ap₂, ◌∙◌, arith}
use Rattle.std.specs.List.{list_all}
use Rattle.std.specs.Result.{result_ok}
use Rattle.std.proofs.lemmas.Bool.{agree_below_at, eqb-true, ltb-true, and_parts}
use Rattle.std.proofs.lemmas.List.{append_assoc, length-map}
use Rattle.std.proofs.lemmas.Simd.{take_more_put_chunk}
use Rattle.std.proofs.lemmas.Nat.{and_mask}
use lib.Lanes.{zip2, put_chunk, Each1}
use Rattle.hex.specs.Hex.{decode_pairs, digit_or_error, hex_digit_value, pair_value, value_at}
use Rattle.hex.specs.declared.error.FromHexError.{FromHexError}
use Rattle.hex.proofs.Pairs.{cons_byte, decode_pairs-ok_pair, decode_pairs-err_pair}
use Rattle.tcp_numbers.proofs.LaneSums.{loaded}
use Rattle.kit_text.specs.HexLanes.{lane_of, joined_pairs, with_front}

-- two values in a lane, as one byte
pub lanes_join : (n : ℕ) (vs lanes : List ℕ) → lanes ≡ loaded vs → length vs ≡ n + n → Each1 (Fits w8) vs
    → zip2 (λ (a b : ℕ). bit_and a b) (zip2 (λ (a b : ℕ). (a + b) % 65536) (map (λ (a : ℕ). a * 16 % 65536) lanes) (map (λ (a : ℕ). a / 256) lanes)) (replicate n 255)
    ≡ joined_pairs vs
lanes_join n vs lanes is long fits = rw is (go n vs long fits)
  where
    go : (n : ℕ) (vs : List ℕ) → length vs ≡ n + n → Each1 (Fits w8) vs
        → zip2 (λ (a b : ℕ). bit_and a b) (zip2 (λ (a b : ℕ). (a + b) % 65536) (map (λ (a : ℕ). a * 16 % 65536) (loaded vs)) (map (λ (a : ℕ). a / 256) (loaded vs))) (replicate n 255)
        ≡ joined_pairs vs
    go zero [] long fits = refl
    go zero (a ∷ vs) long fits = absurd (omega arith)
    go (suc n) [] long fits = absurd (omega arith)
    go (suc n) (a ∷ []) long fits = absurd (omega arith)
    go (suc n) (a ∷ b ∷ vs) long fits =
        let sum : ((a + 256 * b) * 16 % 65536 + (a + 256 * b) / 256) % 65536 % 256 ≡ (16 * a + b) % 256 = omega (arith, fits.0.fits, fits.1.0.fits) in
        ap₂ (λ (x : ℕ) (xs : List ℕ). x ∷ xs) (and_mask (((a + 256 * b) * 16 % 65536 + (a + 256 * b) / 256) % 65536) 8 ∙ sum) (go n vs (omega arith) fits.1.1)

-- a lane below 16 is the value of its digit
reads_same : ℕ → Bool
reads_same c = not (ltb (lane_of c) 16) || eqb (unwrap_or (hex_digit_value c) 99) (lane_of c)

from_unwrap : (o : Option ℕ) (d : ℕ) → d < 16 → unwrap_or o 99 ≡ d → o ≡ Some d
from_unwrap (Some v) d low e = ap Some e
from_unwrap None d low e = absurd (omega arith)

digit_is : (c : ℕ) → c < 256 → ltb (lane_of c) 16 ≡ true → hex_digit_value c ≡ Some (lane_of c)
digit_is c byte low =
    from_unwrap (hex_digit_value c) (lane_of c) (ltb-true (lane_of c) 16 low)
    (eqb-true (unwrap_or (hex_digit_value c) 99) (lane_of c)
    (sym (ap (λ b. not b || eqb (unwrap_or (hex_digit_value c) 99) (lane_of c)) low)
    ∙ agree_below_at (λ d. not (ltb (lane_of d) 16) || eqb (unwrap_or (hex_digit_value d) 99) (lane_of d)) (λ _. true) 256 c refl byte))

front-cons : (v : ℕ) (bytes : List ℕ) (r : Result (List ℕ) FromHexError) → cons_byte v (with_front bytes r) ≡ with_front (v ∷ bytes) r
front-cons v bytes (Ok more) = refl
front-cons v bytes (Err e) = refl

pub front-front : (a b : List ℕ) (r : Result (List ℕ) FromHexError) → with_front a (with_front b r) ≡ with_front (a ++ b) r
front-front a b (Ok more) = ap Ok (sym (append_assoc a b more))
front-front a b (Err e) = refl

-- digits whose lanes are below 16, and what follows
pub decode_run : (n i : ℕ) (digits rest : List ℕ) → length digits ≡ n + n → Each1 (Fits w8) digits → list_all (λ v. ltb v 16) (map lane_of digits) ≡ true
    → decode_pairs i (digits ++ rest) ≡ with_front (joined_pairs (map lane_of digits)) (decode_pairs (i + (n + n)) rest)
decode_run zero i [] rest long fits all = no_front (decode_pairs i rest) ∙ ap (λ (k : ℕ). with_front [] (decode_pairs k rest)) (omega arith)
  where
    no_front : (r : Result (List ℕ) FromHexError) → r ≡ with_front [] r
    no_front (Ok more) = refl
    no_front (Err e) = refl
decode_run zero i (a ∷ digits) rest long fits all = absurd (omega arith)
decode_run (suc n) i [] rest long fits all = absurd (omega arith)
decode_run (suc n) i (a ∷ []) rest long fits all = absurd (omega arith)
decode_run (suc n) i (a ∷ b ∷ digits) rest long fits all =
    let first = and_parts (ltb (lane_of a) 16) _ all in
    let second = and_parts (ltb (lane_of b) 16) _ first.1 in
    let high : value_at a i ≡ Ok (lane_of a) = ap (digit_or_error a i) (digit_is a fits.0.fits first.0) in
    let low : value_at b (i + 1) ≡ Ok (lane_of b) = ap (digit_or_error b (i + 1)) (digit_is b fits.1.0.fits second.0) in
    let pair : pair_value a b i ≡ Ok (lane_of a * 16 + lane_of b) = rw (high, low) refl in
    let more = decode_run n (i + 2) digits rest (omega arith) fits.1.1 second.1 in
    let byte : lane_of a * 16 + lane_of b ≡ (16 * lane_of a + lane_of b) % 256 = omega (arith, ltb-true _ _ first.0, ltb-true _ _ second.0) in
    let place : i + 2 + (n + n) ≡ i + (suc n + suc n) = omega arith in
    decode_pairs-ok_pair i a b (lane_of a * 16 + lane_of b) (digits ++ rest) pair
    ∙ ap (cons_byte (lane_of a * 16 + lane_of b)) more
    ∙ front-cons (lane_of a * 16 + lane_of b) (joined_pairs (map lane_of digits)) (decode_pairs (i + 2 + (n + n)) rest)
    ∙ ap₂ (λ (v k : ℕ). with_front (v ∷ joined_pairs (map lane_of digits)) (decode_pairs k rest)) byte place

length-joined_pairs : (n : ℕ) (vs : List ℕ) → length vs ≡ n + n → length (joined_pairs vs) ≡ n
length-joined_pairs zero [] long = refl
length-joined_pairs zero (a ∷ vs) long = absurd (omega arith)
length-joined_pairs (suc n) [] long = absurd (omega arith)
length-joined_pairs (suc n) (a ∷ []) long = absurd (omega arith)
length-joined_pairs (suc n) (a ∷ b ∷ vs) long = ap suc (length-joined_pairs n vs (omega arith))

-- a load, written at the front of the room for its bytes
pub load_read : (i : ℕ) (digits rest values bytes room : List ℕ) → values ≡ map lane_of digits → list_all (λ v. ltb v 16) values ≡ true → bytes ≡ joined_pairs values
    → length digits ≡ 32 → Each1 (Fits w8) digits → 16 ≤ length room
    → decode_pairs i (digits ++ rest) ≡ with_front (take 16 (put_chunk 0 room bytes)) (decode_pairs (i + 32) rest)
load_read i digits rest values bytes room is all joined long fits enough =
    let same : bytes ≡ joined_pairs (map lane_of digits) = joined ∙ ap joined_pairs is in
    let len : length (joined_pairs (map lane_of digits)) ≡ 16 = length-joined_pairs 16 (map lane_of digits) (length-map digits lane_of ∙ long) in
    let front : take 16 (put_chunk 0 room bytes) ≡ bytes = take_more_put_chunk 0 room bytes 16 (omega (arith, len, ap length same)) enough in
    decode_run 16 i digits rest long fits (ap (list_all (λ v. ltb v 16)) (sym is) ∙ all)
    ∙ ap (λ (bs : List ℕ). with_front bs (decode_pairs (i + 32) rest)) (sym (front ∙ same))

-- where digits start counts only for the error
abbrev pair_and : Result ℕ FromHexError → Result (List ℕ) FromHexError → Result (List ℕ) FromHexError
pair_and (Ok byte) r = cons_byte byte r
pair_and (Err e) r = Err e

value_ok : (c i : ℕ) (o : Option ℕ) → result_ok (digit_or_error c i o) ≡ o
value_ok c i (Some v) = refl
value_ok c i None = refl

pair_ok : (a b i j : ℕ) (h l : Option ℕ) → hex_digit_value a ≡ h → hex_digit_value b ≡ l → result_ok (pair_value a b i) ≡ result_ok (pair_value a b j)
pair_ok a b i j (Some h) (Some l) p q = rw (p, q) refl
pair_ok a b i j (Some h) None p q = rw (p, q) refl
pair_ok a b i j None l p q = rw p refl

conses_ok : (p q : Result ℕ FromHexError) (r s : Result (List ℕ) FromHexError) → result_ok p ≡ result_ok q → result_ok r ≡ result_ok s
    → result_ok (pair_and p r) ≡ result_ok (pair_and q s)
conses_ok (Ok x) (Ok y) (Ok r) (Ok s) e f = grind (arith, e, f)
conses_ok (Ok x) (Ok y) (Err r) (Err s) e f = refl
conses_ok (Ok x) (Ok y) (Ok r) (Err s) e f = cc f
conses_ok (Ok x) (Ok y) (Err r) (Ok s) e f = cc f
conses_ok (Err x) (Err y) r s e f = refl
conses_ok (Ok x) (Err y) r s e f = cc e
conses_ok (Err x) (Ok y) r s e f = cc e

pair_front : (i a b : ℕ) (rest : List ℕ) (p : Result ℕ FromHexError) → pair_value a b i ≡ p → decode_pairs i (a ∷ b ∷ rest) ≡ pair_and p (decode_pairs (i + 2) rest)
pair_front i a b rest (Ok byte) e = decode_pairs-ok_pair i a b byte rest e
pair_front i a b rest (Err fault) e = decode_pairs-err_pair i a b fault rest e

pub same_anywhere : (digits : List ℕ) (i j : ℕ) → result_ok (decode_pairs i digits) ≡ result_ok (decode_pairs j digits)
unfolding decode_pairs
same_anywhere [] i j = refl
same_anywhere (a ∷ []) i j = refl
same_anywhere (a ∷ b ∷ rest) i j =
    ap result_ok (pair_front i a b rest (pair_value a b i) refl)
    ∙ conses_ok (pair_value a b i) (pair_value a b j) (decode_pairs (i + 2) rest) (decode_pairs (j + 2) rest) (pair_ok a b i j _ _ refl refl) (same_anywhere rest (i + 2) (j + 2))
    ∙ ap result_ok (sym (pair_front j a b rest (pair_value a b j) refl))
