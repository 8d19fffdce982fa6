-- Digits that are decoded from the front on.
use Rattle.std.proofs.Common.{◌≡◌, ℕ, ◌+◌, ◌-◌, ◌*◌, ◌≤◌, cond, List, [], ◌++◌, length, take, drop, Option, Some, None, Result, Ok, Err, is_ok, refl, sym, ap, ap₂, ◌∙◌, arith, take-append-drop, drop-drop, length-drop}
use Rattle.std.specs.Prelude.{MatchResult}
use Rattle.std.specs.Result.{result_ok}
use Rattle.std.proofs.lemmas.Slice.{take-put_mid_below}
use borrow.Rule.Slice.PartMut.{put_mid}
use Rattle.hex.specs.Hex.{decode_of, decode_pairs, decode_sized}
use Rattle.hex.specs.declared.error.FromHexError.{FromHexError}
use Rattle.hex.proofs.HexLemmas.{decode_of-even}
use Rattle.hex.proofs.Pairs.{decode_sized-pairs}
use Rattle.kit_text.specs.HexLanes.{with_front}
use Rattle.kit_text.proofs.DigitPairs.{front-front, same_anywhere}
use Rattle.kit_text.proofs.WrittenParts.{written_whole, written_len, written_front}

-- i bytes are decoded, of all that there is room for
pub record Decoded (i : ℕ) (digits bytes : List ℕ) : Type 0 where
  pub inside : i ≤ length bytes
  pub twice : length digits ≡ 2 * length bytes
  pub front : decode_pairs 0 digits ≡ with_front (take i bytes) (decode_pairs (2 * i) (drop (2 * i) digits))

pub none_decoded : (digits bytes : List ℕ) → length digits ≡ 2 * length bytes → Decoded 0 digits bytes
none_decoded digits bytes twice = record { inside = omega arith; twice = twice; front = same (decode_pairs 0 digits) }
  where
    same : (r : Result (List ℕ) FromHexError) → r ≡ with_front [] r
    same (Ok more) = refl
    same (Err e) = refl

-- a load more
pub load_decoded : (i : ℕ) (digits bytes part new : List ℕ) → Decoded i digits bytes → 16 ≤ length bytes - i → part ≡ drop (2 * i) digits → length new ≡ length bytes - i
    → ((k : ℕ) (rest : List ℕ) → decode_pairs k (take 32 part ++ rest) ≡ with_front (take 16 new) (decode_pairs (k + 32) rest))
    → Decoded (i + 16) digits (put_mid i (length bytes - i) bytes new)
load_decoded i digits bytes part new done room is len read =
    let size = written_len i bytes new done.inside len in
    let front = sym (written_front i 16 bytes new done.inside) in
    let split : take 32 part ++ drop (2 * (i + 16)) digits ≡ drop (2 * i) digits =
    ap (λ (more : List ℕ). take 32 part ++ more) (ap (λ (k : ℕ). drop k digits) (omega arith) ∙ sym (drop-drop 32 (2 * i) digits) ∙ ap (drop 32) (sym is)) ∙ take-append-drop 32 part ∙ is in
    record {
      inside = omega (arith, done.inside, size, room);
      twice = omega (arith, done.twice, size);
      front =
          done.front
          ∙ ap (with_front (take i bytes)) (ap (decode_pairs (2 * i)) (sym split) ∙ read (2 * i) (drop (2 * (i + 16)) digits))
          ∙ front-front (take i bytes) (take 16 new) (decode_pairs (2 * i + 32) (drop (2 * (i + 16)) digits))
          ∙ ap₂ (λ (bs : List ℕ) (k : ℕ). with_front bs (decode_pairs k (drop (2 * (i + 16)) digits))) front (omega arith);
    }

-- what comes after those doesn't count
pub still_decoded : (i : ℕ) (digits bytes new : List ℕ) → Decoded i digits bytes → length new ≡ length bytes - i → Decoded i digits (put_mid i (length bytes - i) bytes new)
still_decoded i digits bytes new done len =
    let size = written_len i bytes new done.inside len in
    record {
      inside = omega (arith, done.inside, size);
      twice = omega (arith, done.twice, size);
      front = done.front ∙ ap (λ (bs : List ℕ). with_front bs (decode_pairs (2 * i) (drop (2 * i) digits))) (sym (take-put_mid_below i (length bytes - i) bytes new i (omega arith) done.inside));
    }

value_of : (front out : List ℕ) (there here : Result (List ℕ) FromHexError) (r : Result Unit FromHexError) → result_ok there ≡ result_ok here
    → MatchResult here (λ bytes. (r ≡ Ok tt) × (out ≡ bytes)) (λ e. r ≡ Err e) → result_ok (with_front front there) ≡ cond (is_ok r) (Some (front ++ out)) None
value_of front out (Ok a) (Ok b) (Ok u) same is = ap (λ (o : Option (List ℕ)). some_front o) (same ∙ ap Some (sym is.1))
  where
    some_front : Option (List ℕ) → Option (List ℕ)
    some_front (Some bytes) = Some (front ++ bytes)
    some_front None = None
value_of front out (Ok a) (Ok b) (Err e) same is = cc is.0
value_of front out (Err a) (Err b) (Err e) same is = refl
value_of front out (Err a) (Err b) (Ok u) same is = cc is
value_of front out (Ok a) (Err b) r same is = cc same
value_of front out (Err a) (Ok b) r same is = cc same

-- the rest is decoded by itself
pub rest_decoded : (i n : ℕ) (digits bytes part out : List ℕ) (r : Result Unit FromHexError) → Decoded i digits bytes → part ≡ drop (2 * i) digits → n ≡ length bytes - i
    → MatchResult (decode_sized part n) (λ bs. (r ≡ Ok tt) × (out ≡ bs)) (λ e. r ≡ Err e)
    → result_ok (decode_of digits) ≡ cond (is_ok r) (Some (put_mid i (length bytes - i) bytes out)) None
rest_decoded i n digits bytes part out r done is room answer =
    let len : length part ≡ 2 * n = omega (arith, ap length is, length-drop (2 * i) digits, done.twice, room, done.inside) in
    let sized : decode_sized part n ≡ decode_pairs 0 part = decode_sized-pairs part n (omega (arith, len)) (omega (arith, len)) in
    let there = same_anywhere part (2 * i) 0 in
    ap result_ok (decode_of-even digits (omega (arith, done.twice)) ∙ done.front ∙ ap (λ (ds : List ℕ). with_front (take i bytes) (decode_pairs (2 * i) ds)) (sym is))
    ∙ value_of (take i bytes) out (decode_pairs (2 * i) part) (decode_pairs 0 part) r there (rw sized at answer)
    ∙ ap (λ (bs : List ℕ). cond (is_ok r) (Some bs) None) (sym (written_whole i bytes out))
