-- What is read of a segment doesn't depend on its checksum field, once that is right.
use Rattle.std.proofs.Common.{◌≡◌, ℕ, ◌+◌, ◌-◌, ◌*◌, ◌/◌, ◌<◌, ◌≤◌, List, ◌∷◌, ◌++◌, length, take, drop, get_or, refl, sym, ap, ◌∙◌, cond, ltb, ◌||◌, Bool, true, false, Ok, Err, Result, length-append, arith}
use Rattle.std.proofs.lemmas.List.{drop-drop, length-take, length-take-le, length-drop, get_or-take, get_or-drop, take_at, drop_at}
use Rattle.std.proofs.lemmas.Bool.{ltb-false}
use Rattle.byteorder.specs.Endian.{big_bytes}
use Rattle.tcp_numbers.specs.Checksum.{AreBytes, word_sum, pseudo_header, segment_sum, Checks, field, without_field}
use Rattle.tcp_numbers.proofs.WordSums.{word_sum-append}
use Rattle.tcp_wire.specs.declared.fault.DecodeError.{DecodeError}
use Rattle.tcp_wire.specs.declared.fault.DecodeError.TheVariants.{TooShort, TooLong, BadOffset}
use Rattle.tcp_wire.specs.Options.{OptionContent}
use Rattle.tcp_wire.specs.Wire.{Content, data_offset, option_area}
use Rattle.tcp_wire.specs.Decoded.{content_at, options_in, with_options, layout_of, decode_answer}
use Rattle.std.specs.Prelude.{MatchResult}
use Rattle.tcp_wire.specs.declared.raw.RawSegment.{RawSegment}
use Rattle.tcp_wire.specs.View.{raw_content}
use Rattle.tcp_wire.specs.Vouched.{with_field, with_right_sum}
use Rattle.tcp_wire.proofs.Bytes.{bytes_append, bytes_take, bytes_two, bytes_drop}
use Rattle.tcp_wire.proofs.Reading.{checked, faulty}
use Rattle.tcp_wire.proofs.Writing.{completion_checks, completion_below}

-- two segments differ at most in their checksum fields
record DiffersInField (xs ys : List ℕ) : Type 0 where
  pub front : take 16 xs ≡ take 16 ys
  pub rest : drop 18 xs ≡ drop 18 ys
  pub len : length xs ≡ length ys

same_at : (xs ys : List ℕ) (k : ℕ) → DiffersInField xs ys → k < 16 → get_or xs k 0 ≡ get_or ys k 0
same_at xs ys k d small =
    sym (get_or-take 16 xs k 0 small) ∙ ap (λ (zs : List ℕ). get_or zs k 0) d.front ∙ get_or-take 16 ys k 0 small

same_after : (xs ys : List ℕ) (k : ℕ) → DiffersInField xs ys → get_or xs (18 + k) 0 ≡ get_or ys (18 + k) 0
same_after xs ys k d = sym (get_or-drop 18 xs k 0) ∙ ap (λ (zs : List ℕ). get_or zs k 0) d.rest ∙ get_or-drop 18 ys k 0

same_drop : (xs ys : List ℕ) (n : ℕ) → DiffersInField xs ys → 18 ≤ n → drop n xs ≡ drop n ys
same_drop xs ys n d far =
    let k : 18 + (n - 18) ≡ n = omega arith in
    ap (λ (m : ℕ). drop m xs) (sym k) ∙ sym (drop-drop (n - 18) 18 xs) ∙ ap (drop (n - 18)) d.rest ∙ drop-drop (n - 18) 18 ys ∙ ap (λ (m : ℕ). drop m ys) k

same_offset : (xs ys : List ℕ) → DiffersInField xs ys → data_offset xs ≡ data_offset ys
same_offset xs ys d = ap (λ (x : ℕ). x / 16) (same_at xs ys 12 d (omega arith))

same_content : (xs ys : List ℕ) (options : List OptionContent) (pad : ℕ) → DiffersInField xs ys → 5 ≤ data_offset xs → content_at xs options pad ≡ content_at ys options pad
same_content xs ys options pad d has =
    let e0 = same_at xs ys 0 d (omega arith) in let e1 = same_at xs ys 1 d (omega arith) in
    let e2 = same_at xs ys 2 d (omega arith) in let e3 = same_at xs ys 3 d (omega arith) in
    let e4 = same_at xs ys 4 d (omega arith) in let e5 = same_at xs ys 5 d (omega arith) in
    let e6 = same_at xs ys 6 d (omega arith) in let e7 = same_at xs ys 7 d (omega arith) in
    let e8 = same_at xs ys 8 d (omega arith) in let e9 = same_at xs ys 9 d (omega arith) in
    let e10 = same_at xs ys 10 d (omega arith) in let e11 = same_at xs ys 11 d (omega arith) in
    let e12 = same_at xs ys 12 d (omega arith) in let e13 = same_at xs ys 13 d (omega arith) in
    let e14 = same_at xs ys 14 d (omega arith) in let e15 = same_at xs ys 15 d (omega arith) in
    let e18 = same_after xs ys 0 d in let e19 = same_after xs ys 1 d in
    let text : drop (4 * data_offset xs) xs ≡ drop (4 * data_offset ys) ys =
    same_drop xs ys (4 * data_offset xs) d (omega arith) ∙ ap (λ (n : ℕ). drop (4 * n) ys) (same_offset xs ys d) in
    rw (e0, e1, e2, e3, e4, e5, e6, e7, e8, e9, e10, e11, e12, e13, e14, e15, e18, e19) (cc)

same_area : (xs ys : List ℕ) → DiffersInField xs ys → option_area xs ≡ option_area ys
same_area xs ys d =
    ap (take (4 * data_offset xs - 20)) (same_drop xs ys 20 d (omega arith)) ∙ ap (λ (n : ℕ). take (4 * n - 20) (drop 20 ys)) (same_offset xs ys d)

same_read : (xs ys : List ℕ) (read : Result (List OptionContent × ℕ) DecodeError) → DiffersInField xs ys → 5 ≤ data_offset xs → with_options xs read ≡ with_options ys read
same_read xs ys (Ok read) d has = ap (λ (v : Content). Ok v) (same_content xs ys read.0 read.1 d has)
same_read xs ys (Err e) d has = refl

left_of : (a b : Bool) → (a || b) ≡ false → a ≡ false
left_of true b e = absurd cc
left_of false b e = refl

same_branch : {A : Type 0} (b c : Bool) (bad x y : A) → b ≡ c → (b ≡ false → x ≡ y) → cond b bad x ≡ cond c bad y
same_branch true true bad x y e f = refl
same_branch true false bad x y e f = absurd cc
same_branch false true bad x y e f = absurd cc
same_branch false false bad x y e f = f refl

same_layout : (xs ys : List ℕ) → DiffersInField xs ys → layout_of xs ≡ layout_of ys
unfolding layout_of
same_layout xs ys d =
    let tests : (ltb (data_offset xs) 5 || ltb (length xs) (4 * data_offset xs)) ≡ (ltb (data_offset ys) 5 || ltb (length ys) (4 * data_offset ys)) =
    ap (λ (o : ℕ). ltb o 5 || ltb (length xs) (4 * o)) (same_offset xs ys d) ∙ ap (λ (n : ℕ). ltb (data_offset ys) 5 || ltb n (4 * data_offset ys)) d.len in
    same_branch (ltb (data_offset xs) 5 || ltb (length xs) (4 * data_offset xs)) (ltb (data_offset ys) 5 || ltb (length ys) (4 * data_offset ys)) (Err BadOffset)
    (with_options xs (options_in 40 20 (option_area xs))) (with_options ys (options_in 40 20 (option_area ys))) tests
    (λ good.
    same_read xs ys (options_in 40 20 (option_area xs)) d (ltb-false _ _ (left_of _ _ good))
    ∙ ap (λ (area : List ℕ). with_options ys (options_in 40 20 area)) (same_area xs ys d))

-- ---- with the checksum field that is right

bytes_vouched : (src dst bytes : List ℕ) → AreBytes bytes → AreBytes (with_right_sum src dst bytes)
unfolding with_right_sum
bytes_vouched src dst bytes fits =
    bytes_append (take 16 bytes) (big_bytes 2 (field src dst bytes) ++ drop 18 bytes) (bytes_take 16 bytes fits)
    (bytes_two (field src dst bytes) (drop 18 bytes) (bytes_drop 18 bytes fits))

length_vouched : (src dst bytes : List ℕ) → length (with_right_sum src dst bytes) ≡ length (take 16 bytes) + (2 + (length bytes - 18))
unfolding with_right_sum
length_vouched src dst bytes =
    omega (arith, length-append (take 16 bytes) (big_bytes 2 (field src dst bytes) ++ drop 18 bytes), length-drop 18 bytes)

same_length : (src dst bytes : List ℕ) → 20 ≤ length bytes → length (with_right_sum src dst bytes) ≡ length bytes
same_length src dst bytes long = omega (arith, length_vouched src dst bytes, length-take-le 16 bytes (omega arith))

differs : (src dst bytes : List ℕ) → 20 ≤ length bytes → DiffersInField (with_right_sum src dst bytes) bytes
unfolding with_right_sum
differs src dst bytes long =
    let front : length (take 16 bytes) ≡ 16 = length-take-le 16 bytes (omega arith) in
    record {
      front = take_at (take 16 bytes) (big_bytes 2 (field src dst bytes) ++ drop 18 bytes) 16 front;
      rest = sym (drop-drop 2 16 (with_field bytes (field src dst bytes))) ∙ ap (drop 2) (drop_at (take 16 bytes) (big_bytes 2 (field src dst bytes) ++ drop 18 bytes) 16 front);
      len = same_length src dst bytes long;
    }

sum_is : (src dst bytes : List ℕ) → 20 ≤ length bytes
    → segment_sum src dst (with_right_sum src dst bytes) ≡ segment_sum src dst (without_field bytes) + field src dst bytes
unfolding with_right_sum
sum_is src dst bytes long =
    let front : length (take 16 bytes) ≡ 16 = length-take-le 16 bytes (omega arith) in
    let f : ℕ = field src dst bytes in
    let small : f < 65535 = completion_below (segment_sum src dst (without_field bytes)) in
    let with_it = word_sum-append 8 (take 16 bytes) (big_bytes 2 f ++ drop 18 bytes) front in
    let without = word_sum-append 8 (take 16 bytes) (0 ∷ 0 ∷ drop 18 bytes) front in
    let lens : length (with_field bytes f) ≡ length (without_field bytes) =
    length-append (take 16 bytes) (big_bytes 2 f ++ drop 18 bytes) ∙ sym (length-append (take 16 bytes) (0 ∷ 0 ∷ drop 18 bytes)) in
    let pseudo = ap (λ (n : ℕ). word_sum (pseudo_header src dst n)) lens in
    omega (arith, small, with_it, without, pseudo)

checks_vouched : (src dst bytes : List ℕ) → 20 ≤ length bytes → Checks src dst (with_right_sum src dst bytes)
checks_vouched src dst bytes long = rw (sum_is src dst bytes long) (completion_checks (segment_sum src dst (without_field bytes)))

-- ---- what is read then

pub vouched_short : (src dst bytes : List ℕ) → AreBytes bytes → length bytes < 20 → decode_answer src dst (with_right_sum src dst bytes) ≡ Err TooShort
vouched_short src dst bytes fits short =
    faulty src dst (with_right_sum src dst bytes) TooShort (bytes_vouched src dst bytes fits) (omega (arith, length_vouched src dst bytes, length-take 16 bytes))

pub vouched_long : (src dst bytes : List ℕ) → AreBytes bytes → 65515 < length bytes → decode_answer src dst (with_right_sum src dst bytes) ≡ Err TooLong
vouched_long src dst bytes fits long =
    faulty src dst (with_right_sum src dst bytes) TooLong (bytes_vouched src dst bytes fits) (omega (arith, same_length src dst bytes (omega arith)))

pub vouched_read : (src dst bytes : List ℕ) → 20 ≤ length bytes → length bytes ≤ 65515 → decode_answer src dst (with_right_sum src dst bytes) ≡ layout_of bytes
vouched_read src dst bytes least most =
    let len = same_length src dst bytes least in
    checked src dst (with_right_sum src dst bytes) (omega arith, omega arith) (checks_vouched src dst bytes least)
    ∙ same_layout (with_right_sum src dst bytes) bytes (differs src dst bytes least)

pub vouched_bytes : (src dst bytes : List ℕ) → AreBytes bytes → AreBytes (with_right_sum src dst bytes)
vouched_bytes src dst bytes fits = bytes_vouched src dst bytes fits

-- so what lays the bytes out reads them so
pub read_through : (src dst bytes : List ℕ) (r : Result RawSegment DecodeError) → 20 ≤ length bytes → length bytes ≤ 65515
    → MatchResult r (λ s. layout_of bytes ≡ Ok (raw_content s)) (λ e. layout_of bytes ≡ Err e)
    → MatchResult r (λ s. decode_answer src dst (with_right_sum src dst bytes) ≡ Ok (raw_content s)) (λ e. decode_answer src dst (with_right_sum src dst bytes) ≡ Err e)
read_through src dst bytes (Ok s) least most read = vouched_read src dst bytes least most ∙ read
read_through src dst bytes (Err e) least most read = vouched_read src dst bytes least most ∙ read
