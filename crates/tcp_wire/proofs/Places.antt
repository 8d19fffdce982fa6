-- What is in `out` after a write that follows what was written before.
use Rattle.std.proofs.Common.{◌≡◌, ℕ, ◌+◌, ◌-◌, ◌≤◌, List, [], ◌++◌, length, map, take, drop, refl, sym, append_assoc, length-append, ap, ◌∙◌, arith}
use Rattle.std.proofs.lemmas.List.{take_at, drop_at, drop-drop, take_rest, drop_all, append-nil, length-drop, length-take-le, take-append-drop}
use Rattle.byteorder.specs.Endian.{big_bytes}
use Rattle.tcp_numbers.specs.Checksum.{field}
use Rattle.tcp_wire.specs.Wire.{Content, wire_length, segment_bytes, encoded_bytes}
use Rattle.tcp_wire.specs.declared.header.Header.{Header}
use Rattle.tcp_wire.specs.declared.option.TcpOption.{TcpOption}
use Rattle.tcp_wire.specs.View.{option_content, content_of, text_offset, around}
use Rattle.tcp_wire.proofs.Writing.{length_segment_bytes}
use borrow.Rule.Slice.PartMut.{put_mid}

-- a part after a front
pub put_after : (a k : ℕ) (front old out part : List ℕ) → out ≡ front ++ old → length front ≡ a → put_mid a k out part ≡ front ++ (part ++ drop k old)
put_after a k front old out part is len = rw (is, take_at front old a len, drop_at front old a len) refl

-- a part that ends in what was there, after a front of what is written
pub written_after : (a k n : ℕ) (front old out part X : List ℕ) → out ≡ front ++ drop a old → length front ≡ a → k ≡ length out - a
    → part ≡ X ++ drop n (take k (drop a out)) → put_mid a k out part ≡ (front ++ X) ++ drop (a + n) old
written_after a k n front old out part X is len klen part_is =
    let whole : take k (drop a out) ≡ drop a out = ap (λ (m : ℕ). take m (drop a out)) klen ∙ take_rest out a in
    let behind : drop a out ≡ drop a old = ap (drop a) is ∙ drop_at front (drop a old) a len in
    let none : drop k (drop a old) ≡ [] = drop_all k (drop a old) (omega (arith, klen, ap length (sym behind), length-drop a out)) in
    let part' : part ≡ X ++ drop (a + n) old = part_is ∙ ap (λ (xs : List ℕ). X ++ drop n xs) (whole ∙ behind) ∙ ap (λ (xs : List ℕ). X ++ xs) (drop-drop n a old) in
    put_after a k front (drop a old) out part is len
    ∙ ap (λ (xs : List ℕ). front ++ (part ++ xs)) none
    ∙ ap (λ (xs : List ℕ). front ++ xs) (append-nil part ∙ part')
    ∙ sym (append_assoc front X (drop (a + n) old))

-- a part of n bytes that is put after the first `at`
put_is : (at n k : ℕ) (old part : List ℕ) → at + n ≤ length old → k ≡ n → put_mid at k old part ≡ take at old ++ (part ++ drop n (drop at old))
put_is at n k old part room k_is =
    ap (λ (m : ℕ). put_mid at m old part) k_is ∙ put_after at n (take at old) (drop at old) old part (sym (take-append-drop at old)) (length-take-le at old (omega arith))

pub length_put : (at n k : ℕ) (old part : List ℕ) → at + n ≤ length old → k ≡ n → length part ≡ n → length (put_mid at k old part) ≡ length old
length_put at n k old part room k_is len =
    let rest : List ℕ = drop n (drop at old) in
    omega (arith, ap length (put_is at n k old part room k_is), length-append (take at old) (part ++ rest), length-append part rest, length-take-le at old (omega arith), length-drop n (drop at old), length-drop at old)

pub drop_put : (at n k : ℕ) (old part : List ℕ) → at + n ≤ length old → k ≡ n → length part ≡ n → drop at (put_mid at k old part) ≡ part ++ drop n (drop at old)
drop_put at n k old part room k_is len =
    ap (drop at) (put_is at n k old part room k_is) ∙ drop_at (take at old) (part ++ drop n (drop at old)) at (length-take-le at old (omega arith))

-- a header around text that is put at its offset has the content of the two
pub around_put : (header : Header) (options : List TcpOption) (pad at n k : ℕ) (old part text : List ℕ) (v : Content) → at ≡ text_offset (map option_content options) pad → at + n ≤ length old
    → k ≡ n → length text ≡ n → part ≡ text → content_of header (map option_content options) pad text ≡ v → around header options pad n (put_mid at k old part) ≡ v
around_put header options pad at n k old part text v at_is room k_is len part_is is =
    let part_len : length part ≡ n = ap length part_is ∙ len in
    let stands : take n (drop at (put_mid at k old part)) ≡ text =
    ap (take n) (drop_put at n k old part room k_is part_len) ∙ take_at part (drop n (drop at old)) n part_len ∙ part_is in
    ap (λ (m : ℕ). content_of header (map option_content options) pad (take n (drop m (put_mid at k old part)))) (sym at_is) ∙ ap (content_of header (map option_content options) pad) stands ∙ is

-- what was written around the text, over what was there before the text was put
pub encoded_over : (src dst : List ℕ) (v w : Content) (at n k : ℕ) (new old part : List ℕ) → at + n ≤ length old → k ≡ n → length part ≡ n → wire_length w ≡ at + n → v ≡ w
    → new ≡ encoded_bytes src dst v ++ drop (wire_length v) (put_mid at k old part) → new ≡ encoded_bytes src dst w ++ drop (wire_length w) old
encoded_over src dst v w at n k new old part room k_is part_len whole same is =
    let out : List ℕ = put_mid at k old part in
    let behind : drop (at + n) out ≡ drop (at + n) old =
    sym (drop-drop n at out) ∙ ap (drop n) (drop_put at n k old part room k_is part_len) ∙ drop_at part (drop n (drop at old)) n part_len ∙ drop-drop n at old in
    is ∙ ap (λ (x : Content). encoded_bytes src dst x ++ drop (wire_length x) out) same
    ∙ ap (λ (m : ℕ). encoded_bytes src dst w ++ drop m out) whole ∙ ap (λ (xs : List ℕ). encoded_bytes src dst w ++ xs) behind
    ∙ ap (λ (m : ℕ). encoded_bytes src dst w ++ drop m old) (sym whole)

-- the length of the whole, by the offset of its text
pub length_around : (header : Header) (options : List TcpOption) (pad at n : ℕ) (text : List ℕ) (v : Content) → at ≡ text_offset (map option_content options) pad → length text ≡ n
    → content_of header (map option_content options) pad text ≡ v → wire_length v ≡ at + n
length_around header options pad at n text v at_is len is = omega (arith, ap wire_length is)

-- text was put at its offset in `old`, and together with what is around it there it is v
pub record IsAround (v : Content) (header : Header) (options : List TcpOption) (pad at n k : ℕ) (old part : List ℕ) : Type 0 where
  pub whole : wire_length v ≡ at + n
  pub room : at + n ≤ length old
  pub same : around header options pad n (put_mid at k old part) ≡ v

pub is_around : (v : Content) (header : Header) (options : List TcpOption) (pad at n k : ℕ) (old part text : List ℕ) → at ≡ text_offset (map option_content options) pad
    → wire_length v ≤ length old → k ≡ n → length text ≡ n → part ≡ text → content_of header (map option_content options) pad text ≡ v → IsAround v header options pad at n k old part
is_around v header options pad at n k old part text at_is fits k_is len part_is says =
    let whole : wire_length v ≡ at + n = length_around header options pad at n text v at_is len says in
    let room : at + n ≤ length old = omega (arith, whole, fits) in
    record { whole = whole; room = room; same = around_put header options pad at n k old part text v at_is room k_is len part_is says }

drop_past : (k : ℕ) (xs out : List ℕ) → xs ≡ drop 16 out → k ≡ length out - 16 → drop k xs ≡ []
drop_past k xs out is len = drop_all k xs (omega (arith, ap length is, length-drop 16 out))

pub field_written : (v : Content) (f : ℕ) (rest out part : List ℕ) (k : ℕ) → out ≡ segment_bytes v 0 ++ rest → k ≡ length out - 16
    → part ≡ big_bytes 2 f ++ drop 2 (take k (drop 16 out)) → put_mid 16 k out part ≡ segment_bytes v f ++ rest
field_written v f rest out part k is len part_is =
    let behind : take k (drop 16 out) ≡ drop 16 out = ap (λ (n : ℕ). take n (drop 16 out)) len ∙ take_rest out 16 in
    let past : drop k (drop 16 out) ≡ [] = drop_past k (drop 16 out) out refl len in
    let part' : part ≡ big_bytes 2 f ++ drop 18 (segment_bytes v 0 ++ rest) = part_is ∙ ap (λ (xs : List ℕ). big_bytes 2 f ++ drop 2 xs) (behind ∙ ap (drop 16) is) in
    ap (λ (xs : List ℕ). take 16 out ++ (part ++ xs)) past
    ∙ ap (λ (xs : List ℕ). take 16 out ++ xs) (append-nil part)
    ∙ ap (λ (xs : List ℕ). take 16 out ++ xs) part'
    ∙ ap (λ (xs : List ℕ). take 16 xs ++ (big_bytes 2 f ++ drop 18 (segment_bytes v 0 ++ rest))) is

pub encoded_written : (src dst : List ℕ) (v : Content) (f n : ℕ) (rest out part whole : List ℕ) (k : ℕ) → n ≡ wire_length v → out ≡ segment_bytes v 0 ++ rest
    → f ≡ field src dst whole → whole ≡ take n out
    → k ≡ length out - 16 → part ≡ big_bytes 2 f ++ drop 2 (take k (drop 16 out)) → put_mid 16 k out part ≡ encoded_bytes src dst v ++ rest
unfolding encoded_bytes
encoded_written src dst v f n rest out part whole k len is field_is whole_is klen part_is =
    let same : whole ≡ segment_bytes v 0 = whole_is ∙ ap (take n) is ∙ take_at (segment_bytes v 0) rest n (length_segment_bytes v 0 ∙ sym len) in
    field_written v f rest out part k is klen part_is
    ∙ ap (λ (g : ℕ). segment_bytes v g ++ rest) (field_is ∙ ap (field src dst) same)
