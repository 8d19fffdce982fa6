-- A segment written for a device, and what the device makes of it.
use Rattle.std.proofs.Common.{◌≡◌, ℕ, ◌+◌, ◌-◌, ◌<◌, ◌≤◌, List, ◌++◌, length, take, drop, refl, sym, ap, ◌∙◌, arith}
use Rattle.std.proofs.lemmas.List.{take_at, drop_at, drop-drop}
use Rattle.byteorder.specs.Endian.{big_bytes}
use Rattle.tcp_numbers.specs.Checksum.{AreBytes, word_sum, pseudo_header, completion, field}
use Rattle.tcp_numbers.specs.Partial.{folded, partial_field, device_field}
use Rattle.tcp_numbers.proofs.WordSums.{word_sum_bound}
use Rattle.tcp_numbers.proofs.Folding.{completed_field}
use Rattle.tcp_wire.specs.Wire.{Content, IsValid, wire_length, segment_bytes, encoded_bytes}
use Rattle.tcp_wire.specs.Partial.{completed, with_partial_sum}
use Rattle.tcp_wire.specs.Vouched.{with_field}
use Rattle.tcp_wire.proofs.Places.{field_written, drop_put}
use Rattle.tcp_wire.proofs.Writing.{length_segment_bytes, sum_with_field, segment_bytes_are_bytes, option_bytes_fit}
use borrow.Rule.Slice.PartMut.{put_mid}

-- the field that was there doesn't matter
with_field_again : (v : Content) (f g : ℕ) → with_field (segment_bytes v f) g ≡ segment_bytes v g
with_field_again v f g = refl

pub partial_is : (src dst : List ℕ) (v : Content) → with_partial_sum src dst (encoded_bytes src dst v) ≡ segment_bytes v (partial_field src dst (wire_length v))
unfolding with_partial_sum encoded_bytes
partial_is src dst v =
    let f : ℕ = field src dst (segment_bytes v 0) in
    with_field_again v f (partial_field src dst (length (segment_bytes v f)))
    ∙ ap (λ (n : ℕ). segment_bytes v (partial_field src dst n)) (length_segment_bytes v f)

-- the device's sum completes it
pub completed_partial : (src dst : List ℕ) (v : Content) (q : ℕ) → IsValid v → q ≡ partial_field src dst (wire_length v) → 0 < q → q < 65536
    → completed (segment_bytes v q) ≡ encoded_bytes src dst v
unfolding completed encoded_bytes
completed_partial src dst v q valid q_is some small =
    let t : ℕ = word_sum (segment_bytes v 0) in
    let p : ℕ = word_sum (pseudo_header src dst (wire_length v)) in
    let fits : AreBytes (segment_bytes v 0) = segment_bytes_are_bytes v 0 valid (option_bytes_fit v valid.options) in
    let bound = word_sum_bound (segment_bytes v 0) fits in
    let low : t + folded p < 4294967296 = omega (arith, bound, length_segment_bytes v 0, valid.most, small, q_is) in
    let sum : word_sum (segment_bytes v q) ≡ t + folded p = omega (arith, sum_with_field v q small, q_is) in
    let pseudo : p ≡ word_sum (pseudo_header src dst (length (segment_bytes v 0))) = ap (λ (n : ℕ). word_sum (pseudo_header src dst n)) (sym (length_segment_bytes v 0)) in
    let right : device_field (segment_bytes v q) ≡ field src dst (segment_bytes v 0) =
    ap (λ (n : ℕ). 65535 - folded n) sum ∙ completed_field t p (omega (arith, some, q_is)) low ∙ ap (λ (n : ℕ). completion (n + t)) pseudo in
    with_field_again v q (device_field (segment_bytes v q)) ∙ ap (segment_bytes v) right

pub partial_written : (src dst : List ℕ) (v : Content) (f n : ℕ) (rest out part : List ℕ) (k : ℕ) → n ≡ wire_length v → out ≡ segment_bytes v 0 ++ rest → f ≡ partial_field src dst n
    → k ≡ length out - 16 → part ≡ big_bytes 2 f ++ drop 2 (take k (drop 16 out)) → put_mid 16 k out part ≡ with_partial_sum src dst (encoded_bytes src dst v) ++ rest
partial_written src dst v f n rest out part k len is field_is klen part_is =
    field_written v f rest out part k is klen part_is
    ∙ ap (λ (bytes : List ℕ). bytes ++ rest) (ap (segment_bytes v) (field_is ∙ ap (partial_field src dst) len) ∙ sym (partial_is src dst v))

pub partial_completes : (src dst : List ℕ) (v : Content) (f n : ℕ) (rest out part : List ℕ) (k : ℕ) → IsValid v → n ≡ wire_length v → out ≡ segment_bytes v 0 ++ rest → f ≡ partial_field src dst n
    → 0 < f → f < 65536 → k ≡ length out - 16 → part ≡ big_bytes 2 f ++ drop 2 (take k (drop 16 out)) → completed (take n (put_mid 16 k out part)) ≡ encoded_bytes src dst v
partial_completes src dst v f n rest out part k valid len is field_is some small klen part_is =
    ap completed (ap (take n) (field_written v f rest out part k is klen part_is) ∙ take_at (segment_bytes v f) rest n (length_segment_bytes v f ∙ sym len))
    ∙ completed_partial src dst v f valid (field_is ∙ ap (partial_field src dst) len) some small

-- what was written around the text, over what was there before the text was put
pub partial_over : (src dst : List ℕ) (v w : Content) (at n k : ℕ) (new old part : List ℕ) → at + n ≤ length old → k ≡ n → length part ≡ n → wire_length w ≡ at + n → v ≡ w
    → new ≡ with_partial_sum src dst (encoded_bytes src dst v) ++ drop (wire_length v) (put_mid at k old part)
    → new ≡ with_partial_sum src dst (encoded_bytes src dst w) ++ drop (wire_length w) old
partial_over src dst v w at n k new old part room k_is part_len whole same is =
    let out : List ℕ = put_mid at k old part in
    let written : Content → List ℕ = λ x. with_partial_sum src dst (encoded_bytes src dst x) in
    let behind : drop (at + n) out ≡ drop (at + n) old =
    sym (drop-drop n at out) ∙ ap (drop n) (drop_put at n k old part room k_is part_len) ∙ drop_at part (drop n (drop at old)) n part_len ∙ drop-drop n at old in
    is ∙ ap (λ (x : Content). written x ++ drop (wire_length x) out) same
    ∙ ap (λ (m : ℕ). written w ++ drop m out) whole ∙ ap (λ (xs : List ℕ). written w ++ xs) behind
    ∙ ap (λ (m : ℕ). written w ++ drop m old) (sym whole)
