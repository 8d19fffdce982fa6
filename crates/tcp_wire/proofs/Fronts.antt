-- A segment written in front of text that lies elsewhere.
use Rattle.std.proofs.Common.{◌≡◌, ℕ, ◌+◌, ◌-◌, ◌/◌, List, [], ◌++◌, length, take, drop, append_assoc, append-nil, ap, ◌∙◌, arith}
use Rattle.std.proofs.lemmas.List.{take_at, drop_at}
use Rattle.byteorder.specs.Endian.{big_bytes}
use Rattle.tcp_numbers.specs.Checksum.{segment_sum, completion, field}
use Rattle.tcp_wire.specs.declared.header.Header.{Header}
use Rattle.tcp_wire.specs.Options.{OptionContent}
use Rattle.tcp_wire.specs.Wire.{Content, IsValid, wire_length, option_bytes, number_bytes, control_bytes, segment_bytes, encoded_bytes}
use Rattle.tcp_wire.specs.View.{content_of, text_offset}
use Rattle.tcp_wire.proofs.Places.{field_written}
use Rattle.tcp_wire.proofs.Writing.{length_segment_bytes}
use borrow.Rule.Slice.PartMut.{put_mid}

-- without its text a segment can be written as well
pub bare_valid : (header : Header) (options : List OptionContent) (pad : ℕ) (text : List ℕ) → IsValid (content_of header options pad text) → IsValid (content_of header options pad [])
bare_valid header options pad text valid = record {
  src_port = valid.src_port;
  dst_port = valid.dst_port;
  seq = valid.seq;
  ack = valid.ack;
  reserved = valid.reserved;
  flags = valid.flags;
  window = valid.window;
  urgent = valid.urgent;
  options = valid.options;
  whole_words = valid.whole_words;
  room = valid.room;
  text = λ i. omega arith;
  most = omega (arith, valid.most);
}

-- its bytes, and then the text
front_and_text : (header : Header) (options : List OptionContent) (pad f : ℕ) (text : List ℕ) →
    segment_bytes (content_of header options pad []) f ++ text ≡ segment_bytes (content_of header options pad text) f
front_and_text header options pad f text =
    let v : Content = content_of header options pad [] in
    let fixed : List ℕ = number_bytes v ++ control_bytes v (5 + length (option_bytes v) / 4) f in
    append_assoc fixed (option_bytes v ++ []) text
    ∙ ap (λ (area : List ℕ). fixed ++ (area ++ text)) (append-nil (option_bytes v))

front_length : (header : Header) (options : List OptionContent) (pad f n : ℕ) → n ≡ text_offset options pad → length (segment_bytes (content_of header options pad []) f) ≡ n
front_length header options pad f n at = omega (arith, length_segment_bytes (content_of header options pad []) f)

-- the field that was summed in parts
front_field : (src dst : List ℕ) (header : Header) (options : List OptionContent) (pad f n : ℕ) (text rest out : List ℕ) → n ≡ text_offset options pad
    → out ≡ segment_bytes (content_of header options pad []) 0 ++ rest → f ≡ completion (segment_sum src dst (take n out ++ text))
    → f ≡ field src dst (segment_bytes (content_of header options pad text) 0)
front_field src dst header options pad f n text rest out at is field_is =
    let v : Content = content_of header options pad [] in
    let front : take n out ≡ segment_bytes v 0 = ap (take n) is ∙ take_at (segment_bytes v 0) rest n (front_length header options pad 0 n at) in
    field_is ∙ ap (λ (bytes : List ℕ). completion (segment_sum src dst bytes)) (ap (λ (bytes : List ℕ). bytes ++ text) front ∙ front_and_text header options pad 0 text)

pub front_written : (src dst : List ℕ) (header : Header) (options : List OptionContent) (pad f n : ℕ) (text rest out part : List ℕ) (k : ℕ) → n ≡ text_offset options pad
    → out ≡ segment_bytes (content_of header options pad []) 0 ++ rest → f ≡ completion (segment_sum src dst (take n out ++ text))
    → k ≡ length out - 16 → part ≡ big_bytes 2 f ++ drop 2 (take k (drop 16 out))
    → take n (put_mid 16 k out part) ++ text ≡ encoded_bytes src dst (content_of header options pad text)
unfolding encoded_bytes
front_written src dst header options pad f n text rest out part k at is field_is klen part_is =
    let v : Content = content_of header options pad [] in
    let put : put_mid 16 k out part ≡ segment_bytes v f ++ rest = field_written v f rest out part k is klen part_is in
    let front : take n (put_mid 16 k out part) ≡ segment_bytes v f = ap (take n) put ∙ take_at (segment_bytes v f) rest n (front_length header options pad f n at) in
    ap (λ (bytes : List ℕ). bytes ++ text) front
    ∙ front_and_text header options pad f text
    ∙ ap (segment_bytes (content_of header options pad text)) (front_field src dst header options pad f n text rest out at is field_is)

pub front_rest : (header : Header) (options : List OptionContent) (pad f n m : ℕ) (old out part : List ℕ) (k : ℕ) → n ≡ text_offset options pad
    → m ≡ wire_length (content_of header options pad []) → out ≡ segment_bytes (content_of header options pad []) 0 ++ drop m old
    → k ≡ length out - 16 → part ≡ big_bytes 2 f ++ drop 2 (take k (drop 16 out)) → drop n (put_mid 16 k out part) ≡ drop n old
front_rest header options pad f n m old out part k at len is klen part_is =
    let v : Content = content_of header options pad [] in
    let same : m ≡ n = omega (arith, at, len) in
    ap (drop n) (field_written v f (drop m old) out part k is klen part_is)
    ∙ drop_at (segment_bytes v f) (drop m old) n (front_length header options pad f n at)
    ∙ ap (λ (i : ℕ). drop i old) same
