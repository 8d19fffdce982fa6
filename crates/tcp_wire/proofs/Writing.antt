-- What is written for a segment is in the grammar, and nothing else is but for the other zero.
use Rattle.std.proofs.Common.{◌≡◌, ℕ, ◌+◌, ◌-◌, ◌*◌, ◌/◌, ◌%◌, ◌<◌, List, ◌∷◌, ◌++◌, length, take, drop, get_or, replicate, refl, sym, ap, subst, ◌∙◌, ◌⊎◌, inl, inr, length-append, arith}
use Rattle.std.proofs.lemmas.List.{length-drop}
use Rattle.byteorder.specs.Endian.{big_from, big_bytes}
use Rattle.tcp_numbers.specs.Checksum.{AreBytes, word_sum, pseudo_header, segment_sum, Checks, completion, field}
use Rattle.tcp_wire.specs.Options.{spellings, AreSpellable}
use Rattle.tcp_wire.specs.Wire.{Content, HasHeader, IsWire, IsValid, HasOtherZero, option_bytes, wire_length, segment_bytes, encoded_bytes}
use Rattle.tcp_wire.proofs.Bytes.{bytes_cons, bytes_append, bytes_zeros, bytes_drop, bytes_after_front, bytes_two, bytes_four, next_two, next_four, next_one}
use Rattle.tcp_wire.proofs.OptionLaws.{spellings_bytes}

-- ---- the checksum field

pub completion_checks : (sum : ℕ) → (sum + completion sum) % 65535 ≡ 0
completion_checks sum = omega arith

pub completion_below : (sum : ℕ) → completion sum < 65535
completion_below sum = omega arith

-- a field that makes the sum check is the completion, or ffff where the completion is 0
completion_only : (sum found : ℕ) → found < 65536 → (sum + found) % 65535 ≡ 0 → (found ≡ completion sum) ⊎ ((completion sum ≡ 0) × (found ≡ 65535))
completion_only sum found fits checks = grind arith

pub sum_with_field : (v : Content) (f : ℕ) → f < 65536 → word_sum (segment_bytes v f) ≡ word_sum (segment_bytes v 0) + f
sum_with_field v f fits = omega arith

pub length_segment_bytes : (v : Content) (f : ℕ) → length (segment_bytes v f) ≡ wire_length v
length_segment_bytes v f = omega (arith, length-append (option_bytes v) v.text)

segment_sum_with_field : (src dst : List ℕ) (v : Content) (f : ℕ) → f < 65536 → segment_sum src dst (segment_bytes v f) ≡ segment_sum src dst (segment_bytes v 0) + f
segment_sum_with_field src dst v f fits =
    let len : length (segment_bytes v f) ≡ length (segment_bytes v 0) = length_segment_bytes v f ∙ sym (length_segment_bytes v 0) in
    let pseudo = ap (λ (n : ℕ). word_sum (pseudo_header src dst n)) len in
    omega (arith, pseudo, sum_with_field v f fits)

field_of : (src dst : List ℕ) (v : Content) → field src dst (segment_bytes v 0) ≡ completion (segment_sum src dst (segment_bytes v 0))
field_of src dst v = refl

-- ---- into the grammar

pub segment_bytes_are_bytes : (v : Content) (f : ℕ) → IsValid v → AreBytes (option_bytes v) → AreBytes (segment_bytes v f)
segment_bytes_are_bytes v f valid options =
    let room = valid.room in
    let low = valid.reserved in
    let behind : List ℕ = option_bytes v ++ v.text in
    let urgent : List ℕ = big_bytes 2 v.urgent ++ behind in
    let checksum : List ℕ = big_bytes 2 f ++ urgent in
    let window : List ℕ = big_bytes 2 v.window ++ checksum in
    let flags : List ℕ = v.flags ∷ window in
    let offset : List ℕ = (16 * (5 + length (option_bytes v) / 4) + v.reserved) ∷ flags in
    let ack : List ℕ = big_bytes 4 v.ack ++ offset in
    let seq : List ℕ = big_bytes 4 v.seq ++ ack in
    let dst_port : List ℕ = big_bytes 2 v.dst_port ++ seq in
    let h1 : AreBytes checksum = bytes_two f urgent (bytes_two v.urgent behind (bytes_append (option_bytes v) v.text options valid.text)) in
    let h2 : AreBytes flags = bytes_cons v.flags window valid.flags (bytes_two v.window checksum h1) in
    let h3 : AreBytes offset = bytes_cons (16 * (5 + length (option_bytes v) / 4) + v.reserved) flags (omega arith) h2 in
    let h4 : AreBytes dst_port = bytes_two v.dst_port seq (bytes_four v.seq ack (bytes_four v.ack offset h3)) in
    bytes_two v.src_port dst_port h4

segment_bytes_header : (v : Content) (f : ℕ) → IsValid v → HasHeader v (segment_bytes v f)
segment_bytes_header v f valid =
    let src_port = valid.src_port in let dst_port = valid.dst_port in let seq = valid.seq in let ack = valid.ack in
    let reserved = valid.reserved in let window = valid.window in let urgent = valid.urgent in
    record {
      src_port = omega arith;
      dst_port = omega arith;
      seq = omega arith;
      ack = omega arith;
      reserved = omega arith;
      flags = refl;
      window = omega arith;
      urgent = omega arith;
    }

pub option_bytes_fit : (v : Content) → AreSpellable v.options → AreBytes (option_bytes v)
option_bytes_fit v spellable = bytes_append (spellings v.options) (replicate {A = ℕ} v.pad 0) (spellings_bytes v.options spellable) (bytes_zeros v.pad)

pub IsWire_encoded : (src dst : List ℕ) (v : Content) → IsValid v → IsWire src dst v (encoded_bytes src dst v)
unfolding encoded_bytes
IsWire_encoded src dst v valid =
    let f : ℕ = field src dst (segment_bytes v 0) in
    let sum = segment_sum src dst (segment_bytes v 0) in
    let len = length_segment_bytes v f in
    let checks : Checks src dst (segment_bytes v f) = rw (segment_sum_with_field src dst v f (omega (arith, completion_below sum))) (completion_checks sum) in
    let whole = valid.whole_words in
    let low = valid.reserved in
    record {
      are_bytes = segment_bytes_are_bytes v f valid (option_bytes_fit v valid.options);
      least = omega arith;
      most = omega (arith, valid.most, len);
      checks = checks;
      header = segment_bytes_header v f valid;
      offset = omega arith;
      options = valid.options;
      behind = refl;
    }

-- ---- and out of it

-- the bytes of the grammar are what is spelled with the field that they have
pub segment_bytes_of : (src dst : List ℕ) (v : Content) (bytes : List ℕ) → IsWire src dst v bytes → bytes ≡ segment_bytes v (big_from 16 2 bytes)
segment_bytes_of src dst v bytes w =
    let least = w.least in
    let offset = w.offset in
    let fits = w.are_bytes in
    let h = w.header in
    let low = h.reserved in
    let first : get_or bytes 12 0 ≡ 16 * (5 + length (option_bytes v) / 4) + v.reserved = omega arith in
    next_two 0 bytes v.src_port fits (omega arith) h.src_port
    ∙ ap (λ (r : List ℕ). big_bytes 2 v.src_port ++ r) (next_two 2 bytes v.dst_port fits (omega arith) h.dst_port
    ∙ ap (λ (r : List ℕ). big_bytes 2 v.dst_port ++ r) (next_four 4 bytes v.seq fits (omega arith) h.seq
    ∙ ap (λ (r : List ℕ). big_bytes 4 v.seq ++ r) (next_four 8 bytes v.ack fits (omega arith) h.ack
    ∙ ap (λ (r : List ℕ). big_bytes 4 v.ack ++ r) (next_one 12 bytes _ (omega arith) first
    ∙ ap (λ (r : List ℕ). (16 * (5 + length (option_bytes v) / 4) + v.reserved) ∷ r) (next_one 13 bytes v.flags (omega arith) (sym h.flags)
    ∙ ap (λ (r : List ℕ). v.flags ∷ r) (next_two 14 bytes v.window fits (omega arith) h.window
    ∙ ap (λ (r : List ℕ). big_bytes 2 v.window ++ r) (next_two 16 bytes (big_from 16 2 bytes) fits (omega arith) refl
    ∙ ap (λ (r : List ℕ). big_bytes 2 (big_from 16 2 bytes) ++ r) (next_two 18 bytes v.urgent fits (omega arith) h.urgent
    ∙ ap (λ (r : List ℕ). big_bytes 2 v.urgent ++ r) w.behind))))))))

other_zero : (src dst : List ℕ) (v : Content) (bytes : List ℕ) (g : ℕ) → bytes ≡ segment_bytes v g → completion (segment_sum src dst (segment_bytes v 0)) ≡ 0 → g ≡ 65535 → HasOtherZero (encoded_bytes src dst v) bytes
unfolding encoded_bytes
other_zero src dst v bytes g is none all = record {
  front = take 16 (segment_bytes v 0);
  rest = drop 18 (segment_bytes v 0);
  place = refl;
  written_is = ap (segment_bytes v) none;
  other_is = is ∙ ap (segment_bytes v) all;
}

pub only_encoded : (src dst : List ℕ) (v : Content) (bytes : List ℕ) → IsWire src dst v bytes → (bytes ≡ encoded_bytes src dst v) ⊎ HasOtherZero (encoded_bytes src dst v) bytes
unfolding encoded_bytes
only_encoded src dst v bytes w =
    let g : ℕ = big_from 16 2 bytes in
    let fa = w.are_bytes 16 in
    let fb = w.are_bytes 17 in
    let fits : g < 65536 = omega arith in
    let is = segment_bytes_of src dst v bytes w in
    let sum = segment_sum src dst (segment_bytes v 0) in
    let checks : Checks src dst (segment_bytes v g) = subst (Checks src dst) is w.checks in
    let checks' : (sum + g) % 65535 ≡ 0 = rw (← segment_sum_with_field src dst v g fits) checks in
    elim (completion_only sum g fits checks') [
      | inl same ↦ inl (is ∙ ap (segment_bytes v) same)
      | inr other ↦ inr (other_zero src dst v bytes g is other.0 other.1)
    ]

pub wire_valid : (src dst : List ℕ) (v : Content) (bytes : List ℕ) → IsWire src dst v bytes → IsValid v
wire_valid src dst v bytes w =
    let h = w.header in
    let src_port = h.src_port in let dst_port = h.dst_port in let seq = h.seq in let ack = h.ack in
    let reserved = h.reserved in let flags = h.flags in let window = h.window in let urgent = h.urgent in
    let fits = w.are_bytes in
    let f0 = fits 0 in let f1 = fits 1 in let f2 = fits 2 in let f3 = fits 3 in let f4 = fits 4 in let f5 = fits 5 in let f6 = fits 6 in let f7 = fits 7 in
    let f8 = fits 8 in let f9 = fits 9 in let f10 = fits 10 in let f11 = fits 11 in let f12 = fits 12 in let f13 = fits 13 in let f14 = fits 14 in let f15 = fits 15 in
    let f18 = fits 18 in let f19 = fits 19 in
    let offset = w.offset in
    let behind : AreBytes (option_bytes v ++ v.text) = subst (λ (xs : List ℕ). AreBytes xs) w.behind (bytes_drop 20 bytes fits) in
    let len : length (option_bytes v ++ v.text) ≡ length bytes - 20 = ap length (sym w.behind) ∙ length-drop 20 bytes in
    record {
      src_port = omega arith;
      dst_port = omega arith;
      seq = omega arith;
      ack = omega arith;
      reserved = omega arith;
      flags = omega arith;
      window = omega arith;
      urgent = omega arith;
      options = w.options;
      whole_words = omega arith;
      room = omega arith;
      text = bytes_after_front (option_bytes v) v.text behind;
      most = omega (arith, len, length-append (option_bytes v) v.text, w.most, w.least);
    }
