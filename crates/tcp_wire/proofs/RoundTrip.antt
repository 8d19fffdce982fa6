-- The laws of reading and writing that other crates cite.
use Rattle.std.proofs.Common.{◌≡◌, ◌≢◌, ℕ, ◌<◌, List, ◌++◌, length, take, drop, get_or, set, suc, Ok, Err, sym, ap, subst, ◌∙◌}
use Rattle.std.proofs.lemmas.List.{set_split, take-append-drop}
use Rattle.tcp_wire.specs.declared.fault.DecodeError.TheVariants.{BadChecksum}
use Rattle.tcp_numbers.specs.Checksum.{AreBytes, DiffersInOnePlace, field}
use Rattle.tcp_wire.specs.Wire.{Content, IsWire, IsValid, wire_length, segment_bytes, encoded_bytes}
use Rattle.tcp_wire.specs.Decoded.{decode_answer}
use Rattle.tcp_wire.proofs.Reading.{Explains, explained, complete, damaged}
use Rattle.std.proofs.Math.Seq.{drop-cons}
use Rattle.tcp_wire.proofs.Writing as writing

-- what is written for a valid segment is in the grammar
pub IsWire_encoded : (src dst : List ℕ) (v : Content) → IsValid v → IsWire src dst v (encoded_bytes src dst v)
IsWire_encoded src dst v valid = writing.IsWire_encoded src dst v valid

-- it is as long as the segment says
pub length_encoded : (src dst : List ℕ) (v : Content) → length (encoded_bytes src dst v) ≡ wire_length v
unfolding encoded_bytes
length_encoded src dst v = writing.length_segment_bytes v (field src dst (segment_bytes v 0))

-- and it is read again
pub decoded_encoded : (src dst : List ℕ) (v : Content) → IsValid v → decode_answer src dst (encoded_bytes src dst v) ≡ Ok v
decoded_encoded src dst v valid = complete src dst v (encoded_bytes src dst v) (IsWire_encoded src dst v valid)

-- what is in the grammar is read, and what is read is in the grammar
pub decoded_from_wire : (src dst : List ℕ) (v : Content) (bytes : List ℕ) → IsWire src dst v bytes → decode_answer src dst bytes ≡ Ok v
decoded_from_wire src dst v bytes wire = complete src dst v bytes wire

pub wire_from_decoded : (src dst : List ℕ) (v : Content) (bytes : List ℕ) → AreBytes bytes → decode_answer src dst bytes ≡ Ok v → IsWire src dst v bytes
wire_from_decoded src dst v bytes fits read = subst (Explains src dst bytes) read (explained src dst bytes fits)

-- what is read is valid
pub IsWire_valid : (src dst : List ℕ) (v : Content) (bytes : List ℕ) → IsWire src dst v bytes → IsValid v
IsWire_valid src dst v bytes wire = writing.wire_valid src dst v bytes wire

pub decoded_valid : (src dst : List ℕ) (v : Content) (bytes : List ℕ) → AreBytes bytes → decode_answer src dst bytes ≡ Ok v → IsValid v
decoded_valid src dst v bytes fits read = IsWire_valid src dst v bytes (wire_from_decoded src dst v bytes fits read)

-- a segment with one changed byte is refused for its checksum
pub decoded_damaged : (src dst : List ℕ) (v : Content) (sent bytes : List ℕ) → IsWire src dst v sent → DiffersInOnePlace sent bytes → decode_answer src dst bytes ≡ Err BadChecksum
decoded_damaged src dst v sent bytes wire differs = damaged src dst v sent bytes wire differs

-- a write of another byte is a change of one byte
pub differs_set : (bytes : List ℕ) (place byte : ℕ) → AreBytes bytes → place < length bytes → byte < 256 → get_or bytes place 0 ≢ byte → DiffersInOnePlace bytes (set bytes place byte)
differs_set bytes place byte fits inside small other = record {
  front = take place bytes;
  was = get_or bytes place 0;
  became = byte;
  rest = drop (suc place) bytes;
  sent_is = sym (take-append-drop place bytes) ∙ ap (λ (xs : List ℕ). take place bytes ++ xs) (drop-cons bytes place 0 inside);
  got_is = set_split bytes place byte inside;
  other = other;
  byte_was = fits place;
  byte_became = small;
}
