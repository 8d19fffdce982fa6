-- Segments as bytes (RFC 9293, 3.1), numbers in network order.
use Rattle.std.specs.Prelude.{◌≡◌, ℕ, ◌+◌, ◌-◌, ◌*◌, ◌/◌, ◌%◌, ◌^◌, ◌<◌, ◌≤◌, List, [], ◌∷◌, ◌++◌, length, take, drop, replicate, slice_index}
use Rattle.byteorder.specs.Endian.{big_from, big_bytes}
use Rattle.tcp_numbers.specs.Checksum.{AreBytes, Checks, field}
pub use Rattle.tcp_numbers.specs.Checksum.{header_len, max_len}
use Rattle.tcp_wire.specs.Options.{OptionContent, spellings, AreSpellable}

-- the content of a segment, without its checksum
pub record Content : Type 0 where
  pub src_port : ℕ
  pub dst_port : ℕ
  pub seq : ℕ
  pub ack : ℕ
  pub reserved : ℕ
  pub flags : ℕ
  pub window : ℕ
  pub urgent : ℕ
  pub options : List OptionContent
  pub pad : ℕ
  pub text : List ℕ

-- the length in bytes of the longest text
abbrev pub max_text_len : ℕ
max_text_len = 65495

-- the most bytes of options and padding: ten words
abbrev pub max_area_len : ℕ
max_area_len = 40

-- options, then this many zeros
abbrev pub area_bytes : List OptionContent → ℕ → List ℕ
area_bytes options pad = spellings options ++ replicate {A = ℕ} pad 0

-- the options of a segment, then its zeros
abbrev pub option_bytes : Content → List ℕ
option_bytes v = area_bytes v.options v.pad

abbrev pub wire_length : Content → ℕ
wire_length v = header_len + length (option_bytes v) + length v.text

-- the data offset, in words of 32 bits
abbrev pub data_offset : List ℕ → ℕ
data_offset bytes = slice_index bytes 12 / 16

-- the bytes of options and padding: from byte 20 to the data offset
abbrev pub option_area : List ℕ → List ℕ
option_area bytes = take (4 * data_offset bytes - header_len) (drop header_len bytes)

-- the fields of the fixed header are at their offsets
pub record HasHeader (v : Content) (bytes : List ℕ) : Type 0 where
  pub src_port : v.src_port ≡ big_from 0 2 bytes
  pub dst_port : v.dst_port ≡ big_from 2 2 bytes
  pub seq : v.seq ≡ big_from 4 4 bytes
  pub ack : v.ack ≡ big_from 8 4 bytes
  pub reserved : v.reserved ≡ slice_index bytes 12 % 16
  pub flags : v.flags ≡ slice_index bytes 13
  pub window : v.window ≡ big_from 14 2 bytes
  pub urgent : v.urgent ≡ big_from 18 2 bytes

-- The grammar: these bytes are a segment between these addresses, and v is its content. The data offset is 5 and a quarter of
-- the length of the option bytes; after the fixed header come options, zeros, text.
pub record IsWire (src dst : List ℕ) (v : Content) (bytes : List ℕ) : Type 0 where
  pub are_bytes : AreBytes bytes
  pub least : header_len ≤ length bytes
  pub most : length bytes ≤ max_len
  pub checks : Checks src dst bytes
  pub header : HasHeader v bytes
  pub offset : 4 * data_offset bytes ≡ header_len + length (option_bytes v)
  pub options : AreSpellable v.options
  pub behind : drop header_len bytes ≡ option_bytes v ++ v.text

-- v can be written: each field is in its range, each option has a spelling, spellings and padding fill whole words, at most
-- ten, and the whole is no longer than a segment may be
pub record IsValid (v : Content) : Type 0 where
  pub src_port : v.src_port < 2 ^ 16
  pub dst_port : v.dst_port < 2 ^ 16
  pub seq : v.seq < 2 ^ 32
  pub ack : v.ack < 2 ^ 32
  pub reserved : v.reserved ≤ 15
  pub flags : v.flags < 2 ^ 8
  pub window : v.window < 2 ^ 16
  pub urgent : v.urgent < 2 ^ 16
  pub options : AreSpellable v.options
  pub whole_words : length (option_bytes v) % 4 ≡ 0
  pub room : length (option_bytes v) ≤ max_area_len
  pub text : AreBytes v.text
  pub most : wire_length v ≤ max_len

-- the first twelve bytes: ports, sequence number, acknowledgement number
abbrev pub number_bytes : Content → List ℕ
number_bytes v = big_bytes 2 v.src_port ++ big_bytes 2 v.dst_port ++ big_bytes 4 v.seq ++ big_bytes 4 v.ack

-- the next eight, with this data offset and this checksum field: control bits, window, checksum, urgent pointer
abbrev pub control_bytes : Content → ℕ → ℕ → List ℕ
control_bytes v offset checksum =
    (16 * offset + v.reserved) ∷ v.flags ∷ [] ++ big_bytes 2 v.window ++ big_bytes 2 checksum ++ big_bytes 2 v.urgent

-- the fixed header with this checksum field
abbrev pub header : Content → ℕ → List ℕ
header v checksum = number_bytes v ++ control_bytes v (5 + length (option_bytes v) / 4) checksum

-- the bytes of v with this checksum field
abbrev pub segment_bytes : Content → ℕ → List ℕ
segment_bytes v checksum = header v checksum ++ (option_bytes v ++ v.text)

-- the bytes that are written for v: the checksum field is the right one
unfoldable pub encoded_bytes : List ℕ → List ℕ → Content → List ℕ
encoded_bytes src dst v = segment_bytes v (field src dst (segment_bytes v 0))

-- two segments are equal but for the checksum field, 0000 in the first and ffff in the other
pub record HasOtherZero (written other : List ℕ) : Type 0 where
  pub front : List ℕ
  pub rest : List ℕ
  pub place : length front ≡ 16
  pub written_is : written ≡ front ++ 0 ∷ 0 ∷ rest
  pub other_is : other ≡ front ++ 255 ∷ 255 ∷ rest
