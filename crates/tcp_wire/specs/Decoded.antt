-- Reading a segment from its bytes, as a function (RFC 9293, 3.1).
use Rattle.std.specs.Prelude.{ℕ, zero, suc, ◌+◌, ◌-◌, ◌*◌, ◌/◌, ◌%◌, ◌==◌, ◌||◌, nat_lt, if◌then◌else◌, List, [], ◌∷◌, length, take, drop, slice_index, Option, Some, None, Result, Ok, Err, IsOk}
use Rattle.std.specs.Result.{result_unwrap_or}
use Rattle.byteorder.specs.Endian.{big_from}
use Rattle.tcp_wire.specs.declared.fault.DecodeError.{DecodeError}
use Rattle.tcp_wire.specs.declared.fault.DecodeError.TheVariants.{TooShort, TooLong, BadChecksum, BadOffset, BadOption, BadPadding}
use Rattle.tcp_numbers.specs.Checksum.{segment_sum}
use Rattle.tcp_wire.specs.Options.{OptionContent, Nop, Mss, WindowScale, SackPermitted, Sack, Unknown, spelling, has_own_length}
use Rattle.tcp_wire.specs.Wire.{Content, header_len, max_len, data_offset, option_area}

-- the header's fields at their offsets, with these options and this padding
abbrev pub content_at : List ℕ → List OptionContent → ℕ → Content
content_at bytes options pad = record {
  src_port = big_from 0 2 bytes;
  dst_port = big_from 2 2 bytes;
  seq = big_from 4 4 bytes;
  ack = big_from 8 4 bytes;
  reserved = slice_index bytes 12 % 16;
  flags = slice_index bytes 13;
  window = big_from 14 2 bytes;
  urgent = big_from 18 2 bytes;
  options = options;
  pad = pad;
  text = drop (4 * data_offset bytes) bytes;
}

-- one value where there is none, else another made from what there is
abbrev pub with_option : {A B : Type 0} → Option A → B → (A → B) → B
with_option None none some = none
with_option (Some x) none some = some x

-- this many blocks of eight bytes
abbrev pub blocks_in : ℕ → List ℕ → List (ℕ × ℕ)
blocks_in zero body = []
blocks_in (suc n) body = (big_from 0 4 body, big_from 4 4 body) ∷ blocks_in n (drop 8 body)

-- an option of a known kind and its own length
abbrev pub known_option : ℕ → List ℕ → OptionContent
known_option kind body =
    if kind == 2 then Mss (big_from 0 2 body)
    else (if kind == 3 then WindowScale (slice_index body 0)
    else (if kind == 4 then SackPermitted
    else Sack (blocks_in (length body / 8) body)))

-- the option of this kind with these bytes after its length byte
abbrev pub option_of : ℕ → List ℕ → OptionContent
option_of kind body =
    if has_own_length kind (length body + 2) then known_option kind body else Unknown kind body

-- the option that is spelled by this many of these bytes, from the first on
abbrev pub first_option : ℕ → List ℕ → OptionContent
first_option len bytes =
    if len == 1 then Nop else option_of (slice_index bytes 0) (take (len - 2) (drop 2 bytes))

-- the option whose spelling begins these bytes, and the bytes after it
unfoldable pub option_at : List ℕ → Option (OptionContent × List ℕ)
option_at [] = None
option_at (zero ∷ rest) = None
option_at (suc zero ∷ rest) = Some (Nop, rest)
option_at (suc (suc k) ∷ []) = None
option_at (suc (suc k) ∷ len ∷ rest) =
    if nat_lt len 2 || nat_lt (length rest + 2) len then None
    else Some (option_of (suc (suc k)) (take (len - 2) rest), drop (len - 2) rest)

-- how many zeros come first
abbrev pub count_zeros : List ℕ → ℕ
count_zeros [] = 0
count_zeros (zero ∷ rest) = suc (count_zeros rest)
count_zeros (suc b ∷ rest) = 0

-- what follows where no further option is spelled, in bytes that begin at this offset: padding, or a fault
unfoldable pub padding_at : ℕ → List ℕ → Result (List OptionContent × ℕ) DecodeError
padding_at place [] = Ok ([], 0)
padding_at place (zero ∷ rest) =
    if count_zeros (zero ∷ rest) == length (zero ∷ rest) then Ok ([], length (zero ∷ rest))
    else Err (BadPadding (place + count_zeros (zero ∷ rest)))
padding_at place (suc b ∷ rest) = Err (BadOption place)

-- an option before what was read after it
abbrev pub with_first : OptionContent → Result (List OptionContent × ℕ) DecodeError → Result (List OptionContent × ℕ) DecodeError
with_first option (Ok read) = Ok (option ∷ read.0, read.1)
with_first option (Err e) = Err e

-- up to this many options in bytes that begin at this offset, and the count of zeros after them
unfoldable pub options_in : ℕ → ℕ → List ℕ → Result (List OptionContent × ℕ) DecodeError
options_in zero place bytes = padding_at place bytes
options_in (suc n) place bytes =
    with_option (option_at bytes) (padding_at place bytes)
    (λ found. with_first found.0 (options_in n (place + length (spelling found.0)) found.1))

-- an area, which follows the fixed header, can be read: it has options, and zeros alone after them
abbrev pub IsReadable : List ℕ → Type 0
IsReadable area = IsOk (options_in 40 header_len area)

-- the options in such an area, and the count of zeros after them
abbrev pub options_of : List ℕ → List OptionContent × ℕ
options_of area = result_unwrap_or (options_in 40 header_len area) ([], 0)

abbrev pub with_options : List ℕ → Result (List OptionContent × ℕ) DecodeError → Result Content DecodeError
with_options bytes (Ok read) = Ok (content_at bytes read.0 read.1)
with_options bytes (Err e) = Err e

-- After the length and the checksum: the data offset, then options and padding, then the content. An option takes a byte or
-- more, and there are at most 40.
unfoldable pub layout_of : List ℕ → Result Content DecodeError
layout_of bytes =
    if nat_lt (data_offset bytes) 5 || nat_lt (length bytes) (4 * data_offset bytes) then Err BadOffset
    else with_options bytes (options_in 40 header_len (option_area bytes))

-- the content of the bytes as a segment between these addresses, or why they are none
unfoldable pub decode_answer : List ℕ → List ℕ → List ℕ → Result Content DecodeError
decode_answer src dst bytes =
    if nat_lt (length bytes) header_len then Err TooShort
    else (if nat_lt max_len (length bytes) then Err TooLong
    else (if segment_sum src dst bytes % 65535 == 0 then layout_of bytes
    else Err BadChecksum))
