-- Worked segments, computed by the definitions alone.
use Rattle.std.proofs.Common.{◌≡◌, ℕ, true, List, [], ◌∷◌, replicate, Ok, Err, refl}
use Rattle.std.specs.Prelude.{pos, negsuc}
use Rattle.tcp_wire.specs.declared.fault.DecodeError.TheVariants.{TooShort, BadChecksum, BadOffset, BadOption, BadPadding}
use Rattle.tcp_wire.specs.Options.{Nop, Sack, Unknown}
use Rattle.tcp_numbers.specs.Position.{near, is_before}
use Rattle.tcp_wire.specs.Wire.{Content, encoded_bytes}
use Rattle.tcp_wire.specs.Decoded.{option_at, padding_at, options_in, layout_of, decode_answer}

abbrev src : List ℕ
src = 10 ∷ 0 ∷ 0 ∷ 1 ∷ []

abbrev dst : List ℕ
dst = 10 ∷ 0 ∷ 0 ∷ 2 ∷ []

-- a SYN from port 1 to port 2 with this window
abbrev syn : ℕ → Content
syn window = record { src_port = 1; dst_port = 2; seq = 0; ack = 0; reserved = 0; flags = 2; window = window; urgent = 0; options = []; pad = 0; text = [] }

-- its bytes, by the byte of offset, the window and the checksum field
abbrev syn_bytes : (offset high low check_high check_low : ℕ) → List ℕ
syn_bytes offset high low check_high check_low =
    0 ∷ 1 ∷ 0 ∷ 2 ∷ 0 ∷ 0 ∷ 0 ∷ 0 ∷ 0 ∷ 0 ∷ 0 ∷ 0 ∷ offset ∷ 2 ∷ high ∷ low ∷ check_high ∷ check_low ∷ 0 ∷ 0 ∷ []

smallest_syn : decode_answer src dst (syn_bytes 0x50 0x10 0 0x8b 0xdd) ≡ Ok (syn 4096)
unfolding decode_answer layout_of options_in option_at padding_at
smallest_syn = refl

writes_the_smallest_syn : encoded_bytes src dst (syn 4096) ≡ syn_bytes 0x50 0x10 0 0x8b 0xdd
unfolding encoded_bytes
writes_the_smallest_syn = refl

writes_zero_checksum : encoded_bytes src dst (syn 39901) ≡ syn_bytes 0x50 0x9b 0xdd 0 0
unfolding encoded_bytes
writes_zero_checksum = refl

reads_zero_checksum : decode_answer src dst (syn_bytes 0x50 0x9b 0xdd 0 0) ≡ Ok (syn 39901)
unfolding decode_answer layout_of options_in option_at padding_at
reads_zero_checksum = refl

reads_all_ones : decode_answer src dst (syn_bytes 0x50 0x9b 0xdd 0xff 0xff) ≡ Ok (syn 39901)
unfolding decode_answer layout_of options_in option_at padding_at
reads_all_ones = refl

one_changed_byte : decode_answer src dst (syn_bytes 0x40 0x10 0 0x8b 0xdd) ≡ Err BadChecksum
unfolding decode_answer
one_changed_byte = refl

offset_too_small : decode_answer src dst (syn_bytes 0x40 0x10 0 0x9b 0xdd) ≡ Err BadOffset
unfolding decode_answer layout_of options_in option_at padding_at
offset_too_small = refl

offset_past_end : decode_answer src dst (syn_bytes 0xf0 0x10 0 0xeb 0xdc) ≡ Err BadOffset
unfolding decode_answer layout_of options_in option_at padding_at
offset_past_end = refl

too_short : decode_answer src dst (replicate {A = ℕ} 19 0) ≡ Err TooShort
unfolding decode_answer
too_short = refl

odd_last_byte : decode_answer src dst (0 ∷ 1 ∷ 0 ∷ 2 ∷ 0 ∷ 0 ∷ 0 ∷ 1 ∷ 0 ∷ 0 ∷ 0 ∷ 1 ∷ 0x50 ∷ 0x10 ∷ 0x10 ∷ 0 ∷ 0x4a ∷ 0xcc ∷ 0 ∷ 0 ∷ 0x41 ∷ [])
    ≡ Ok (record { src_port = 1; dst_port = 2; seq = 1; ack = 1; reserved = 0; flags = 16; window = 4096; urgent = 0; options = []; pad = 0; text = 0x41 ∷ [] })
unfolding decode_answer layout_of options_in option_at padding_at
odd_last_byte = refl

-- order and position where numbers wrap
wraps : is_before 4294967295 0 ≡ true
wraps = refl

near_wraps : near 4294967296 4294967295 ≡ pos 4294967295
near_wraps = refl

near_below_zero : near 0 4294967295 ≡ negsuc 0
near_below_zero = refl

-- a SYN with eight bytes of options and padding
abbrev syn_with : (check_high check_low : ℕ) (area : List ℕ) → List ℕ
syn_with check_high check_low area =
    0 ∷ 1 ∷ 0 ∷ 2 ∷ 0 ∷ 0 ∷ 0 ∷ 0 ∷ 0 ∷ 0 ∷ 0 ∷ 0 ∷ 0x70 ∷ 2 ∷ 0x10 ∷ 0 ∷ check_high ∷ check_low ∷ 0 ∷ 0 ∷ area

dirty_padding : decode_answer src dst (syn_with 0x64 0x1c (2 ∷ 4 ∷ 5 ∷ 0xb4 ∷ 0 ∷ 0 ∷ 0 ∷ 1 ∷ [])) ≡ Err (BadPadding 27)
unfolding decode_answer layout_of options_in option_at padding_at
dirty_padding = refl

length_byte_zero : decode_answer src dst (syn_with 0x64 0x20 (2 ∷ 0 ∷ 5 ∷ 0xb4 ∷ 0 ∷ 0 ∷ 0 ∷ 1 ∷ [])) ≡ Err (BadOption 20)
unfolding decode_answer layout_of options_in option_at padding_at
length_byte_zero = refl

-- a known kind with a length that isn't its own
abbrev syn_unknown : Content
syn_unknown = record { src_port = 1; dst_port = 2; seq = 0; ack = 0; reserved = 0; flags = 2; window = 4096; urgent = 0; options = Unknown 2 (5 ∷ []) ∷ []; pad = 5; text = [] }

unknown_and_padding : decode_answer src dst (syn_with 0x64 0xd2 (2 ∷ 3 ∷ 5 ∷ 0 ∷ 0 ∷ 0 ∷ 0 ∷ 0 ∷ [])) ≡ Ok syn_unknown
unfolding decode_answer layout_of options_in option_at padding_at
unknown_and_padding = refl

writes_unknown_and_padding : encoded_bytes src dst syn_unknown ≡ syn_with 0x64 0xd2 (2 ∷ 3 ∷ 5 ∷ 0 ∷ 0 ∷ 0 ∷ 0 ∷ 0 ∷ [])
unfolding encoded_bytes
writes_unknown_and_padding = refl

-- the four blocks that fill the options
abbrev sack_bytes : (check_high check_low len : ℕ) → List ℕ
sack_bytes check_high check_low len =
    0 ∷ 1 ∷ 0 ∷ 2 ∷ 0 ∷ 0 ∷ 0 ∷ 1 ∷ 0 ∷ 0 ∷ 0 ∷ 1 ∷ 0xe0 ∷ 0x10 ∷ 0x10 ∷ 0 ∷ check_high ∷ check_low ∷ 0 ∷ 0 ∷ 1 ∷ 1 ∷ 5 ∷ len
    ∷ 0 ∷ 0 ∷ 0 ∷ 16 ∷ 0 ∷ 0 ∷ 0 ∷ 32 ∷ 0 ∷ 0 ∷ 0 ∷ 48 ∷ 0 ∷ 0 ∷ 0 ∷ 64 ∷ 0 ∷ 0 ∷ 0 ∷ 80 ∷ 0 ∷ 0 ∷ 0 ∷ 96 ∷ 0 ∷ 0 ∷ 0 ∷ 112 ∷ 0 ∷ 0 ∷ 0 ∷ 128 ∷ []

four_blocks : decode_answer src dst (sack_bytes 0xf3 0x45 34)
    ≡ Ok (record { src_port = 1; dst_port = 2; seq = 1; ack = 1; reserved = 0; flags = 16; window = 4096; urgent = 0; options = Nop ∷ Nop ∷ Sack ((16, 32) ∷ (48, 64) ∷ (80, 96) ∷ (112, 128) ∷ []) ∷ []; pad = 0; text = [] })
unfolding decode_answer layout_of options_in option_at padding_at
four_blocks = refl

length_byte_past_the_end : decode_answer src dst (sack_bytes 0xf3 0x3d 42) ≡ Err (BadOption 22)
unfolding decode_answer layout_of options_in option_at padding_at
length_byte_past_the_end = refl
