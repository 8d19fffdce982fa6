-- The text forms of segments, and of the faults of bytes that are none.
use Rattle.std.specs.Prelude.{ℕ, Bool, true, false, List, [], ◌∷◌, ◌++◌, length, codes, decimal, Result, Ok, Err}
use Rattle.tcp_wire.specs.declared.fault.DecodeError.{DecodeError}
use Rattle.tcp_wire.specs.declared.fault.DecodeError.TheVariants.{TooShort, TooLong, BadChecksum, BadOffset, BadOption, BadPadding}
use Rattle.tcp_wire.specs.Refusals.{decode_error_number}
use Rattle.tcp_wire.specs.Options.{OptionContent, Nop, Mss, WindowScale, SackPermitted, Sack, Unknown}
use Rattle.tcp_wire.specs.Wire.{Content}
use Rattle.kit_text.specs.Texts.{bytes_text, blocks_text, options_text}
use Rattle.tcp_wire.specs.Texts.{flags_text}

-- ALL FIELDS of a segment: ports and numbers, the other fields of the fixed header, and what comes after it
unfoldable pub numbers_text : Content → List ℕ
numbers_text v =
    decimal v.src_port ++ (codes " > " ++ (decimal v.dst_port ++ (codes " seq " ++ (decimal v.seq
    ++ (codes " ack " ++ (decimal v.ack))))))

unfoldable pub control_text : Content → List ℕ
control_text v =
    codes " reserved " ++ (decimal v.reserved ++ (codes " flags " ++ (flags_text v.flags ++ (codes " window " ++ (decimal v.window
    ++ (codes " urgent " ++ (decimal v.urgent)))))))

unfoldable pub rest_text : Content → List ℕ
rest_text v =
    codes " options " ++ (options_text v.options ++ (codes " pad " ++ (decimal v.pad
    ++ (codes " text " ++ (bytes_text v.text)))))

abbrev pub fields_text : Content → List ℕ
fields_text v = numbers_text v ++ (control_text v ++ rest_text v)

-- A SUMMARY of a segment: without ports, the length in place of the text, and the blocks of its options
abbrev pub first_blocks : List OptionContent → List (ℕ × ℕ)
first_blocks [] = []
first_blocks (Nop ∷ options) = first_blocks options
first_blocks (Mss size ∷ options) = first_blocks options
first_blocks (WindowScale shift ∷ options) = first_blocks options
first_blocks (SackPermitted ∷ options) = first_blocks options
first_blocks (Sack blocks ∷ options) = blocks
first_blocks (Unknown kind body ∷ options) = first_blocks options

unfoldable pub summary_text : Content → List ℕ
summary_text v =
    codes "flags " ++ (flags_text v.flags ++ (codes " seq " ++ (decimal v.seq ++ (codes " ack "
    ++ (decimal v.ack ++ (codes " window " ++ (decimal v.window ++ (codes " text "
    ++ (decimal (length v.text) ++ (codes " sack " ++ (blocks_text (first_blocks v.options))))))))))))

-- FAULTS of bytes that are no segment, by their numbers, and by their names
abbrev pub fault_text : DecodeError → List ℕ
fault_text e = codes "malformed " ++ decimal (decode_error_number e)

abbrev pub fault_name : DecodeError → List ℕ
fault_name TooShort = codes "TooShort"
fault_name TooLong = codes "TooLong"
fault_name BadChecksum = codes "BadChecksum"
fault_name BadOffset = codes "BadOffset"
fault_name (BadOption place) = codes "BadOption at " ++ decimal place
fault_name (BadPadding place) = codes "BadPadding at " ++ decimal place

unfoldable pub named_fault_text : DecodeError → List ℕ
named_fault_text e = fault_text e ++ (codes " " ++ (fault_name e))

-- THE MEANING OF BYTES: all fields of the segment that they are, or why they are none
abbrev pub meaning_text : Result Content DecodeError → List ℕ
meaning_text (Ok v) = fields_text v
meaning_text (Err e) = named_fault_text e

abbrev pub is_malformed : Result Content DecodeError → Bool
is_malformed (Ok v) = false
is_malformed (Err e) = true
