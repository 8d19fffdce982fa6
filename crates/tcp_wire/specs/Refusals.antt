-- The numbers and texts of the faults of bytes that are no segment.
use Rattle.std.specs.Prelude.{ℕ, List, ◌++◌, codes, decimal}
use Rattle.tcp_wire.specs.declared.fault.DecodeError.{DecodeError}
use Rattle.tcp_wire.specs.declared.fault.DecodeError.TheVariants.{TooShort, TooLong, BadChecksum, BadOffset, BadOption, BadPadding}

abbrev pub decode_error_number : DecodeError → ℕ
decode_error_number TooShort = 1
decode_error_number TooLong = 2
decode_error_number BadChecksum = 3
decode_error_number BadOffset = 4
decode_error_number (BadOption place) = 5
decode_error_number (BadPadding place) = 6

abbrev pub decode_error_text : DecodeError → List ℕ
decode_error_text TooShort = codes "a segment has at least 20 bytes"
decode_error_text TooLong = codes "a segment has at most 65515 bytes"
decode_error_text BadChecksum = codes "the checksum is wrong"
decode_error_text BadOffset = codes "the data offset is wrong"
decode_error_text (BadOption place) = codes "no option begins at byte " ++ decimal place
decode_error_text (BadPadding place) = codes "the padding at byte " ++ (decimal place ++ codes " is not zero")
