-- WHAT CAME, AS AN END MAY TAKE IT (RFC 9293, 3.1).
use Rattle.std.specs.Prelude.{ℕ, List, [], ◌∷◌, Option, Some, None, Result, Ok, Err}
use Rattle.tcp_wire.specs.Options.{OptionContent, WindowScale, SackPermitted, Unknown}
use Rattle.tcp_wire.specs.Wire.{Content}
use Rattle.tcp_wire.specs.Decoded.{content_at, decode_answer}
use Rattle.tcp_wire.specs.declared.fault.DecodeError.{DecodeError}
use Rattle.tcp_wire.specs.declared.fault.DecodeError.TheVariants.{BadOption, BadPadding}

-- An option of an illegal length is handled as an end likes (RFC 9293, 3.1, MUST-7): it may drop the segment, or take its text
-- and the options that it can read. So it counts as one that offers what a SYN may offer
abbrev pub any_offer : List OptionContent
any_offer = WindowScale 14 ∷ SackPermitted ∷ Unknown 34 [] ∷ []

-- a segment, or bytes whose header and checksum can be read, though their options can't
abbrev pub taken_as : List ℕ → Result Content DecodeError → Option Content
taken_as bytes (Ok v) = Some v
taken_as bytes (Err (BadOption place)) = Some (content_at bytes any_offer 0)
taken_as bytes (Err (BadPadding place)) = Some (content_at bytes any_offer 0)
taken_as bytes (Err fault) = None

abbrev pub taken_of : List ℕ → List ℕ → List ℕ → Option Content
taken_of src dst bytes = taken_as bytes (decode_answer src dst bytes)
