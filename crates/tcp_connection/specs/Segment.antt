-- What is read of a segment (RFC 9293, 3.1).
use Rattle.std.specs.Prelude.{ℕ, ◌+◌, ◌*◌, ◌/◌, nat_lt, Bool, false, not, ◌&&◌, ◌||◌, ◌==◌, if◌then◌else◌, List, ◌∷◌, length, Option, Some, None, bit_and, slice_get}

-- a flag
abbrev pub has_flag : ℕ → Option ℕ → Bool
has_flag flag None = false
has_flag flag (Some flags) = not (bit_and flags flag == 0)

abbrev pub fin : ℕ
fin = 1

abbrev pub syn : ℕ
syn = 2

-- it is longer than its header, whose length its data offset has in words of four bytes
abbrev pub has_text : Option ℕ → ℕ → Bool
has_text None len = false
has_text (Some offset) len = nat_lt (4 * (offset / 16)) len

-- THE ANSWER TO IT ISN'T LIMITED where it has text or FIN, which are acknowledged, again too. So is a SYN that may open the
-- connection; in a synchronized state a SYN brings nothing, whatever comes with it, and is challenged (RFC 9293, 3.10.7.4,
-- fourth), and challenges are limited (RFC 5961, 7)
abbrev pub is_exempt : Bool → List ℕ → Bool
is_exempt synchronized bytes =
    if has_flag syn (slice_get bytes 13) then not synchronized
    else has_flag fin (slice_get bytes 13) || has_text (slice_get bytes 12) (length bytes)

-- A SYN WITHOUT ACK AND RST
abbrev pub is_first_syn : Option ℕ → Bool
is_first_syn None = false
is_first_syn (Some flags) = bit_and flags 22 == 2

-- its sequence number, of four bytes, the greatest first
abbrev pub word : ℕ → ℕ → ℕ → ℕ → ℕ
word first second third fourth = ((first * 256 + second) * 256 + third) * 256 + fourth

abbrev pub is_numbered : Option ℕ → List ℕ → Bool
is_numbered None bytes = false
is_numbered (Some seq) (a ∷ b ∷ c ∷ d ∷ first ∷ second ∷ third ∷ fourth ∷ rest) = word first second third fourth == seq
is_numbered (Some seq) other = false

-- IT IS A SYN AGAIN that had this number
abbrev pub repeats_syn : Option ℕ → List ℕ → Bool
repeats_syn seq bytes = is_first_syn (slice_get bytes 13) && is_numbered seq bytes
