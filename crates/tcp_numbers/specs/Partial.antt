-- The checksum field of a segment whose checksum a device computes (RFC 9293, 3.1; RFC 1071, 1 and 2).
use Rattle.std.specs.Prelude.{ℕ, ◌+◌, ◌-◌, ◌/◌, ◌%◌, List}
use Rattle.tcp_numbers.specs.Checksum.{word_sum, pseudo_header}

-- the end-around carry: what exceeds 16 bits is added in again
abbrev pub carried : ℕ → ℕ
carried sum = sum % 65536 + sum / 65536

-- the ones' complement sum of 16 bits, of a sum of 32 bits: after two carries nothing exceeds 16 bits
abbrev pub folded : ℕ → ℕ
folded sum = carried (carried sum)

-- the field that the device finds: the ones' complement sum of the pseudo-header alone
abbrev pub partial_field : List ℕ → List ℕ → ℕ → ℕ
partial_field src dst len = folded (word_sum (pseudo_header src dst len))

-- the field that the device writes: the complement of the ones' complement sum of the segment as it found it
abbrev pub device_field : List ℕ → ℕ
device_field bytes = 65535 - folded (word_sum bytes)
