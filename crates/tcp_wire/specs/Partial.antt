-- A segment whose checksum a device computes (RFC 9293, 3.1; RFC 1071, 1 and 2).
use Rattle.std.specs.Prelude.{ℕ, List, length}
use Rattle.tcp_numbers.specs.Partial.{partial_field, device_field}
use Rattle.tcp_wire.specs.Vouched.{with_field}

-- the bytes of a segment with the ones' complement sum of the pseudo-header in the checksum field
unfoldable pub with_partial_sum : List ℕ → List ℕ → List ℕ → List ℕ
with_partial_sum src dst bytes = with_field bytes (partial_field src dst (length bytes))

-- what the device makes of them: it sums all of them, and puts the complement into the field
unfoldable pub completed : List ℕ → List ℕ
completed bytes = with_field bytes (device_field bytes)
