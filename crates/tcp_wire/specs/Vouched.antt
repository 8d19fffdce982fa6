-- A segment whose checksum a device has checked (RFC 9293, 3.1).
use Rattle.std.specs.Prelude.{ℕ, List, ◌++◌, take, drop}
use Rattle.byteorder.specs.Endian.{big_bytes}
use Rattle.tcp_numbers.specs.Checksum.{field}

-- the bytes of a segment with this checksum field, bytes 16 and 17
abbrev pub with_field : List ℕ → ℕ → List ℕ
with_field bytes sum = take 16 bytes ++ (big_bytes 2 sum ++ drop 18 bytes)

-- these bytes with the checksum field that is right between these addresses
unfoldable pub with_right_sum : List ℕ → List ℕ → List ℕ → List ℕ
with_right_sum src dst bytes = with_field bytes (field src dst bytes)
