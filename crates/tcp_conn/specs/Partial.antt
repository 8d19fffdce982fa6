-- What is written of a segment that is due where a device computes the checksum (RFC 9293, 3.1; RFC 1071, 1 and 2).
use Rattle.std.specs.Prelude.{List, ℕ, ◌++◌, drop, Option, Some, None}
use Rattle.tcp_wire.specs.Partial.{with_partial_sum}
use Rattle.tcp_wire.specs.Wire.{wire_length}
use Rattle.tcp_conn.specs.declared.emit.due.Due.{Due}
use Rattle.tcp_conn.specs.Due.{due_of}
use Rattle.tcp_conn.specs.Forms.{segment_of}
use Rattle.tcp_conn.specs.State.{State}
use Rattle.tcp_conn.specs.Writing.{bytes_of, destination_of}

-- the bytes of an emission, with the ones' complement sum of the pseudo-header in the checksum field
unfoldable pub partial_of : State → Due → List ℕ
partial_of s due = with_partial_sum s.config.addr.0 (destination_of s due).addr.0 (bytes_of s due)

-- what a buffer contains after it: the segment, and after it the bytes that were there
abbrev pub partial_with : State → Option Due → List ℕ → List ℕ
partial_with s None out = out
partial_with s (Some due) out = partial_of s due ++ drop (wire_length (segment_of s due)) out

unfoldable pub partial_after : State → List ℕ → List ℕ
partial_after s out = partial_with s (due_of s) out
