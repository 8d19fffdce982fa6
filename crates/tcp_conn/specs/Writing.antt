-- The bytes of a segment that is due, and where it goes (RFC 9293, 3.1 and 3.8).
use Rattle.std.specs.Prelude.{◌≤◌, ◌+◌, ℕ, List, Option, Some, None, min}
use Rattle.tcp_wire.specs.Partial.{with_partial_sum}
use Rattle.tcp_wire.specs.Wire.{encoded_bytes, header_len, max_len, max_text_len}
use Rattle.tcp_conn.specs.declared.emit.due.Due.{Due}
use Rattle.tcp_conn.specs.declared.emit.due.Due.TheVariants.{Reset}
use Rattle.tcp_halves.specs.declared.link.WaitingReset.{WaitingReset}
use Rattle.tcp_halves.specs.declared.link.Peer.{Peer}
use Rattle.tcp_conn.specs.declared.emit.write.TheConstants.{HEADER_ROOM}
use Rattle.tcp_conn.specs.declared.emit.write.Sum.{Sum}
use Rattle.tcp_conn.specs.declared.emit.write.Sum.TheVariants.{Whole, Partial}
use Rattle.tcp_conn.specs.State.{State}
use Rattle.tcp_conn.specs.Blocks.{blocks_to_report, sack_length}
use Rattle.tcp_conn.specs.Due.{IsSendable, count_of}
use Rattle.tcp_conn.specs.Forms.{segment_of}

-- whom it goes to; a reset is due only where one waits
abbrev pub waiting_destination : State → Option WaitingReset → Peer
waiting_destination s (Some reset) = reset.to
waiting_destination s None = s.peer

abbrev pub destination_of : State → Due → Peer
destination_of s Reset = waiting_destination s s.pending.reset
destination_of s other = s.peer

unfoldable pub bytes_of : State → Due → List ℕ
bytes_of s due = encoded_bytes s.config.addr.0 (destination_of s due).addr.0 (segment_of s due)

-- who computes the checksum: this end, or a device, for which the field has the sum of the pseudo-header
abbrev pub summed : Sum → List ℕ → List ℕ → List ℕ → List ℕ
summed Whole src dst bytes = bytes
summed Partial src dst bytes = with_partial_sum src dst bytes

unfoldable pub written_of : Sum → State → Due → List ℕ
written_of sum s due = summed sum s.config.addr.0 (destination_of s due).addr.0 (bytes_of s due)

-- it can be written into so many bytes: its text lies in the queue, and with the longest options it has room, also in one segment
pub record IsWritable (s : State) (due : Due) (room : ℕ) : Type 0 where
  pub least : HEADER_ROOM ≤ room
  pub sendable : IsSendable s.sending max_text_len due
  pub fits : header_len + sack_length (blocks_to_report s) + count_of due ≤ min room max_len
