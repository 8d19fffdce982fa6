-- What an emission returns, and the end after it (RFC 9293, 3.3.1, 3.4 and 3.8).
use Rattle.std.specs.Prelude.{ℕ, Bool, false, not, ◌&&◌, List, Option, Some, None, ◌++◌, drop, max, option_map}
use Rattle.std.specs.declared.ops.Range.{Range}
use Rattle.tcp_wire.specs.Wire.{wire_length}
use Rattle.tcp_halves.specs.declared.sent.Sent.TheVariants.{NewText}
use Rattle.tcp_halves.specs.Sent as half
use Rattle.tcp_conn.specs.declared.emit.due.Due.{Due}
use Rattle.tcp_conn.specs.declared.emit.due.Due.TheVariants.{Reset, Syn, Text}
use Rattle.tcp_conn.specs.declared.pending.Pending.{Pending}
use Rattle.tcp_conn.specs.State.{State, Sending}
use Rattle.tcp_conn.specs.Due.{due_of, ack_alone, end_of}
pub use Rattle.tcp_halves.specs.Sent.{range_after}
use Rattle.tcp_conn.specs.Forms.{segment_of}
use Rattle.tcp_conn.specs.Writing.{bytes_of, destination_of}

unfoldable pub emitted_bytes : State → Option (List ℕ)
emitted_bytes s = option_map (bytes_of s) (due_of s)

-- AFTER AN EMISSION: SND.NXT is at least the position after it, what was sent again is taken off the range, what was emitted is
-- no longer pending, and a segment with ACK settles a pending acknowledgement
abbrev pub resend_after : Sending → Due → Option (Range ℕ)
resend_after s (Text sent) = half.resend_after s sent
resend_after s other = s.resend

abbrev pub sending_after : Sending → Due → Sending
sending_after s due = record s { snd_nxt = max s.snd_nxt (end_of s due); resend = resend_after s due }

abbrev pub pending_after : Bool → Pending → Due → Pending
pending_after opened o Reset = record o { reset = None }
pending_after opened o Syn = record o { syn = false; ack = o.ack && not opened }
pending_after opened o (Text (NewText start count)) = record o { ack = false; probe = false }
pending_after opened o other = record o { ack = false }

abbrev pub state_after : State → Due → State
state_after s due = record s { sending = sending_after s.sending due; pending = pending_after s.receiving.opened s.pending due }

abbrev pub after_due : State → Option Due → State
after_due s None = s
after_due s (Some due) = state_after s due

unfoldable pub after_emission : State → State
after_emission s = after_due s (due_of s)

-- what a buffer contains after an emission: the segment, and after it the bytes that were there
abbrev pub buffer_with : State → Option Due → List ℕ → List ℕ
buffer_with s None out = out
buffer_with s (Some due) out = bytes_of s due ++ drop (wire_length (segment_of s due)) out

unfoldable pub buffer_after : State → List ℕ → List ℕ
buffer_after s out = buffer_with s (due_of s) out

-- THE ACKNOWLEDGEMENT ALONE goes out as what is due does
unfoldable pub ack_alone_bytes : State → Option (List ℕ)
ack_alone_bytes s = option_map (bytes_of s) (ack_alone s)

unfoldable pub after_ack_alone : State → State
after_ack_alone s = after_due s (ack_alone s)

unfoldable pub buffer_after_ack_alone : State → List ℕ → List ℕ
buffer_after_ack_alone s out = buffer_with s (ack_alone s) out

-- the length of the segment that is due, and where it goes
unfoldable pub pending_length : State → Option ℕ
pending_length s = option_map (λ due. wire_length (segment_of s due)) (due_of s)

unfoldable pub destination : State → Option (List ℕ)
destination s = option_map (λ due. (destination_of s due).addr.0) (due_of s)

-- those of the acknowledgement alone
unfoldable pub ack_alone_length : State → Option ℕ
ack_alone_length s = option_map (λ due. wire_length (segment_of s due)) (ack_alone s)

unfoldable pub ack_alone_destination : State → Option (List ℕ)
ack_alone_destination s = option_map (λ due. (destination_of s due).addr.0) (ack_alone s)
