-- The user's calls (RFC 9293, 3.10.1 to 3.10.5): the answer of each, and the end after it.
use Rattle.std.specs.Prelude.{ℕ, Bool, false, ◌||◌, ◌==◌, if◌then◌else◌, true, not, ◌&&◌, List, [], length, Option, Some, None, Result, Ok, Err, min, nat_lt, nat_le, take}
use Rattle.std.specs.Option.{option_or}
use Rattle.tcp_wire.specs.Position.{number}
use Rattle.tcp_reasm.specs.Reassembly.{after_read}
use Rattle.tcp_halves.specs.declared.link.Peer.{Peer}
use Rattle.tcp_halves.specs.declared.link.WaitingReset.{WaitingReset}
use Rattle.tcp_conn.specs.declared.outcome.CallError.{CallError}
use Rattle.tcp_conn.specs.declared.outcome.CallError.TheVariants.{NotOpen, AlreadyOpen, Closing, Ended, StreamFull, NotConnected}
use Rattle.tcp_conn.specs.declared.outcome.Received.{Received}
use Rattle.tcp_conn.specs.declared.outcome.Received.TheVariants.{Bytes, Nothing, EndOfStream}
use Rattle.tcp_conn.specs.declared.phase.Ending.TheVariants.{Aborted}
use Rattle.tcp_conn.specs.declared.phase.Phase.{Phase}
use Rattle.tcp_conn.specs.declared.phase.Phase.TheVariants as phases
use Rattle.tcp_conn.specs.declared.phase.Phase.TheVariants.{Listen, SynSent, Established, FinWait1, CloseWait, LastAck}
use Rattle.tcp_conn.specs.Phase.{is_listening, is_ended, is_closed, resets_on_abort, takes_text, discards}
use Rattle.tcp_conn.specs.State.{State, accepted_count}
use Rattle.tcp_conn.specs.Windows.{advertised_window}
use Rattle.tcp_halves.specs.Sender.{with_syn_sent, count_sendable, with_text}
use Rattle.tcp_halves.specs.Receiver.{after_delivering}
use Rattle.tcp_conn.specs.Endings.{after_discarding}

-- REFUSALS: a refused call answers an error, and the end is as it was
abbrev pub answer_unless : {A : Type 0} → Option CallError → A → Result A CallError
answer_unless None value = Ok value
answer_unless (Some error) value = Err error

abbrev pub state_unless : Option CallError → State → State → State
state_unless None s s' = s'
state_unless (Some error) s s' = s

abbrev pub refusal_if : Bool → CallError → Option CallError
refusal_if refused error = if refused then Some error else None

-- the connection has ended, or was never opened
abbrev pub open_refusal : State → Option CallError
open_refusal s = option_or (refusal_if (is_ended s.ending) (Ended s.ending)) (refusal_if (is_closed s.phase) NotOpen)

-- OPEN, active and passive (RFC 9293, 3.10.1)
abbrev pub opening_refusal : State → Option CallError
opening_refusal s = option_or (refusal_if (is_ended s.ending) (Ended s.ending)) (refusal_if (not (is_closed s.phase)) AlreadyOpen)

abbrev pub opening_answer : State → Result (Unit {0}) CallError
opening_answer s = answer_unless (opening_refusal s) tt

abbrev pub with_connection : State → Peer → State
with_connection s peer = record s {
  phase = phases.SynSent;
  peer = peer;
  sending = with_syn_sent s.sending;
  pending = record s.pending { syn = true };
}

unfoldable pub after_connect : State → Peer → State
after_connect s peer = state_unless (opening_refusal s) s (with_connection s peer)

unfoldable pub after_listen : State → State
after_listen s = state_unless (opening_refusal s) s (record s { phase = phases.Listen })

-- SEND (RFC 9293, 3.10.2)
abbrev pub is_full : State → List ℕ → Bool
is_full s text = not (length text == 0) && nat_le s.config.limit (accepted_count s.sending)

abbrev pub send_refusal : State → List ℕ → Option CallError
send_refusal s text =
    option_or (open_refusal s) (option_or (refusal_if (is_listening s.phase) NotConnected)
    (option_or (refusal_if s.closing Closing) (refusal_if (is_full s text) StreamFull)))

abbrev pub send_answer : State → List ℕ → Result ℕ CallError
send_answer s text = answer_unless (send_refusal s text) (count_sendable s.sending s.config.limit text)

unfoldable pub after_send : State → List ℕ → State
after_send s text = state_unless (send_refusal s text) s (record s { sending = with_text s.sending s.config.limit text })

-- RECEIVE (RFC 9293, 3.10.3) into a buffer of this length. After an orderly end the unread bytes are still delivered, and
-- then the end of the stream.
abbrev pub receive_refusal : State → Option CallError
receive_refusal s =
    option_or (refusal_if (discards s.ending) (Ended s.ending)) (refusal_if (is_closed s.phase && not (is_ended s.ending)) NotOpen)

abbrev pub received_value : State → ℕ → Received
received_value s room =
    if length s.receiving.inbox.unread == 0 then (if s.receiving.finished then EndOfStream else Nothing)
    else Bytes (min room (length s.receiving.inbox.unread))

abbrev pub receive_answer : State → ℕ → Result Received CallError
receive_answer s room = answer_unless (receive_refusal s) (received_value s room)

-- the bytes that it delivers
abbrev pub bytes_unless : Option CallError → List ℕ → List ℕ
bytes_unless None bytes = bytes
bytes_unless (Some error) bytes = []

abbrev pub received_bytes : State → ℕ → List ℕ
received_bytes s room = bytes_unless (receive_refusal s) (take (min room (length s.receiving.inbox.unread)) s.receiving.inbox.unread)

-- reading opens a window that was advertised as zero (RFC 9293, 3.8.6.2)
abbrev pub opens_window : State → ℕ → Bool
opens_window s room =
    takes_text s.phase && ((advertised_window s s.receiving.inbox == 0) && nat_lt 0 (advertised_window s (after_read s.receiving.inbox room)))

abbrev pub with_bytes_received : State → ℕ → State
with_bytes_received s room = record s {
  receiving = after_delivering s.receiving room;
  pending = record s.pending { ack = s.pending.ack || opens_window s room };
}

unfoldable pub after_receive : State → ℕ → State
after_receive s room = state_unless (receive_refusal s) s (with_bytes_received s room)

-- ACKNOWLEDGE: an acknowledgement is pending, which advertises the window, where the peer's text is taken (RFC 9293,
-- 3.8.6.2.2). In any other phase the peer has nothing to send, and nothing changes
unfoldable pub after_acknowledge : State → State
after_acknowledge s = record s { pending = record s.pending { ack = s.pending.ack || takes_text s.phase } }

-- CLOSE (RFC 9293, 3.10.4)
abbrev pub close_refusal : State → Option CallError
close_refusal s = option_or (open_refusal s) (refusal_if s.closing Closing)

abbrev pub close_answer : State → Result (Unit {0}) CallError
close_answer s = answer_unless (close_refusal s) tt

-- before the peer's SYN there is nothing to close in order
abbrev pub is_unanswered : Phase → Bool
is_unanswered phases.Listen = true
is_unanswered phases.SynSent = true
is_unanswered other = false

-- in SYN-RECEIVED the close waits for the end of the handshake
abbrev pub phase_after_close : Phase → Phase
phase_after_close phases.Established = phases.FinWait1
phase_after_close phases.CloseWait = phases.LastAck
phase_after_close other = other

abbrev pub with_closing : State → State
with_closing s = record s { closing = true; phase = phase_after_close s.phase }

abbrev pub after_closing : State → State
after_closing s = if is_unanswered s.phase then record (after_discarding s Aborted) { closing = true } else with_closing s

unfoldable pub after_close : State → State
after_close s = state_unless (close_refusal s) s (after_closing s)

-- ABORT (RFC 9293, 3.10.5): a reset is sent to a peer that may know of the connection, in place of one that waited
abbrev pub abort_answer : State → Result (Unit {0}) CallError
abort_answer s = answer_unless (open_refusal s) tt

abbrev pub own_reset : State → WaitingReset
own_reset s = record { to = s.peer; seq = record { 0 = number s.config.isn.0 s.sending.snd_nxt }; ack = None }

abbrev pub reset_after_abort : State → Option WaitingReset
reset_after_abort s = if resets_on_abort s.phase then Some (own_reset s) else s.pending.reset

abbrev pub with_abort : State → State
with_abort s = after_discarding (record s { pending = record s.pending { reset = reset_after_abort s } }) Aborted

unfoldable pub after_abort : State → State
after_abort s = state_unless (open_refusal s) s (with_abort s)
