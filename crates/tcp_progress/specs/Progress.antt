-- Which segments an end certainly takes, and what it then has (RFC 9293, 3.10.7.4): one that is next, and one that
-- acknowledges something new. And what it certainly reports.
use Rattle.std.specs.Prelude.{◌≡◌, ℕ, ◌+◌, ◌<◌, ◌≤◌, ℤ, pos, ◌+ℤ◌, ◌≤ℤ◌, ◌<ℤ◌, Bool, true, false, not, ◌&&◌, ◌||◌, ◌==◌, if◌then◌else◌, min, List, ◌++◌, length, drop, Ok, Some, None}
use Rattle.tcp_numbers.specs.Position.{number, offset}
use Rattle.tcp_numbers.specs.Flags.{ack, has, rst, syn}
use Rattle.tcp_wire.specs.Decoded.{decode_answer}
use Rattle.tcp_wire.specs.Wire.{Content}
use Rattle.tcp_reasm.specs.Reassembly.{window}
use Rattle.tcp_conn.specs.declared.emit.due.Due.{Due}
use Rattle.tcp_conn.specs.declared.outcome.Arrival.TheVariants.{Processed}
use Rattle.tcp_conn.specs.declared.phase.Phase.{Phase}
use Rattle.tcp_conn.specs.Phase.{has_peer, is_handshake, is_syn_received, takes_text}
use Rattle.tcp_halves.specs.Receiver.{Receiving, max_ordered}
use Rattle.tcp_halves.specs.Sender.{Sending, count_below}
use Rattle.tcp_conn.specs.State.{State}
use Rattle.tcp_conn.specs.Arrival.{after_arrival, arrival_answer, phase_after_own_syn}
use Rattle.tcp_conn.specs.Due.{due_of}
use Rattle.tcp_conn.specs.Forms.{segment_of}
use Rattle.tcp_conn.specs.Judgement.{count_numbers, is_acceptable_segment, is_foreign, position_near}

-- how far from RCV.NXT a segment begins and ends; negative before it (RFC 9293, 3.4)
abbrev pub begins_at : State → Content → ℤ
begins_at s v = offset s.receiving.rcv_nxt v.seq

abbrev pub ends_at : State → Content → ℤ
ends_at s v = begins_at s v +ℤ pos (count_numbers v)

-- a plain acknowledgement of what was sent; in SYN-RECEIVED, of the SYN (RFC 9293, 3.10.7.4, second, fourth and fifth)
pub record IsPlainAck (s : State) (v : Content) : Type 0 where
  pub no_rst : has rst v.flags ≡ false
  pub no_syn : has syn v.flags ≡ false
  pub has_ack : has ack v.flags ≡ true
  pub of_sent : position_near s v.ack ≤ s.sending.snd_nxt
  pub of_syn : is_syn_received s.phase ≡ true → position_near s v.ack ≡ s.sending.snd_nxt

-- IS NEXT: the peer's segment begins at or before RCV.NXT, and ends after it within the receive window. The end is in a phase
-- in which text is taken (RFC 9293, 3.10.7.4, seventh), or comes to one by the acknowledgement of its SYN
pub record IsNext (s : State) (src dst : List ℕ) (v : Content) : Type 0 where
  pub phase : takes_text (phase_after_own_syn s.phase s.closing) ≡ true
  pub mine : is_foreign s src dst v ≡ false
  pub plain : IsPlainAck s v
  pub begins : begins_at s v ≤ℤ pos 0
  pub ends : pos 0 <ℤ ends_at s v
  pub within : ends_at s v ≤ℤ pos (window s.receiving.inbox)

-- MOVES RCV.NXT ON to `end` at least, counted from where it was, and by no more than the window: by the text that came in
-- order, which follows what was unread, and by one where the FIN was taken
pub record BringsOn (before after : Receiving) (end : ℤ) : Type 0 where
  pub count : ℕ
  pub next : after.rcv_nxt ≡ number before.rcv_nxt count
  pub least : end ≤ℤ pos count
  pub most : count ≤ window before.inbox
  pub text : List ℕ
  pub fin : Bool
  pub counted : count ≡ length text + (if fin then 1 else 0)
  pub unread : after.inbox.unread ≡ before.inbox.unread ++ text
  pub ordered : after.ordered ≡ min max_ordered (before.ordered + length text)
  pub finished : after.finished ≡ (before.finished || fin)

-- WHAT IS NEXT IS TAKEN by this end, whatever it keeps out of order, and an acknowledgement is pending for it
abbrev pub TakesWhatIsNext : State → Type 0
TakesWhatIsNext s =
    (src dst bytes : List ℕ) (v : Content) → decode_answer src dst bytes ≡ Ok v → IsNext s src dst v
    → (arrival_answer s src dst bytes ≡ Processed)
    × BringsOn s.receiving (after_arrival s src dst bytes).receiving (ends_at s v)
    × ((after_arrival s src dst bytes).pending.ack ≡ true)

-- ESTABLISHED and the states that follow it (RFC 9293, 3.5.2), up to TIME-WAIT
abbrev pub is_synchronized : Phase → Bool
is_synchronized phase = has_peer phase && not (is_handshake phase)

-- ACKNOWLEDGES SOMETHING NEW (RFC 9293, 3.10.7.4, fifth): SND.UNA < SEG.ACK =< SND.NXT, in a segment of the peer that is
-- acceptable, or that comes at a zero window
pub record AcksNew (s : State) (src dst : List ℕ) (v : Content) : Type 0 where
  pub phase : is_synchronized s.phase ≡ true
  pub mine : is_foreign s src dst v ≡ false
  pub plain : IsPlainAck s v
  pub heard : (is_acceptable_segment s v || (window s.receiving.inbox == 0)) ≡ true
  pub new : s.sending.snd_una < position_near s v.ack

-- SND.UNA is this position, and the text before it has left the queue
pub record IsReleased (before after : Sending) (position : ℕ) : Type 0 where
  pub snd_una : after.snd_una ≡ position
  pub released : after.released ≡ before.released + count_below before position
  pub queued : after.queue.bytes ≡ drop (count_below before position) before.queue.bytes

-- WHAT IS ACKNOWLEDGED IS RELEASED by every end
abbrev pub AckedIsReleased : Type 0
AckedIsReleased =
    (s : State) (src dst bytes : List ℕ) (v : Content) → decode_answer src dst bytes ≡ Ok v → AcksNew s src dst v
    → (arrival_answer s src dst bytes ≡ Processed)
    × IsReleased s.sending (after_arrival s src dst bytes).sending (position_near s v.ack)

-- REPORTS RCV.NXT: what is due is a segment that acknowledges it
pub record AcknowledgesRcvNxt (s : State) : Type 0 where
  pub due : Due
  pub is_due : due_of s ≡ Some due
  pub has_ack : has ack (segment_of s due).flags ≡ true
  pub number : (segment_of s due).ack ≡ s.receiving.rcv_nxt

-- WHAT IS PENDING IS REPORTED by every end that doesn't have to send a reset or a SYN first (RFC 9293, 3.10.7.4, seventh)
abbrev pub PendingIsSent : Type 0
PendingIsSent = (s : State) → s.pending.ack ≡ true → s.pending.reset ≡ None → s.pending.syn ≡ false → AcknowledgesRcvNxt s
