-- THE KEEP-ALIVE of an end (RFC 9293, 3.8.4): an acknowledgement whose sequence number lies one before SND.NXT, so that it is
-- old to a peer that has acknowledged all, and answered.
use Rattle.std.specs.Prelude.{ℕ, ◌-◌, Bool, true, false, ◌&&◌, ◌==◌, nat_lt, if◌then◌else◌, List, [], length, ◌++◌, drop, Option, Some, None}
use Rattle.tcp_wire.specs.Flags.{ack}
use Rattle.tcp_wire.specs.Partial.{with_partial_sum}
use Rattle.tcp_wire.specs.Position.{number}
use Rattle.tcp_wire.specs.Wire.{Content, encoded_bytes, header_len}
use Rattle.tcp_reasm.specs.Reassembly.{window}
use Rattle.tcp_halves.specs.declared.link.Peer.{Peer}
use Rattle.tcp_conn.specs.declared.phase.Phase.{Phase}
use Rattle.tcp_conn.specs.declared.phase.Phase.TheVariants.{Established, CloseWait}
use Rattle.tcp_conn.specs.State.{State, Sending}
use Rattle.tcp_conn.specs.Windows.{own_shift, window_field}

-- THE PEER MAY BE ASKED in the states in which the end may send at any time, where all that was sent is acknowledged, and
-- nothing waits to be sent
abbrev pub is_asking_phase : Phase → Bool
is_asking_phase Established = true
is_asking_phase CloseWait = true
is_asking_phase other = false

-- both SYNs were exchanged, as they are in these states
abbrev pub knows_peer : State → Bool
knows_peer s = nat_lt 0 s.sending.snd_nxt && s.receiving.opened

abbrev pub has_sent_all : Sending → Bool
has_sent_all s = (s.snd_una == s.snd_nxt) && (length s.queue.bytes == 0)

abbrev pub may_ask : State → Bool
may_ask s = is_asking_phase s.phase && (knows_peer s && has_sent_all s.sending)

-- THE SEGMENT: <SEQ=SND.NXT-1><ACK=RCV.NXT><CTL=ACK>, the end's window, no options and no text
abbrev pub window_field_of : State → ℕ → ℕ
window_field_of s shift = window_field shift (window s.receiving.inbox)

abbrev pub keep_alive_from : State → Peer → ℕ → Content
keep_alive_from s peer shift = record {
  src_port = s.config.port;
  dst_port = peer.port;
  seq = number s.config.isn.0 (s.sending.snd_nxt - 1);
  ack = s.receiving.rcv_nxt;
  reserved = 0;
  flags = ack;
  window = window_field_of s shift;
  urgent = 0;
  options = [];
  pad = 0;
  text = [];
}

abbrev pub keep_alive_of : State → Content
keep_alive_of s = keep_alive_from s s.peer (own_shift s.config s.link)

abbrev pub keep_alive_bytes : State → List ℕ
keep_alive_bytes s = encoded_bytes s.config.addr.0 s.peer.addr.0 (keep_alive_of s)

-- it is due where the peer may be asked
abbrev pub keep_alive_due : State → Option (List ℕ)
keep_alive_due s = if may_ask s then Some (keep_alive_bytes s) else None

-- FOR A DEVICE THAT SUMS IT has the ones' complement sum of the pseudo-header in the checksum field (RFC 9293, 3.1; RFC 1071, 2)
abbrev pub partial_due : State → Option (List ℕ)
partial_due s = if may_ask s then Some (with_partial_sum s.config.addr.0 s.peer.addr.0 (keep_alive_bytes s)) else None

-- what a buffer contains once it is written: the segment, and after it the bytes that were there
abbrev pub buffer_after : Option (List ℕ) → List ℕ → List ℕ
buffer_after None out = out
buffer_after (Some bytes) out = bytes ++ drop header_len out
