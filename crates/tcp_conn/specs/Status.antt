-- What an end reports of itself (RFC 9293, 3.10.6, the STATUS call): its peer, what the two SYNs agreed on, and what it keeps
-- for its peer.
use Rattle.std.specs.Prelude.{ℕ, ◌-◌, if◌then◌else◌, length, min, nat_lt, Option, Some, None}
use Rattle.tcp_sendq.specs.SendQueue.{room}
use Rattle.tcp_conn.specs.declared.status.Negotiated.{Negotiated}
use Rattle.tcp_halves.specs.declared.link.Peer.{Peer}
use Rattle.tcp_conn.specs.Due.{mss_in_use}
use Rattle.tcp_halves.specs.Sender.{count_below}
use Rattle.tcp_conn.specs.State.{State, accepted_count}
use Rattle.tcp_conn.specs.Windows.{own_shift}

-- THE PEER is known from `connect` on, or from the SYN that came in LISTEN on: once this end's SYN is sent, SND.NXT is after
-- it. It stays known after the connection has ended
abbrev pub peer_of : State → Option Peer
peer_of s = if nat_lt 0 s.sending.snd_nxt then Some s.peer else None

-- WHAT THE SYNS AGREED ON, once the peer's was taken
abbrev pub agreed_of : State → Negotiated
agreed_of s = record {
  mss = mss_in_use s;
  scaling = s.link.scaling;
  own_shift = own_shift s.config s.link;
  peer_shift = s.link.peer_shift;
  sack = s.link.sack;
}

abbrev pub negotiated_of : State → Option Negotiated
negotiated_of s = if s.receiving.opened then Some (agreed_of s) else None

-- ROOM: the longest text that `send` accepts whole, by the room of the queue and what the direction may still carry
abbrev pub room_of : State → ℕ
room_of s = min (room s.sending.queue) (s.config.limit - accepted_count s.sending)

-- QUEUED: the bytes that `send` accepted and no acknowledgement has released
abbrev pub queued_of : State → ℕ
queued_of s = length s.sending.queue.bytes

-- IN FLIGHT: those of them that were sent, the text between SND.UNA and SND.NXT; SYN and FIN aren't counted
abbrev pub in_flight_of : State → ℕ
in_flight_of s = count_below s.sending s.sending.snd_nxt
