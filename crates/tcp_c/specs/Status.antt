-- What is reported of an end: its phase (RFC 9293, 3.3.2, in that order) and its ending by number, its counts and its
-- positions.
use Rattle.std.specs.Prelude.{ℕ, Bool, false, if◌then◌else◌, List, length, Option, Some, None, unwrap_or, is_some}
use Rattle.tcp_conn.specs.declared.phase.Phase.{Phase}
use Rattle.tcp_conn.specs.declared.phase.Phase.TheVariants as phases
use Rattle.tcp_conn.specs.declared.phase.Ending.{Ending}
use Rattle.tcp_conn.specs.declared.phase.Ending.TheVariants as endings
use Rattle.tcp_conn.specs.declared.status.Negotiated.{Negotiated}
use Rattle.tcp_halves.specs.declared.link.Peer.{Peer}
use Rattle.tcp_conn.specs.declared.outcome.CallError.TheVariants.{NotConnected}
use Rattle.tcp_conn.specs.Emission.{pending_length}
use Rattle.tcp_conn.specs.Outcome.{call_error_number}
use Rattle.tcp_halves.specs.Receiver.{rcv_position}
use Rattle.tcp_conn.specs.State.{State}
use Rattle.tcp_conn.specs.Status.{negotiated_of, peer_of, room_of, queued_of, in_flight_of}
use Rattle.tcp_conn.specs.Windows.{receive_window}
use Rattle.tcp_c.specs.Answers.{done}
use Rattle.tcp_c.specs.Segments.{nowhere}
use Rattle.tcp_c.specs.declared.records.CStatus.{CStatus}

abbrev pub phase_number : Phase → ℕ
phase_number phases.Closed = 0
phase_number phases.Listen = 1
phase_number phases.SynSent = 2
phase_number phases.SynReceived = 3
phase_number phases.Established = 4
phase_number phases.FinWait1 = 5
phase_number phases.FinWait2 = 6
phase_number phases.CloseWait = 7
phase_number phases.Closing = 8
phase_number phases.LastAck = 9
phase_number phases.TimeWait = 10

abbrev pub ending_number : Ending → ℕ
ending_number endings.NotEnded = 0
ending_number endings.Orderly = 1
ending_number endings.Reset = 2
ending_number endings.Aborted = 3

-- yes or no
abbrev pub flag : Bool → ℕ
flag b = if b then 1 else 0

-- what the two SYNs agreed on; nothing before the peer's was taken
abbrev pub nothing_agreed : Negotiated
nothing_agreed = record { mss = 0; scaling = false; own_shift = 0; peer_shift = 0; sack = false }

abbrev pub agreed : State → Negotiated
agreed s = unwrap_or (negotiated_of s) nothing_agreed

-- all zero where there is no end
abbrev pub no_status : CStatus
no_status = record {
  phase = 0;
  ending = 0;
  unread = 0;
  released = 0;
  ordered = 0;
  snd_una = 0;
  rcv_position = 0;
  room = 0;
  queued = 0;
  in_flight = 0;
  mss = 0;
  own_shift = 0;
  peer_shift = 0;
  scaling = 0;
  sack = 0;
  snd_wnd = 0;
  rcv_wnd = 0;
  snd_nxt = 0;
  closing = 0;
  finished = 0;
}

abbrev pub status_of : Option State → CStatus
status_of None = no_status
status_of (Some s) = record {
  phase = phase_number s.phase;
  ending = ending_number s.ending;
  unread = length s.receiving.inbox.unread;
  released = s.sending.released;
  ordered = s.receiving.ordered;
  snd_una = s.sending.snd_una;
  rcv_position = rcv_position s.receiving;
  room = room_of s;
  queued = queued_of s;
  in_flight = in_flight_of s;
  mss = (agreed s).mss;
  own_shift = (agreed s).own_shift;
  peer_shift = (agreed s).peer_shift;
  scaling = flag (agreed s).scaling;
  sack = flag (agreed s).sack;
  snd_wnd = s.sending.snd_wnd;
  rcv_wnd = receive_window s;
  snd_nxt = s.sending.snd_nxt;
  closing = flag s.closing;
  finished = flag s.receiving.finished;
}

-- THE PEER (RFC 9293, 3.10.6), once it is known
abbrev pub peer_found : Option Peer → ℕ
peer_found peer = if is_some peer then done else call_error_number NotConnected

abbrev pub peer_number : State → ℕ
peer_number s = peer_found (peer_of s)

abbrev pub address_told : Option Peer → List ℕ
address_told None = nowhere
address_told (Some peer) = peer.addr.0

abbrev pub port_told : Option Peer → ℕ
port_told None = 0
port_told (Some peer) = peer.port

abbrev pub peer_address : Option State → List ℕ
peer_address None = nowhere
peer_address (Some s) = address_told (peer_of s)

-- WHAT IS DUE: the length of the segment, 0 where none is
abbrev pub length_due : State → ℕ
length_due s = unwrap_or (pending_length s) 0
