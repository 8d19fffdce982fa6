-- What a connection knows of an end of a TCP connection: each function is one of tcp_conn's.
use Rattle.std.specs.Prelude.{ℕ, ◌-◌, ◌*◌, ◌^◌, Bool, true, false, if◌then◌else◌, Option, Some, None, min, option_map}
use Rattle.tcp_wire.specs.Position.{number}
use Rattle.tcp_halves.specs.Config.{max_shift}
use Rattle.tcp_halves.specs.Receiver.{rcv_position}
use Rattle.tcp_conn.specs.declared.emit.transmit.Kind.TheVariants as kinds
use Rattle.tcp_conn.specs.declared.emit.transmit.Kind as conn
use Rattle.tcp_conn.specs.declared.status.Negotiated.{Negotiated}
use Rattle.tcp_conn.specs.declared.phase.Phase.{Phase}
use Rattle.tcp_conn.specs.declared.phase.Phase.TheVariants.{Closed, Listen, SynSent, SynReceived}
use Rattle.tcp_conn.specs.Phase.{is_syn_received}
use Rattle.tcp_conn.specs.State.{State}
use Rattle.tcp_conn.specs.Status.{in_flight_of, negotiated_of, queued_of}
use Rattle.tcp_conn.specs.Transmission.{transmit_due}
use Rattle.tcp_conn.specs.Windows.{receive_window, window_field}
use Rattle.tcp_end.specs.declared.wired.Wired.{Wired}
use Rattle.tcp_connection.specs.declared.deferring.Kind.{Kind}
use Rattle.tcp_connection.specs.declared.deferring.Kind.TheVariants.{Acknowledgement, NewText, Other}
use Rattle.tcp_connection.specs.Insight.{Insight}

abbrev pub kind_of : conn.Kind → Kind
kind_of kinds.Acknowledgement = Acknowledgement
kind_of kinds.NewText = NewText
kind_of other = Other

-- what was accepted and isn't in flight
abbrev pub unsent_of : State → ℕ
unsent_of s = queued_of s - in_flight_of s

-- RCV.WND, as the window field of a segment has it, and the peer reads it, by a shift of at most 14 (RFC 7323, 2.3)
abbrev pub shift_of : Option Negotiated → ℕ
shift_of None = 0
shift_of (Some agreed) = min max_shift agreed.own_shift

abbrev pub window_of : State → ℕ
window_of s = window_field (shift_of (negotiated_of s)) (receive_window s) * 2 ^ shift_of (negotiated_of s)

-- the number before RCV.NXT (RFC 9293, 3.4), while this end's SYN isn't acknowledged and the peer's was taken
abbrev pub peer_syn_of : State → Option ℕ
peer_syn_of s = if is_syn_received s.phase then Some (number s.receiving.rcv_nxt (2 ^ 32 - 1)) else None

-- both SYNs are acknowledged (RFC 9293, 3.5.2)
abbrev pub is_synchronized : Phase → Bool
is_synchronized Closed = false
is_synchronized Listen = false
is_synchronized SynSent = false
is_synchronized SynReceived = false
is_synchronized other = true

abbrev pub insight : {A : Type 0} → Insight (Wired A)
insight = record {
  kind = λ w. option_map (λ t. kind_of t.kind) (transmit_due w.end);
  rcv_nxt = λ w. rcv_position w.end.receiving;
  snd_wnd = λ w. w.end.sending.snd_wnd;
  unsent = λ w. unsent_of w.end;
  window = λ w. window_of w.end;
  capacity = λ w. w.end.config.recv_capacity;
  is_synchronized = λ w. is_synchronized w.end.phase;
  peer_syn = λ w. peer_syn_of w.end;
}
