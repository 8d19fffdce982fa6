-- The forms of the segments that an end emits (RFC 9293, 3.1 and 3.10; RFC 7323, 2.2; RFC 2018, 2 and 3).
use Rattle.std.specs.Prelude.{ℕ, Bool, if◌then◌else◌, not, ◌&&◌, List, [], ◌∷◌, Option, Some, None, min, is_some, ◌+◌, ◌++◌}
use Rattle.tcp_wire.specs.Flags.{ack, syn, rst}
use Rattle.tcp_wire.specs.Options.{OptionContent, Nop, Mss, WindowScale, SackPermitted}
use Rattle.tcp_wire.specs.Position.{number}
use Rattle.tcp_wire.specs.Wire.{Content}
use Rattle.tcp_numbers.specs.declared.seq.Seq.{Seq}
use Rattle.tcp_reasm.specs.Reassembly.{window}
use Rattle.tcp_conn.specs.declared.emit.due.Due.{Due}
use Rattle.tcp_conn.specs.declared.emit.due.Due.TheVariants.{Reset, Syn, Text, Acknowledgement}
use Rattle.tcp_halves.specs.declared.link.WaitingReset.{WaitingReset}
use Rattle.tcp_conn.specs.State.{State}
use Rattle.tcp_conn.specs.Windows.{max_window, advertised_window}
use Rattle.tcp_conn.specs.Blocks.{sack_options, blocks_to_report}
use Rattle.tcp_conn.specs.Due.{start_of}
pub use Rattle.tcp_conn.specs.Due.{text_of, flags_of}
pub use Rattle.tcp_halves.specs.Sent.{pushes}

-- A RESET has no window and no options (RFC 9293, 3.10.7.1)
abbrev pub reset_ack : Option Seq → ℕ
reset_ack None = 0
reset_ack (Some seq) = seq.0

abbrev pub reset_from : ℕ → WaitingReset → Content
reset_from port r = record {
  src_port = port;
  dst_port = r.to.port;
  seq = r.seq.0;
  ack = reset_ack r.ack;
  reserved = 0;
  flags = rst + (if is_some r.ack then ack else 0);
  window = 0;
  urgent = 0;
  options = [];
  pad = 0;
  text = [];
}

abbrev pub reset_segment : State → WaitingReset → Content
reset_segment s r = reset_from s.config.port r

-- A SYN, and after the peer's SYN its acknowledgement (RFC 9293, 3.10.1 and 3.10.7.2). It offers scaling and selective
-- acknowledgement as the Config says, and in an answer only where the peer did (RFC 7323, 2.2; RFC 2018, 2). The window of a
-- SYN is never scaled.
abbrev pub shift_offered : State → Option ℕ
shift_offered s = if s.receiving.opened && not s.link.scaling then None else s.config.window_shift

abbrev pub is_sack_offered : State → Bool
is_sack_offered s = if s.receiving.opened then s.link.sack else s.config.sack

abbrev pub scale_options : Option ℕ → List OptionContent
scale_options None = []
scale_options (Some shift) = Nop ∷ WindowScale shift ∷ []

abbrev pub permission_options : Bool → List OptionContent
permission_options offered = if offered then Nop ∷ Nop ∷ SackPermitted ∷ [] else []

abbrev pub syn_options : State → List OptionContent
syn_options s = Mss s.config.mss ∷ (scale_options (shift_offered s) ++ permission_options (is_sack_offered s))

abbrev pub syn_segment : State → Content
syn_segment s = record {
  src_port = s.config.port;
  dst_port = s.peer.port;
  seq = number s.config.isn.0 0;
  ack = if s.receiving.opened then s.receiving.rcv_nxt else 0;
  reserved = 0;
  flags = syn + (if s.receiving.opened then ack else 0);
  window = min max_window (window s.receiving.inbox);
  urgent = 0;
  options = syn_options s;
  pad = 0;
  text = [];
}

-- ANY OTHER SEGMENT
abbrev pub plain_segment : State → Due → Content
plain_segment s due = record {
  src_port = s.config.port;
  dst_port = s.peer.port;
  seq = number s.config.isn.0 (start_of s.sending due);
  ack = s.receiving.rcv_nxt;
  reserved = 0;
  flags = flags_of s.sending due;
  window = advertised_window s s.receiving.inbox;
  urgent = 0;
  options = sack_options (blocks_to_report s);
  pad = 0;
  text = text_of s.sending due;
}

-- the waiting reset; a reset is due only where one waits
abbrev pub waiting_segment : State → Option WaitingReset → Content
waiting_segment s (Some reset) = reset_segment s reset
waiting_segment s None = plain_segment s Acknowledgement

unfoldable pub segment_of : State → Due → Content
segment_of s Reset = waiting_segment s s.pending.reset
segment_of s Syn = syn_segment s
segment_of s (Text sent) = plain_segment s (Text sent)
segment_of s Acknowledgement = plain_segment s Acknowledgement
