-- What is reported of a segment that an end emits (RFC 9293, 3.3.1, 3.4 and 3.8): what it is, the positions where it begins and
-- ends, and how many bytes of text it has.
use Rattle.std.specs.Prelude.{ℕ, Option, option_map}
use Rattle.tcp_conn.specs.declared.emit.due.Due.{Due}
use Rattle.tcp_conn.specs.declared.emit.due.Due.TheVariants as dues
use Rattle.tcp_halves.specs.declared.sent.Sent.TheVariants as sents
use Rattle.tcp_conn.specs.declared.emit.transmit.Kind.{Kind}
use Rattle.tcp_conn.specs.declared.emit.transmit.Kind.TheVariants.{Reset, Syn, NewText, TextAgain, Fin, FinAgain, Acknowledgement}
use Rattle.tcp_conn.specs.declared.emit.transmit.Transmit.{Transmit}
use Rattle.tcp_conn.specs.Due.{ack_alone, count_of, due_of, end_of, start_of}
use Rattle.tcp_conn.specs.Forms.{segment_of}
use Rattle.tcp_conn.specs.State.{State}
use Rattle.tcp_conn.specs.Writing.{destination_of}
use Rattle.tcp_wire.specs.Wire.{wire_length}

-- WHAT IT IS
abbrev pub kind_of : Due → Kind
kind_of dues.Reset = Reset
kind_of dues.Syn = Syn
kind_of (dues.Text (sents.NewText start count)) = NewText
kind_of (dues.Text (sents.Resend start count)) = TextAgain
kind_of (dues.Text (sents.Fin start)) = Fin
kind_of (dues.Text (sents.ResentFin start)) = FinAgain
kind_of dues.Acknowledgement = Acknowledgement

-- of the segment that is due, if one is
unfoldable pub kind_due : State → Option Kind
kind_due s = option_map kind_of (due_of s)

-- WHERE IT BEGINS, as a position of this end's direction: text and FIN at their own, a SYN at 0, an acknowledgement at
-- SND.NXT. A reset, which has a number of the segment that it answers, is counted at 0
unfoldable pub position_due : State → Option ℕ
position_due s = option_map (start_of s.sending) (due_of s)

-- HOW MUCH TEXT IT HAS
unfoldable pub count_due : State → Option ℕ
count_due s = option_map count_of (due_of s)

-- THE REPORT: where it goes, how long it is, what it is, and the positions where it begins and ends
abbrev pub transmit_of : State → Due → Transmit
transmit_of s due = record {
  to = (destination_of s due).addr;
  len = wire_length (segment_of s due);
  kind = kind_of due;
  position = start_of s.sending due;
  end = end_of s.sending due;
  count = count_of due;
}

unfoldable pub transmit_due : State → Option Transmit
transmit_due s = option_map (transmit_of s) (due_of s)

-- of an acknowledgement alone
unfoldable pub transmit_ack_alone : State → Option Transmit
transmit_ack_alone s = option_map (transmit_of s) (ack_alone s)
