-- How a connection ends (RFC 9293, 3.10.4, 3.10.5 and 3.10.7): any end clears all that is pending but a waiting reset.
use Rattle.tcp_conn.specs.declared.phase.Ending.{Ending}
use Rattle.tcp_conn.specs.declared.phase.Ending.TheVariants.{Orderly}
use Rattle.tcp_conn.specs.declared.phase.Phase.TheVariants as phases
use Rattle.tcp_conn.specs.declared.phase.Phase.TheVariants.{Closed}
use Rattle.tcp_conn.specs.Pending.{only_reset_pending}
use Rattle.tcp_conn.specs.State.{State}
use Rattle.tcp_halves.specs.Sender.{without_resend, without_text}
use Rattle.tcp_halves.specs.Receiver.{without_bytes}

-- ORDERLY: both sides closed; what is unread can still be read
abbrev pub after_orderly_end : State → State
after_orderly_end s = record s {
  phase = phases.Closed;
  ending = Orderly;
  sending = without_resend s.sending;
  pending = only_reset_pending s.pending;
}

-- A RESET OR AN ABORT: what is queued, unread or kept out of order is discarded
abbrev pub after_discarding : State → Ending → State
after_discarding s ending = record s {
  phase = phases.Closed;
  ending = ending;
  sending = without_text s.sending;
  receiving = without_bytes s.receiving;
  pending = only_reset_pending s.pending;
}
