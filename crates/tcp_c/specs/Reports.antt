-- What is reported to C of bytes that arrived (RFC 9293, 3.10.7; RFC 5681, 2 and 4.2), and of a segment that was written (RFC
-- 9293, 3.7 and 3.8): `take` and `transmit` of an end, each case by its number.
use Rattle.std.specs.Prelude.{ℕ, nat_lt, if◌then◌else◌, List, Option, Some, None, unwrap_or}
use Rattle.tcp_conn.specs.Arrival.{after_arrival}
use Rattle.tcp_conn.specs.AtOnce.{answers_at_once}
use Rattle.tcp_conn.specs.Emission.{destination, pending_length}
use Rattle.tcp_conn.specs.State.{State}
use Rattle.tcp_conn.specs.Taking.{brought, bytes_acked, is_duplicate, is_window_taken, rule_of}
use Rattle.tcp_conn.specs.Transmission.{count_due, kind_due, position_due}
use Rattle.tcp_conn.specs.declared.arrive.judgement.Judgement.{Judgement}
use Rattle.tcp_conn.specs.declared.arrive.judgement.Judgement.TheVariants.{Foreign, ResetIgnored, Stray, AckOfListen, OpensNothing, PeerOpens, AckOfNoSyn, PeerRefuses, PeerAccepts, Unacceptable, PeerResets, ResetElsewhere, SynInWindow, NoAck, AcksUnsent, HandshakeRefused, HandshakeRefusedShut, Taken, TakenShut}
use Rattle.tcp_conn.specs.declared.arrive.brought.Brought.{Brought}
use Rattle.tcp_conn.specs.declared.arrive.brought.Brought.TheVariants as brings
use Rattle.tcp_conn.specs.declared.emit.transmit.Kind.{Kind}
use Rattle.tcp_conn.specs.declared.emit.transmit.Kind.TheVariants as kinds
use Rattle.tcp_c.specs.Segments.{nowhere}
use Rattle.tcp_c.specs.Status.{flag}
use Rattle.tcp_c.specs.declared.records.CArriveReport.{CArriveReport}
use Rattle.tcp_c.specs.declared.records.CTransmit.{CTransmit}

-- THE RULE that applied, in the order of the tests; 0 where the bytes are no segment
abbrev pub rule_number : Judgement → ℕ
rule_number Foreign = 1
rule_number ResetIgnored = 2
rule_number Stray = 3
rule_number AckOfListen = 4
rule_number OpensNothing = 5
rule_number PeerOpens = 6
rule_number AckOfNoSyn = 7
rule_number PeerRefuses = 8
rule_number PeerAccepts = 9
rule_number Unacceptable = 10
rule_number PeerResets = 11
rule_number ResetElsewhere = 12
rule_number SynInWindow = 13
rule_number NoAck = 14
rule_number AcksUnsent = 15
rule_number HandshakeRefused = 16
rule_number HandshakeRefusedShut = 17
rule_number Taken = 18
rule_number TakenShut = 19

abbrev pub rule_told : Option Judgement → ℕ
rule_told None = 0
rule_told (Some rule) = rule_number rule

-- WHAT A SEGMENT BROUGHT
abbrev pub brought_number : Brought → ℕ
brought_number brings.Nothing = 0
brought_number brings.InOrder = 1
brought_number brings.Held = 2
brought_number brings.NotKept = 3

-- all zero where there is no end
abbrev pub no_arrive_report : CArriveReport
no_arrive_report = record { at_once = 0; rule = 0; acked = 0; brought = 0; is_duplicate = 0; window_taken = 0 }

abbrev pub arrive_report_of : List ℕ → List ℕ → List ℕ → Option State → CArriveReport
arrive_report_of src dst bytes None = no_arrive_report
arrive_report_of src dst bytes (Some s) = record {
  at_once = flag (answers_at_once s src dst bytes);
  rule = rule_told (rule_of s src dst bytes);
  acked = bytes_acked s (after_arrival s src dst bytes);
  brought = brought_number (brought s src dst bytes);
  is_duplicate = flag (is_duplicate s src dst bytes);
  window_taken = flag (is_window_taken s src dst bytes);
}

-- WHAT A SEGMENT IS that is written; 0 where none is
abbrev pub kind_number : Kind → ℕ
kind_number kinds.Reset = 1
kind_number kinds.Syn = 2
kind_number kinds.NewText = 3
kind_number kinds.TextAgain = 4
kind_number kinds.Fin = 5
kind_number kinds.FinAgain = 6
kind_number kinds.Acknowledgement = 7

abbrev pub kind_told : Option Kind → ℕ
kind_told None = 0
kind_told (Some kind) = kind_number kind

-- the segment that is due, all zero where none is, or there is no end
abbrev pub no_transmit : CTransmit
no_transmit = record { to = record { byte = nowhere }; kind = 0; length = 0; position = 0; count = 0 }

abbrev pub next_transmit_of : Option State → CTransmit
next_transmit_of None = no_transmit
next_transmit_of (Some s) = record {
  to = record { byte = unwrap_or (destination s) nowhere };
  kind = kind_told (kind_due s);
  length = unwrap_or (pending_length s) 0;
  position = unwrap_or (position_due s) 0;
  count = unwrap_or (count_due s) 0;
}

-- and nothing is written where there is less room than this
abbrev pub transmit_of : ℕ → ℕ → Option State → CTransmit
transmit_of least room end = if nat_lt room least then no_transmit else next_transmit_of end
