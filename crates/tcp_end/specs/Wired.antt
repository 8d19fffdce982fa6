-- An end of a connection as a machine without a clock: each function is one of tcp_conn's.
use Rattle.std.specs.Prelude.{ℕ, ◌+◌, ◌-◌, nat_lt, Bool, false, true, not, ◌&&◌, ◌||◌, ◌==◌, if◌then◌else◌, List, ◌++◌, drop, length, Option, Some, None, option_map, Result, Ok, Err}
use Rattle.tcp_timing.specs.declared.rules.Rules.{Rules}
use Rattle.tcp_driver.specs.declared.limits.Limits.{Limits}
use Rattle.tcp_driver.specs.declared.machine.Report.{Report}
use Rattle.tcp_driver.specs.declared.machine.Row.{Row}
use Rattle.tcp_driver.specs.declared.machine.Sent.{Sent}
use Rattle.tcp_driver.specs.declared.machine.Timer.{Timer}
use Rattle.tcp_driver.specs.declared.machine.Timer.TheVariants as timers
use Rattle.tcp_driver.specs.declared.machine.Wants.{Wants}
use Rattle.tcp_driver.specs.declared.machine.Way.{Way}
use Rattle.tcp_driver.specs.Driver.{Driving, new_driving}
use Rattle.tcp_driver.specs.Machine.{Machine}
use Rattle.tcp_wire.specs.Flags.{fin, has}
use Rattle.tcp_wire.specs.Position.{number}
use Rattle.tcp_sendq.specs.SendQueue.{count_marked}
use Rattle.tcp_wire.specs.Wire.{Content}
use Rattle.tcp_wire.specs.declared.fault.DecodeError.{DecodeError}
use Rattle.tcp_halves.specs.declared.link.Peer.{Peer}
use Rattle.tcp_conn.specs.declared.arrive.brought.Brought.{Brought}
use Rattle.tcp_conn.specs.declared.arrive.brought.Brought.TheVariants.{Nothing}
use Rattle.tcp_conn.specs.declared.arrive.guard.Intake.{Intake}
use Rattle.tcp_conn.specs.declared.arrive.judgement.Judgement.{Judgement}
use Rattle.tcp_conn.specs.declared.arrive.judgement.Judgement.TheVariants.{TakenShut, Unacceptable}
use Rattle.tcp_conn.specs.declared.arrive.judgement.Judgement.TheVariants as rules
use Rattle.tcp_conn.specs.declared.arrive.report.Taken.{Taken}
use Rattle.tcp_conn.specs.declared.emit.train.Train.{Train}
use Rattle.tcp_conn.specs.declared.emit.transmit.Transmit.{Transmit}
use Rattle.tcp_conn.specs.declared.outcome.CallError.{CallError}
use Rattle.tcp_conn.specs.declared.phase.Phase.{Phase}
use Rattle.tcp_conn.specs.declared.phase.Phase.TheVariants.{Closing, FinWait2, LastAck}
use Rattle.tcp_conn.specs.declared.phase.Timer.TheVariants.{Retransmit, Reorder, TimeWait}
use Rattle.tcp_conn.specs.declared.timers.Timers.{Timers}
use Rattle.tcp_conn.specs.Calls.{after_abort, after_acknowledge, after_close, after_connect, after_listen, after_receive, after_send, opening_answer, received_bytes}
use Rattle.tcp_conn.specs.Emission.{after_ack_alone, after_emission, buffer_after, buffer_after_ack_alone}
use Rattle.tcp_conn.specs.Guard.{after_intake, intake_answer, intake_at_once, intake_brought, intake_duplicate, intake_rule, intake_window, reading_of}
use Rattle.tcp_conn.specs.Phase.{is_time_wait}
use Rattle.tcp_conn.specs.State.{State}
use Rattle.tcp_conn.specs.Taking.{bytes_acked}
use Rattle.tcp_conn.specs.Timers.{after_resend, after_resend_first, after_timer, resends_between, sends_again, timers_wanted}
use Rattle.tcp_conn.specs.TrainWithin.{train_buffer_within, train_within}
use Rattle.tcp_conn.specs.Transmission.{transmit_ack_alone, transmit_due}
use Rattle.tcp_end.specs.declared.wired.Wired.{Wired}

-- WHICH TIMERS RUN
abbrev pub is_fin_wait_2 : Phase → Bool
is_fin_wait_2 FinWait2 = true
is_fin_wait_2 other = false

-- FIN-WAIT-2 counts while the user has read all that came
abbrev pub waits_for_peer : State → Bool
waits_for_peer s = is_fin_wait_2 s.phase && length s.receiving.inbox.unread == 0

abbrev pub wants_by : Timers → Bool → Wants
wants_by t waits = record { retransmit = t.retransmit; reorder = t.reorder; time_wait = t.time_wait; fin_wait_2 = waits }

-- A TIMER HAS EXPIRED: an end has no user timeout, and the connection is aborted after it (RFC 9293, 3.8.3)
abbrev pub expired : State → Timer → State
expired s timers.Retransmit = after_timer s Retransmit
expired s timers.Reorder = after_timer s Reorder
expired s timers.TimeWait = after_timer s TimeWait
expired s timers.User = after_abort s

-- A SEGMENT takes the numbers between where it begins and where it ends
abbrev pub sent_by : Transmit → Sent
sent_by t = record { to = t.to.0; len = t.len; start = t.position; count = t.end - t.position }

-- SEGMENTS AS ONE take the numbers between where the first begins and the last ends
abbrev pub row_by : Train → Row
row_by t = record { start = t.whole.position; count = t.whole.end - t.whole.position; each = t.each; segments = t.segments }

-- A RESET COUNTS AS LOST in TIME-WAIT (RFC 1337, 3), and where all has come but the last acknowledgement, while it would discard text
-- that the user hasn't read
abbrev pub waits_for_last_ack : Phase → Bool
waits_for_last_ack Closing = true
waits_for_last_ack LastAck = true
waits_for_last_ack other = false

abbrev pub ignores_resets : State → Bool
ignores_resets s = is_time_wait s.phase || (waits_for_last_ack s.phase && nat_lt 0 (length s.receiving.inbox.unread))

-- A WAY IN of the driver's is one of the end's
abbrev pub intake_of : Way → Intake
intake_of way = record { is_vouched = way.is_vouched; guard = way.guard }

-- WHAT AN ARRIVAL HAS BROUGHT: the window is SND.WND after it, where that was taken from it
abbrev pub window_after : Intake → State → List ℕ → List ℕ → List ℕ → Option ℕ
window_after way s src dst bytes = if intake_window way s src dst bytes then Some (after_intake way s src dst bytes).sending.snd_wnd else None

-- THE PEER'S FIN AGAIN, in TIME-WAIT (RFC 9293, 3.10.7.4, eighth): a segment of the connection whose FIN has the number before RCV.NXT
abbrev pub is_last_fin : ℕ → Result Content DecodeError → Bool
is_last_fin rcv_nxt (Ok v) = has fin v.flags && (number v.seq (length v.text + 1) == rcv_nxt)
is_last_fin rcv_nxt (Err fault) = false

abbrev pub is_of_connection : Option Judgement → Bool
is_of_connection (Some Unacceptable) = true
is_of_connection (Some rules.Taken) = true
is_of_connection (Some TakenShut) = true
is_of_connection other = false

abbrev pub repeats_fin : Intake → State → List ℕ → List ℕ → List ℕ → Bool
repeats_fin way s src dst bytes =
    is_time_wait s.phase && (is_of_connection (intake_rule way s src dst bytes) && is_last_fin s.receiving.rcv_nxt (reading_of way src dst bytes))

-- THE PEER IS THERE: a segment of the connection brought text or a FIN, again or not, or its window was taken
abbrev pub brings_nothing : Brought → Bool
brings_nothing Nothing = true
brings_nothing other = false

abbrev pub is_from_peer : Intake → State → List ℕ → List ℕ → List ℕ → Bool
is_from_peer way s src dst bytes =
    is_of_connection (intake_rule way s src dst bytes) && (not (brings_nothing (intake_brought way s src dst bytes)) || intake_window way s src dst bytes)

-- WHAT THE DRIVER IS TOLD of an arrival
abbrev pub report : Intake → State → List ℕ → List ℕ → List ℕ → Report
report way s src dst bytes = record {
  acked = bytes_acked s (after_intake way s src dst bytes);
  is_duplicate = intake_duplicate way s src dst bytes;
  at_once = intake_at_once way s src dst bytes;
  window = window_after way s src dst bytes;
  repeats_fin = repeats_fin way s src dst bytes;
  from_peer = is_from_peer way s src dst bytes;
}

-- THE END'S OWN ANSWER: all that `take_with` reports
abbrev pub taken_of : Intake → State → List ℕ → List ℕ → List ℕ → Taken
taken_of way s src dst bytes = record {
  arrival = intake_answer way s src dst bytes;
  at_once = intake_at_once way s src dst bytes;
  rule = intake_rule way s src dst bytes;
  acked = bytes_acked s (after_intake way s src dst bytes);
  is_duplicate = intake_duplicate way s src dst bytes;
  window_taken = intake_window way s src dst bytes;
  brought = intake_brought way s src dst bytes;
}

-- what a user's buffer contains after a call of `receive`
abbrev pub read_into : State → List ℕ → List ℕ
read_into s out = let bytes = received_bytes s (length out) in bytes ++ drop (length bytes) out

-- THE END AS A MACHINE
abbrev pub machine : {A : Type 0} → Machine (Wired A)
machine = record {
  room = 1520;
  wants = λ w. wants_by (timers_wanted w.end) (waits_for_peer w.end);
  una = λ w. w.end.sending.snd_una;
  flight = λ w. w.end.sending.snd_nxt - w.end.sending.snd_una;
  -- the peer's blocks report what is marked (RFC 2018, 5)
  reported = λ w. count_marked w.end.sending.queue.marks;
  ignores_resets = λ w. ignores_resets w.end;
  expired = λ w timer. record { end = expired w.end timer };
  report = λ w src dst bytes way. report (intake_of way) w.end src dst bytes;
  arrived = λ w src dst bytes way. record { end = after_intake (intake_of way) w.end src dst bytes };
  due = λ w. option_map sent_by (transmit_due w.end);
  written = λ w out. buffer_after w.end out;
  emitted = λ w. record { end = after_emission w.end };
  alone = λ w. option_map sent_by (transmit_ack_alone w.end);
  written_alone = λ w out. buffer_after_ack_alone w.end out;
  emitted_alone = λ w. record { end = after_ack_alone w.end };
  row = λ w window most room. option_map row_by (train_within w.end window most room);
  written_row = λ w window most out. train_buffer_within w.end window most out;
  can_resend = λ w. sends_again w.end;
  first_resent = λ w. record { end = after_resend_first w.end };
  resends = λ w from to. resends_between w.end from to;
  resent = λ w from to. record { end = after_resend w.end from to };
  sent = λ w text. record { end = after_send w.end text };
  read = λ w out. read_into w.end out;
  received = λ w room. record { end = after_receive w.end room };
  acknowledged = λ w. record { end = after_acknowledge w.end };
  closed = λ w. record { end = after_close w.end };
  aborted = λ w. record { end = after_abort w.end };
}

-- AN END IS OPENED, and its timers run from then on; an opening that is refused has the end's answer
abbrev pub driven : {A : Type 0} → State → Rules → Limits → ℕ → Driving (Wired A)
driven s rules limits now = new_driving machine (record { end = s }) rules limits now

abbrev pub driven_if : {A : Type 0} → Result (Unit {0}) CallError → Driving (Wired A) → Result (Driving (Wired A)) CallError
driven_if (Ok answer) d = Ok d
driven_if (Err error) d = Err error

abbrev pub connected : {A : Type 0} → State → Peer → Rules → Limits → ℕ → Result (Driving (Wired A)) CallError
connected s peer rules limits now = driven_if (opening_answer s) (driven (after_connect s peer) rules limits now)

abbrev pub listening : {A : Type 0} → State → Rules → Limits → ℕ → Result (Driving (Wired A)) CallError
listening s rules limits now = driven_if (opening_answer s) (driven (after_listen s) rules limits now)
