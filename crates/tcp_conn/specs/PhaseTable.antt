-- What `close`, `abort` and the timers do in each state of a connection, as a table (RFC 9293, 3.3.2, 3.10.4, 3.10.5 and
-- 3.10.8). It follows from the definitions of Calls and Timers.
use Rattle.std.specs.Prelude.{◌≡◌, Bool, true, false, Some, Result, Ok, Err}
use Rattle.tcp_conn.specs.declared.phase.Phase.{Phase}
use Rattle.tcp_conn.specs.declared.phase.Phase.TheVariants as phases
use Rattle.tcp_conn.specs.declared.phase.Ending.TheVariants.{NotEnded, Aborted}
use Rattle.tcp_conn.specs.declared.phase.Timer.{Timer}
use Rattle.tcp_conn.specs.declared.phase.Timer.TheVariants as timers
use Rattle.tcp_conn.specs.declared.outcome.CallError.{CallError}
use Rattle.tcp_conn.specs.declared.outcome.CallError.TheVariants.{NotOpen, Closing, Ended}
use Rattle.tcp_conn.specs.Phase.{is_ended}
use Rattle.tcp_conn.specs.State.{State}
use Rattle.tcp_conn.specs.Calls.{close_answer, after_close, abort_answer, after_abort, own_reset}
use Rattle.tcp_conn.specs.Timers.{timer_answer, after_timer}

-- a cell: a call is refused; or it leads to a state; or the connection ends as aborted, without a new reset or with one
pub data Cell : Type 0 where
  Refused : CallError → Cell
  LeadsTo : Phase → Cell
  Aborts : Cell
  AbortsByReset : Cell

-- the claim of a cell for the end `s`, the answer of a call and the end after it
abbrev pub Does : Cell → State → Result (Unit {0}) CallError → State → Type 0
Does (Refused error) s answer after = (answer ≡ Err error) × (after ≡ s)
Does (LeadsTo phase) s answer after = (answer ≡ Ok tt) × (after.phase ≡ phase) × (after.ending ≡ NotEnded)
Does Aborts s answer after = (answer ≡ Ok tt) × (after.phase ≡ phases.Closed) × (after.ending ≡ Aborted) × (after.pending.reset ≡ s.pending.reset)
Does AbortsByReset s answer after = (answer ≡ Ok tt) × (after.phase ≡ phases.Closed) × (after.ending ≡ Aborted) × (after.pending.reset ≡ Some (own_reset s))

-- the timers whose rules can apply in a state
abbrev pub no_timer : Timer → Bool
no_timer other = false

abbrev pub retransmit_alone : Timer → Bool
retransmit_alone timers.Retransmit = true
retransmit_alone other = false

abbrev pub retransmit_and_reorder : Timer → Bool
retransmit_and_reorder timers.TimeWait = false
retransmit_and_reorder other = true

abbrev pub time_wait_alone : Timer → Bool
time_wait_alone timers.TimeWait = true
time_wait_alone other = false

-- the TIME-WAIT timeout alone changes a state
abbrev pub phase_after_timer : Timer → Phase → Phase
phase_after_timer timers.TimeWait phases.TimeWait = phases.Closed
phase_after_timer other phase = phase

-- any end in this state of a connection that hasn't ended, after its user's `close` or before
abbrev pub in_phase : State → Phase → Bool → State
in_phase s phase closing = record s { phase = phase; ending = NotEnded; closing = closing }

pub record Row (phase : Phase) (closing : Bool) (close abort : Cell) (may_apply : Timer → Bool) : Type 0 where
  pub on_close : (s : State) → Does close (in_phase s phase closing) (close_answer (in_phase s phase closing)) (after_close (in_phase s phase closing))
  pub on_abort : (s : State) → Does abort (in_phase s phase closing) (abort_answer (in_phase s phase closing)) (after_abort (in_phase s phase closing))
  pub applies : (s : State) (timer : Timer) → may_apply timer ≡ false → timer_answer (in_phase s phase closing) timer ≡ false
  pub on_timer : (s : State) (timer : Timer) → (after_timer (in_phase s phase closing) timer).phase ≡ phase_after_timer timer phase

-- THE TABLE: a state, whether the user has closed, what `close` does, what `abort` does, the timers that can apply
pub record PhaseTable : Type 0 where
  pub closed : Row phases.Closed false (Refused NotOpen) (Refused NotOpen) no_timer
  pub listen : Row phases.Listen false Aborts Aborts no_timer
  pub syn_sent : Row phases.SynSent false Aborts Aborts retransmit_alone
  pub syn_received : Row phases.SynReceived false (LeadsTo phases.SynReceived) AbortsByReset retransmit_alone
  pub syn_received_closing : Row phases.SynReceived true (Refused Closing) AbortsByReset retransmit_alone
  pub established : Row phases.Established false (LeadsTo phases.FinWait1) AbortsByReset retransmit_and_reorder
  pub fin_wait_1 : Row phases.FinWait1 true (Refused Closing) AbortsByReset retransmit_and_reorder
  pub fin_wait_2 : Row phases.FinWait2 true (Refused Closing) AbortsByReset no_timer
  pub close_wait : Row phases.CloseWait false (LeadsTo phases.LastAck) AbortsByReset retransmit_and_reorder
  pub both_closing : Row phases.Closing true (Refused Closing) Aborts retransmit_and_reorder
  pub last_ack : Row phases.LastAck true (Refused Closing) Aborts retransmit_and_reorder
  pub time_wait : Row phases.TimeWait true (Refused Closing) Aborts time_wait_alone
  -- once the connection has ended, in whatever state and way
  pub ended : (s : State) → is_ended s.ending ≡ true → (close_answer s ≡ Err (Ended s.ending)) × (abort_answer s ≡ Err (Ended s.ending))
