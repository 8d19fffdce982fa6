-- The table of the states of a connection, row by row: each row is computed.
use Rattle.std.proofs.Common.{◌≡◌, refl}
use Rattle.std.specs.Prelude.{Bool, true, false}
use Rattle.tcp_conn.specs.declared.phase.Phase.{Phase}
use Rattle.tcp_conn.specs.declared.phase.Phase.TheVariants as phases
use Rattle.tcp_conn.specs.declared.phase.Timer.{Timer}
use Rattle.tcp_conn.specs.declared.phase.Timer.TheVariants as timers
use Rattle.tcp_conn.specs.declared.outcome.CallError.TheVariants.{NotOpen, Closing}
use Rattle.tcp_conn.specs.State.{State}
use Rattle.tcp_conn.specs.Calls.{after_close, after_abort}
use Rattle.tcp_conn.specs.Timers.{timer_answer, after_timer, after_retransmit, after_reorder, after_time_wait}
use Rattle.tcp_conn.specs.PhaseTable.{Refused, LeadsTo, Aborts, AbortsByReset, no_timer, retransmit_alone, retransmit_and_reorder, time_wait_alone, phase_after_timer, in_phase, Row, PhaseTable}

by_timer : (P : Timer → Type 0) → P timers.Retransmit → P timers.Reorder → P timers.TimeWait → (timer : Timer) → P timer
by_timer P retransmit reorder time_wait timers.Retransmit = retransmit
by_timer P retransmit reorder time_wait timers.Reorder = reorder
by_timer P retransmit reorder time_wait timers.TimeWait = time_wait

-- the claim of a row for the rule of a timer, and for the state after it
abbrev Applies : (Timer → Bool) → State → Phase → Bool → Timer → Type 0
Applies may_apply s phase closing timer = may_apply timer ≡ false → timer_answer (in_phase s phase closing) timer ≡ false

abbrev Leads : State → Phase → Bool → Timer → Type 0
Leads s phase closing timer = (after_timer (in_phase s phase closing) timer).phase ≡ phase_after_timer timer phase

closed-row : Row phases.Closed false (Refused NotOpen) (Refused NotOpen) no_timer
unfolding after_close after_abort after_retransmit after_reorder after_time_wait
closed-row = record {
  on_close = λ s. (refl, refl);
  on_abort = λ s. (refl, refl);
  applies = λ s. by_timer (Applies no_timer s phases.Closed false) (λ h. refl) (λ h. refl) (λ h. refl);
  on_timer = λ s. by_timer (Leads s phases.Closed false) refl refl refl;
}

listen-row : Row phases.Listen false Aborts Aborts no_timer
unfolding after_close after_abort after_retransmit after_reorder after_time_wait
listen-row = record {
  on_close = λ s. (refl, refl, refl, refl);
  on_abort = λ s. (refl, refl, refl, refl);
  applies = λ s. by_timer (Applies no_timer s phases.Listen false) (λ h. refl) (λ h. refl) (λ h. refl);
  on_timer = λ s. by_timer (Leads s phases.Listen false) refl refl refl;
}

syn_sent-row : Row phases.SynSent false Aborts Aborts retransmit_alone
unfolding after_close after_abort after_retransmit after_reorder after_time_wait
syn_sent-row = record {
  on_close = λ s. (refl, refl, refl, refl);
  on_abort = λ s. (refl, refl, refl, refl);
  applies = λ s. by_timer (Applies retransmit_alone s phases.SynSent false) (λ h. cc) (λ h. refl) (λ h. refl);
  on_timer = λ s. by_timer (Leads s phases.SynSent false) refl refl refl;
}

syn_received-row : Row phases.SynReceived false (LeadsTo phases.SynReceived) AbortsByReset retransmit_alone
unfolding after_close after_abort after_retransmit after_reorder after_time_wait
syn_received-row = record {
  on_close = λ s. (refl, refl, refl);
  on_abort = λ s. (refl, refl, refl, refl);
  applies = λ s. by_timer (Applies retransmit_alone s phases.SynReceived false) (λ h. cc) (λ h. refl) (λ h. refl);
  on_timer = λ s. by_timer (Leads s phases.SynReceived false) refl refl refl;
}

syn_received_closing-row : Row phases.SynReceived true (Refused Closing) AbortsByReset retransmit_alone
unfolding after_close after_abort after_retransmit after_reorder after_time_wait
syn_received_closing-row = record {
  on_close = λ s. (refl, refl);
  on_abort = λ s. (refl, refl, refl, refl);
  applies = λ s. by_timer (Applies retransmit_alone s phases.SynReceived true) (λ h. cc) (λ h. refl) (λ h. refl);
  on_timer = λ s. by_timer (Leads s phases.SynReceived true) refl refl refl;
}

established-row : Row phases.Established false (LeadsTo phases.FinWait1) AbortsByReset retransmit_and_reorder
unfolding after_close after_abort after_retransmit after_reorder after_time_wait
established-row = record {
  on_close = λ s. (refl, refl, refl);
  on_abort = λ s. (refl, refl, refl, refl);
  applies = λ s. by_timer (Applies retransmit_and_reorder s phases.Established false) (λ h. cc) (λ h. cc) (λ h. refl);
  on_timer = λ s. by_timer (Leads s phases.Established false) refl refl refl;
}

fin_wait_1-row : Row phases.FinWait1 true (Refused Closing) AbortsByReset retransmit_and_reorder
unfolding after_close after_abort after_retransmit after_reorder after_time_wait
fin_wait_1-row = record {
  on_close = λ s. (refl, refl);
  on_abort = λ s. (refl, refl, refl, refl);
  applies = λ s. by_timer (Applies retransmit_and_reorder s phases.FinWait1 true) (λ h. cc) (λ h. cc) (λ h. refl);
  on_timer = λ s. by_timer (Leads s phases.FinWait1 true) refl refl refl;
}

fin_wait_2-row : Row phases.FinWait2 true (Refused Closing) AbortsByReset no_timer
unfolding after_close after_abort after_retransmit after_reorder after_time_wait
fin_wait_2-row = record {
  on_close = λ s. (refl, refl);
  on_abort = λ s. (refl, refl, refl, refl);
  applies = λ s. by_timer (Applies no_timer s phases.FinWait2 true) (λ h. refl) (λ h. refl) (λ h. refl);
  on_timer = λ s. by_timer (Leads s phases.FinWait2 true) refl refl refl;
}

close_wait-row : Row phases.CloseWait false (LeadsTo phases.LastAck) AbortsByReset retransmit_and_reorder
unfolding after_close after_abort after_retransmit after_reorder after_time_wait
close_wait-row = record {
  on_close = λ s. (refl, refl, refl);
  on_abort = λ s. (refl, refl, refl, refl);
  applies = λ s. by_timer (Applies retransmit_and_reorder s phases.CloseWait false) (λ h. cc) (λ h. cc) (λ h. refl);
  on_timer = λ s. by_timer (Leads s phases.CloseWait false) refl refl refl;
}

both_closing-row : Row phases.Closing true (Refused Closing) Aborts retransmit_and_reorder
unfolding after_close after_abort after_retransmit after_reorder after_time_wait
both_closing-row = record {
  on_close = λ s. (refl, refl);
  on_abort = λ s. (refl, refl, refl, refl);
  applies = λ s. by_timer (Applies retransmit_and_reorder s phases.Closing true) (λ h. cc) (λ h. cc) (λ h. refl);
  on_timer = λ s. by_timer (Leads s phases.Closing true) refl refl refl;
}

last_ack-row : Row phases.LastAck true (Refused Closing) Aborts retransmit_and_reorder
unfolding after_close after_abort after_retransmit after_reorder after_time_wait
last_ack-row = record {
  on_close = λ s. (refl, refl);
  on_abort = λ s. (refl, refl, refl, refl);
  applies = λ s. by_timer (Applies retransmit_and_reorder s phases.LastAck true) (λ h. cc) (λ h. cc) (λ h. refl);
  on_timer = λ s. by_timer (Leads s phases.LastAck true) refl refl refl;
}

time_wait-row : Row phases.TimeWait true (Refused Closing) Aborts time_wait_alone
unfolding after_close after_abort after_retransmit after_reorder after_time_wait
time_wait-row = record {
  on_close = λ s. (refl, refl);
  on_abort = λ s. (refl, refl, refl, refl);
  applies = λ s. by_timer (Applies time_wait_alone s phases.TimeWait true) (λ h. refl) (λ h. refl) (λ h. cc);
  on_timer = λ s. by_timer (Leads s phases.TimeWait true) refl refl refl;
}

pub phase_table_lem : PhaseTable
phase_table_lem = record {
  closed = closed-row;
  listen = listen-row;
  syn_sent = syn_sent-row;
  syn_received = syn_received-row;
  syn_received_closing = syn_received_closing-row;
  established = established-row;
  fin_wait_1 = fin_wait_1-row;
  fin_wait_2 = fin_wait_2-row;
  close_wait = close_wait-row;
  both_closing = both_closing-row;
  last_ack = last_ack-row;
  time_wait = time_wait-row;
  ended = λ s h. (rw h refl, rw h refl);
}
