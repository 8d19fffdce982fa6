-- The names of states, endings and timers.
use Rattle.std.specs.Prelude.{ℕ, List, codes}
use Rattle.tcp_conn.specs.declared.phase.Phase.{Phase}
use Rattle.tcp_conn.specs.declared.phase.Phase.TheVariants as phases
use Rattle.tcp_conn.specs.declared.phase.Ending.{Ending}
use Rattle.tcp_conn.specs.declared.phase.Ending.TheVariants as endings
use Rattle.tcp_conn.specs.declared.phase.Timer.{Timer}
use Rattle.tcp_conn.specs.declared.phase.Timer.TheVariants as timers

-- as RFC 9293, 3.3.2 writes them
abbrev pub phase_name : Phase → List ℕ
phase_name phases.Closed = codes "CLOSED"
phase_name phases.Listen = codes "LISTEN"
phase_name phases.SynSent = codes "SYN-SENT"
phase_name phases.SynReceived = codes "SYN-RECEIVED"
phase_name phases.Established = codes "ESTABLISHED"
phase_name phases.FinWait1 = codes "FIN-WAIT-1"
phase_name phases.FinWait2 = codes "FIN-WAIT-2"
phase_name phases.CloseWait = codes "CLOSE-WAIT"
phase_name phases.Closing = codes "CLOSING"
phase_name phases.LastAck = codes "LAST-ACK"
phase_name phases.TimeWait = codes "TIME-WAIT"

abbrev pub ending_name : Ending → List ℕ
ending_name endings.NotEnded = codes "not-ended"
ending_name endings.Orderly = codes "orderly"
ending_name endings.Reset = codes "reset"
ending_name endings.Aborted = codes "aborted"

abbrev pub timer_name : Timer → List ℕ
timer_name timers.Retransmit = codes "retransmit"
timer_name timers.Reorder = codes "reorder"
timer_name timers.TimeWait = codes "timewait"
