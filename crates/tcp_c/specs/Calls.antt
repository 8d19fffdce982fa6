-- What the calls of the user (RFC 9293, 3.10.1 to 3.10.5) and the timers (3.10.8) report and do.
use Rattle.std.specs.Prelude.{ℕ, ◌+◌, ◌==◌, if◌then◌else◌, List, [], Option, Some, None, Result, Ok, Err}
use Rattle.tcp_conn.specs.declared.outcome.CallError.{CallError}
use Rattle.tcp_conn.specs.declared.outcome.Received.{Received}
use Rattle.tcp_conn.specs.declared.outcome.Received.TheVariants.{Bytes, Nothing, EndOfStream}
use Rattle.tcp_conn.specs.declared.phase.Timer.{Timer}
use Rattle.tcp_conn.specs.declared.phase.Timer.TheVariants.{Retransmit, Reorder, TimeWait}
use Rattle.tcp_conn.specs.State.{State}
use Rattle.tcp_conn.specs.Calls.{received_bytes}
use Rattle.tcp_conn.specs.Timers.{timer_answer, after_timer}
use Rattle.tcp_c.specs.Answers.{done, no_timer, no_rule}

-- how many bytes `send` accepted
abbrev pub taken_count : Result ℕ CallError → ℕ
taken_count (Ok count) = count
taken_count (Err error) = 0

-- how many bytes `receive` delivered
abbrev pub received_count : Result Received CallError → ℕ
received_count (Ok (Bytes count)) = count
received_count (Ok Nothing) = 0
received_count (Ok EndOfStream) = 0
received_count (Err error) = 0

-- and the bytes, into a buffer of this length
abbrev pub handed_bytes : ℕ → Option State → List ℕ
handed_bytes room None = []
handed_bytes room (Some s) = received_bytes s room

-- the timer of a number
abbrev pub timer_of : ℕ → Option Timer
timer_of number =
    if number == 0 then Some Retransmit else (if number == 1 then Some Reorder else (if number == 2 then Some TimeWait else None))

abbrev pub timer_number : Option Timer → State → ℕ
timer_number None s = no_timer
timer_number (Some timer) s = if timer_answer s timer then done else no_rule

abbrev pub after_any_timer : Option Timer → State → State
after_any_timer None s = s
after_any_timer (Some timer) s = after_timer s timer

-- which timers have to run: the sum of 1 for Retransmit, 2 for Reorder and 4 for TimeWait
abbrev pub running_timers : State → ℕ
running_timers s =
    (if timer_answer s Retransmit then 1 else 0) + (if timer_answer s Reorder then 2 else 0) + (if timer_answer s TimeWait then 4 else 0)
