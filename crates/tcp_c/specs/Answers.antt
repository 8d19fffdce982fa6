-- The table of answers, one for all calls. A refusal of the end has its own number: 1 to 6 for bytes that are no segment, 11
-- to 16 for a call, 21 to 25 for a config.
use Rattle.std.specs.Prelude.{ℕ, if◌then◌else◌, is_some, Option, Some, None, Result, Ok, Err}
use Rattle.tcp_wire.specs.Refusals.{decode_error_number}
use Rattle.tcp_conn.specs.declared.outcome.CallError.{CallError}
use Rattle.tcp_conn.specs.declared.outcome.Received.{Received}
use Rattle.tcp_conn.specs.declared.outcome.Received.TheVariants.{Bytes, Nothing, EndOfStream}
use Rattle.tcp_conn.specs.declared.outcome.Arrival.{Arrival}
use Rattle.tcp_conn.specs.declared.outcome.Arrival.TheVariants.{Malformed, NotMine, Dropped, Processed}
use Rattle.tcp_conn.specs.Outcome.{call_error_number}

-- the call did its task
abbrev pub done : ℕ
done = 0

-- the number of runs is above the greatest
abbrev pub bad_runs : ℕ
bad_runs = 28

-- no timeout can be made from the rules
abbrev pub bad_rules : ℕ
bad_rules = 29

-- the handle has no end
abbrev pub no_end : ℕ
no_end = 31

-- the handle has an end already
abbrev pub in_use : ℕ
in_use = 32

-- less room than a segment may take
abbrev pub little_room : ℕ
little_room = 33

-- no timer has this number
abbrev pub no_timer : ℕ
no_timer = 34

-- the fields are those of no TIME-WAIT record
abbrev pub no_time_wait : ℕ
no_time_wait = 39

-- no byte is unread, and more may come
abbrev pub nothing_unread : ℕ
nothing_unread = 51

-- the peer closed, and all its bytes were delivered
abbrev pub end_of_stream : ℕ
end_of_stream = 52

-- no segment is due
abbrev pub nothing_due : ℕ
nothing_due = 53

-- the answer of a call that writes or reports the segment that is due, of which it found this
abbrev pub due_number : {A : Type 0} → Option A → ℕ
due_number found = if is_some found then done else nothing_due

-- the timer's rule doesn't apply
abbrev pub no_rule : ℕ
no_rule = 54

-- the segment was dropped
abbrev pub segment_dropped : ℕ
segment_dropped = 55

-- the segment is for another end, or from another peer
abbrev pub segment_not_mine : ℕ
segment_not_mine = 56

-- the end isn't in TIME-WAIT, or has bytes unread
abbrev pub not_time_wait : ℕ
not_time_wait = 57

-- a timer has expired, and what is due then goes out first
abbrev pub emit_first : ℕ
emit_first = 58

-- the segment is a reset that counts as lost
abbrev pub withheld : ℕ
withheld = 59

-- a host has somebody under these values already
abbrev pub taken : ℕ
taken = 60

-- the end, or the listener, of this name is gone
abbrev pub gone : ℕ
gone = 61

-- the listener has as many ends in its backlog as it may
abbrev pub backlog_full : ℕ
backlog_full = 62

-- nobody waits, or is due
abbrev pub nobody : ℕ
nobody = 63

-- the answer of a call: of the end in the handle, or that there is none
abbrev pub answer_of : {S : Type 0} → (S → ℕ) → Option S → ℕ
answer_of answer None = no_end
answer_of answer (Some s) = answer s

-- a number of the end in the handle; 0 where there is none
abbrev pub number_written : {S : Type 0} → (S → ℕ) → Option S → ℕ
number_written number None = 0
number_written number (Some s) = number s

abbrev pub call_number : {A : Type 0} → Result A CallError → ℕ
call_number (Ok value) = done
call_number (Err error) = call_error_number error

abbrev pub received_number : Result Received CallError → ℕ
received_number (Ok (Bytes count)) = done
received_number (Ok Nothing) = nothing_unread
received_number (Ok EndOfStream) = end_of_stream
received_number (Err error) = call_error_number error

abbrev pub arrival_number : Arrival → ℕ
arrival_number Processed = done
arrival_number Dropped = segment_dropped
arrival_number NotMine = segment_not_mine
arrival_number (Malformed fault) = decode_error_number fault
