-- What a sender that paces what it sends again asks of an end: an acknowledgement alone (RFC 9293, 3.8.6.3), into a buffer of any
-- length, where it wants at least so many bytes; and the first segment alone again (RFC 5681, 3.2; RFC 6582, 3.2), or any stretch (RFC
-- 6675, 5).
use Rattle.std.specs.Prelude.{ℕ, nat_lt, if◌then◌else◌, List, length, is_some, unwrap_or, Option, Some, None}
use Rattle.tcp_conn.specs.State.{State}
use Rattle.tcp_conn.specs.Emission.{ack_alone_length, ack_alone_destination, buffer_after_ack_alone, after_ack_alone}
use Rattle.tcp_conn.specs.Timers.{resends_between, sends_again}
use Rattle.tcp_c.specs.Answers.{done, little_room, no_rule, nothing_due}
use Rattle.tcp_c.specs.Segments.{nowhere}

abbrev pub ack_number : ℕ → ℕ → State → ℕ
ack_number least room s = if nat_lt room least then little_room else (if is_some (ack_alone_length s) then done else nothing_due)

abbrev pub after_ack_within : ℕ → ℕ → State → State
after_ack_within least room s = if nat_lt room least then s else after_ack_alone s

-- its length
abbrev pub ack_length : ℕ → ℕ → State → ℕ
ack_length least room s = if nat_lt room least then 0 else unwrap_or (ack_alone_length s) 0

-- where it goes
abbrev pub ack_destination : ℕ → ℕ → Option State → List ℕ
ack_destination least room None = nowhere
ack_destination least room (Some s) = if nat_lt room least then nowhere else unwrap_or (ack_alone_destination s) nowhere

-- what the buffer holds afterwards
abbrev pub ack_buffer : ℕ → List ℕ → Option State → List ℕ
ack_buffer least out None = out
ack_buffer least out (Some s) = if nat_lt (length out) least then out else buffer_after_ack_alone s out

-- whether anything is in flight
abbrev pub resend_number : State → ℕ
resend_number s = if sends_again s then done else no_rule

-- whether anything in flight lies between two positions
abbrev pub stretch_number : ℕ → ℕ → State → ℕ
stretch_number from to s = if resends_between s from to then done else no_rule
