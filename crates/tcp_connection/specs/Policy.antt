-- What waits, and how long, in whole microseconds (RFC 9293, 3.7.4 and 3.8.6; RFC 5961, 7).
use Rattle.std.specs.Prelude.{ℕ, ◌-◌, nat_lt, Bool, true, false, ◌||◌, Option, Some, None, is_some, max, min, unwrap_or}
use Rattle.tcp_congestion.specs.DelayedAck.{Waiting, max_delay, new_waiting}
use Rattle.tcp_congestion.specs.SwsAvoidance.{Sender, new_sender}
use Rattle.tcp_connection.specs.declared.policy.Policy.{Policy}

-- nothing waits, and all is answered
abbrev pub immediate : Policy
immediate = record { ack_delay = 0; is_nagle = false; override_timeout = None; answer_interval = 0 }

-- an acknowledgement waits for 40 ms, text that isn't worth a segment for 0.5 s, with the Nagle algorithm, and what brings
-- nothing is answered twice in a second
abbrev pub standard : Policy
standard = record { ack_delay = 40000; is_nagle = true; override_timeout = Some 500000; answer_interval = 500000 }

abbrev pub holds_any : Policy → Bool
holds_any n = nat_lt 0 n.ack_delay || (is_some n.override_timeout || nat_lt 0 n.answer_interval)

-- an acknowledgement waits for less than 0.5 s, whatever is asked (RFC 9293, 3.8.6.3)
abbrev pub delay_of : Policy → ℕ
delay_of n = min n.ack_delay (max_delay - 1)

-- and text for some time
abbrev pub timeout_of : Policy → ℕ
timeout_of n = max 1 (unwrap_or n.override_timeout 1)

-- nothing waits yet, of full segments of so many bytes
abbrev pub no_ack : Policy → ℕ → Waiting
no_ack n smss = new_waiting smss (delay_of n)

abbrev pub no_text : Policy → ℕ → Sender
no_text n smss = new_sender smss n.is_nagle (timeout_of n)
