-- WHAT GOES OUT WITHIN A WINDOW that the caller sets, as congestion control does (RFC 5681, 3.1). It counts from SND.UNA.
use Rattle.std.specs.Prelude.{ℕ, ◌-◌, nat_lt, Bool, ◌&&◌, ◌||◌, if◌then◌else◌, List, Option, Some, None, is_some, option_map}
use Rattle.tcp_conn.specs.declared.emit.due.Due.{Due}
use Rattle.tcp_conn.specs.declared.emit.transmit.Transmit.{Transmit}
use Rattle.tcp_conn.specs.Due.{ack_alone, due_of, end_of, start_of}
use Rattle.tcp_conn.specs.Emission.{after_due, buffer_with}
use Rattle.tcp_conn.specs.State.{State, Sending}
use Rattle.tcp_conn.specs.Transmission.{transmit_of}

-- what ends past the window waits, unless it begins at SND.UNA: so a window that is too small for one segment still takes one
abbrev pub is_past : Sending → ℕ → Due → Bool
is_past s window due =
    nat_lt s.snd_una (start_of s due) && nat_lt (window - (start_of s due - s.snd_una)) (end_of s due - start_of s due)

-- what goes out again begins before SND.NXT
abbrev pub goes_back : Sending → Due → Bool
goes_back s due = nat_lt (start_of s due - s.snd_una) (s.snd_nxt - s.snd_una)

-- it waits for a pending acknowledgement, too, which then goes out at SND.NXT, where no peer finds it old (RFC 9293, 3.10.7.4)
abbrev pub waits : State → ℕ → Due → Bool
waits s window due = is_past s.sending window due || (is_some (ack_alone s) && goes_back s.sending due)

-- where what is due waits, a pending acknowledgement goes alone (RFC 9293, 3.8.6.3)
abbrev pub due_or_ack : State → ℕ → Option Due → Option Due
due_or_ack s window None = None
due_or_ack s window (Some due) = if waits s window due then ack_alone s else Some due

unfoldable pub due_within : State → ℕ → Option Due
due_within s window = due_or_ack s window (due_of s)

-- WHAT IS REPORTED OF IT, what the buffer contains, and the end after it
unfoldable pub transmit_within : State → ℕ → Option Transmit
transmit_within s window = option_map (transmit_of s) (due_within s window)

unfoldable pub buffer_within : State → ℕ → List ℕ → List ℕ
buffer_within s window out = buffer_with s (due_within s window) out

unfoldable pub after_within : State → ℕ → State
after_within s window = after_due s (due_within s window)
