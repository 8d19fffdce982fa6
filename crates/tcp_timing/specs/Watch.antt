-- Which round trips are measured (RFC 6298, 3): those of segments that were sent once.
use Rattle.std.specs.Prelude.{ℕ, zero, suc, ◌+◌, ◌-◌, max, nat_lt, nat_le, if◌then◌else◌, Option, Some, None}
use Rattle.tcp_timing.specs.declared.watch.Timed.{Timed}
use Rattle.tcp_timing.specs.declared.watch.Watch.{Watch}

abbrev pub new_watch : Watch
new_watch = record { highest = 0; timed = None }

-- new numbers are sent: they are timed unless others are
abbrev pub timed_or : Option Timed → ℕ → ℕ → Option Timed
timed_or (Some t) end now = Some t
timed_or None end now = Some (record { end = end; at = now })

-- a segment is sent that takes numbers from `start` up to `end`: where any was sent before, nothing is timed any more
abbrev pub after_numbers : Watch → ℕ → ℕ → ℕ → Watch
after_numbers w start end now = record {
  highest = max w.highest end;
  timed = if nat_lt start w.highest then None else timed_or w.timed end now;
}

-- a segment is sent that takes `count` numbers from `start` on
abbrev pub after_sent : Watch → ℕ → ℕ → ℕ → Watch
after_sent w start zero now = w
after_sent w start (suc n) now = after_numbers w start (start + suc n) now

-- all before una is acknowledged
abbrev pub sample_by : Option Timed → ℕ → ℕ → Option ℕ
sample_by None una now = None
sample_by (Some t) una now = if nat_le t.end una then Some (now - t.at) else None

abbrev pub sample_of : Watch → ℕ → ℕ → Option ℕ
sample_of w una now = sample_by w.timed una now

abbrev pub timed_after : Option Timed → ℕ → Option Timed
timed_after None una = None
timed_after (Some t) una = if nat_le t.end una then None else Some t

abbrev pub after_acked : Watch → ℕ → Watch
after_acked w una = record { highest = w.highest; timed = timed_after w.timed una }
