-- When a timer expires (RFC 6298, 5.1 to 5.3).
use Rattle.std.specs.Prelude.{ℕ, ◌^◌, Bool, true, false, not, min, nat_le, if◌then◌else◌, Option, Some, None, is_some}
use Rattle.tcp_driver.specs.declared.deadlines.Deadlines.{Deadlines}
use Rattle.tcp_driver.specs.declared.machine.Timer.{Timer}
use Rattle.tcp_driver.specs.declared.machine.Timer.TheVariants.{Retransmit, Reorder, TimeWait, User}

-- the last time
abbrev pub last : ℕ
last = 2 ^ 62

-- the time that was set, unless it is to be set anew
abbrev pub kept_or : Bool → Option ℕ → ℕ → Option ℕ
kept_or true (Some time) new = Some time
kept_or same before new = Some new

-- A TIME IS KEPT while its timer runs and nothing starts it anew
abbrev pub kept : Bool → Bool → Option ℕ → ℕ → Option ℕ
kept runs same before new = if runs then kept_or same before new else None

-- so it is what it has to be already where it is set while its timer runs, and else isn't
abbrev pub is_kept : Bool → Option ℕ → Bool
is_kept runs before = if runs then is_some before else not (is_some before)

abbrev pub no_deadlines : Deadlines
no_deadlines = record { retransmit = None; reorder = None; time_wait = None }

abbrev pub without : Deadlines → Timer → Deadlines
without d Retransmit = record d { retransmit = None }
without d Reorder = record d { reorder = None }
without d TimeWait = record d { time_wait = None }
without d User = d

-- there is a deadline, and it isn't after now
abbrev pub no_later : Option ℕ → ℕ → Bool
no_later None now = false
no_later (Some time) now = nat_le time now

-- the earlier of two
abbrev pub earlier : Option ℕ → Option ℕ → Option ℕ
earlier None b = b
earlier (Some a) None = Some a
earlier (Some a) (Some b) = Some (min a b)

abbrev pub soonest : Deadlines → Option ℕ
soonest d = earlier d.retransmit (earlier d.reorder d.time_wait)
