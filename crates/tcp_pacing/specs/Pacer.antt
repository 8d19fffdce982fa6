-- How much new text may go out, and when more may (RFC 9002, 7.7).
use Rattle.std.specs.Prelude.{ℕ, ◌+◌, ◌-◌, ◌^◌, min, Bool, true, false, nat_lt, nat_le, if◌then◌else◌, Option, Some, None}
use Rattle.tcp_pacing.specs.declared.pace.Pace.{Pace}
use Rattle.tcp_pacing.specs.Pace.{interval, portion}

pub record Pacing : Type 0 where
  pub is_on : Bool
  -- new text waits
  pub is_held : Bool
  -- when the next portion begins, at the earliest
  pub next_at : ℕ
  -- what didn't go out of this one
  pub left : ℕ

-- no time is later, and no count is greater
abbrev pub latest : ℕ
latest = 2 ^ 64 - 1

abbrev pub unbounded : ℕ
unbounded = 2 ^ 64 - 1

abbrev pub off : Pacing
off = record { is_on = false; is_held = false; next_at = 0; left = 0 }

-- on, before the first portion
abbrev pub started : Pacing
started = record { is_on = true; is_held = false; next_at = 0; left = 0 }

abbrev pub after_set : Pacing → Bool → Pacing
after_set p false = off
after_set p true = if p.is_on then p else started

-- without a round trip there is no rate
abbrev pub is_paced : Pacing → Pace → Bool
is_paced p pace = if p.is_on then nat_lt 0 pace.srtt else false

-- A PORTION BEGINS where its time has come
abbrev pub begins : Pacing → ℕ → Pace → Bool
begins p now pace = if is_paced p pace then nat_le p.next_at now else false

-- and the next one where it is over
abbrev pub with_portion : Pacing → ℕ → Pace → Pacing
with_portion p now pace = record p { next_at = min latest (now + interval pace); left = portion pace }

abbrev pub after_asked : Pacing → ℕ → Pace → Pacing
after_asked p now pace = if begins p now pace then with_portion p now pace else p

-- ALLOWED is what is left of the portion
abbrev pub allowed : Pacing → ℕ → Pace → ℕ
allowed p now pace = if is_paced p pace then (after_asked p now pace).left else unbounded

abbrev pub after_went : Pacing → ℕ → Pacing
after_went p count = record p { left = p.left - count }

abbrev pub with_held : Pacing → Bool → Pacing
with_held p is_held = record p { is_held = is_held }

-- when there is more, where text waits for it
abbrev pub poll_at : Pacing → Option ℕ
poll_at p = if p.is_on then (if p.is_held then Some p.next_at else None) else None
