-- The retransmission timeout, RTO (RFC 6298, 2 and 5), in whole microseconds.
use Rattle.std.specs.Prelude.{ℕ, ◌+◌, ◌*◌, ◌≤◌, min, max, nat_lt, if◌then◌else◌, Option, Some, None}
use Rattle.tcp_timing.specs.declared.rules.Rules.{Rules}
use Rattle.tcp_timing.specs.declared.round_trip.RoundTrip.{RoundTrip}
use Rattle.tcp_timing.specs.Rules.{longest, IsSound}
use Rattle.tcp_timing.specs.RoundTrip.{trip_after}

pub record Estimate : Type 0 where
  pub rules : Rules
  -- SRTT and RTTVAR, once a round trip was measured
  pub trip : Option RoundTrip
  pub rto : ℕ

-- within the bounds (2.4 and 2.5)
abbrev pub bounded : Rules → ℕ → ℕ
bounded rules time = min rules.greatest (max rules.least time)

-- RTO <- SRTT + max (G, K * RTTVAR), where K is 4 (2.2 and 2.3)
abbrev pub timeout : Rules → RoundTrip → ℕ
timeout rules t = bounded rules (t.srtt + max rules.granularity (4 * t.rttvar))

-- before any measurement (2.1)
abbrev pub new_estimate : Rules → Estimate
new_estimate rules = record { rules = rules; trip = None; rto = bounded rules rules.first }

abbrev pub with_trip : Estimate → RoundTrip → Estimate
with_trip e t = record { rules = e.rules; trip = Some t; rto = timeout e.rules t }

-- a round trip of r was measured
abbrev pub after_sample : Estimate → ℕ → Estimate
after_sample e r = with_trip e (trip_after e.trip (min longest r))

-- the timer has expired (5.5): RTO <- RTO * 2, and the greatest at most
abbrev pub after_back_off : Estimate → Estimate
after_back_off e = record { rules = e.rules; trip = e.trip; rto = min e.rules.greatest (2 * e.rto) }

-- the peer has answered, and what it let expire were probes of its shut window (RFC 9293, 3.8.6.1): the timeout is again what
-- was measured (2.3), if anything was
abbrev pub timeout_or : Rules → Option RoundTrip → ℕ → ℕ
timeout_or rules None rto = rto
timeout_or rules (Some t) rto = timeout rules t

abbrev pub without_back_off : Estimate → Estimate
without_back_off e = record { rules = e.rules; trip = e.trip; rto = timeout_or e.rules e.trip e.rto }

-- data begin behind a SYN that was sent again (5.7): where the first timeout is below 3 s it is re-initialized to 3 s
abbrev pub after_syn_resent : Estimate → Estimate
after_syn_resent e = record {
  rules = e.rules;
  trip = e.trip;
  rto = if nat_lt e.rules.first e.rules.after_syn then bounded e.rules e.rules.after_syn else e.rto;
}

-- ---- what always holds: sound rules, and a timeout within the bounds
pub record IsBounded (e : Estimate) : Type 0 where
  pub sound : IsSound e.rules
  pub least : e.rules.least ≤ e.rto
  pub most : e.rto ≤ e.rules.greatest

-- and what was measured is short enough that no sum overflows
abbrev pub IsShort : Option RoundTrip → Type 0
IsShort None = Unit {0}
IsShort (Some t) = (t.srtt ≤ longest) × (t.rttvar ≤ longest)
