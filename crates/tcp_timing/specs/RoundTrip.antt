-- SRTT and RTTVAR (RFC 6298, 2), in whole microseconds: the rest of a division is dropped.
use Rattle.std.specs.Prelude.{ℕ, ◌+◌, ◌-◌, ◌*◌, ◌/◌, Option, Some, None}
use Rattle.tcp_timing.specs.declared.round_trip.RoundTrip.{RoundTrip}

-- |a - b|
abbrev pub distance : ℕ → ℕ → ℕ
distance a b = (a - b) + (b - a)

-- the first measurement, R (2.2): SRTT <- R, RTTVAR <- R / 2
abbrev pub first_trip : ℕ → RoundTrip
first_trip r = record { srtt = r; rttvar = r / 2 }

-- one more, R' (2.3): RTTVAR <- (1 - beta) * RTTVAR + beta * |SRTT - R'| with the SRTT before, and
-- SRTT <- (1 - alpha) * SRTT + alpha * R', where alpha is 1/8 and beta is 1/4
abbrev pub next_trip : RoundTrip → ℕ → RoundTrip
next_trip t r = record { srtt = (7 * t.srtt + r) / 8; rttvar = (3 * t.rttvar + distance t.srtt r) / 4 }

abbrev pub trip_after : Option RoundTrip → ℕ → RoundTrip
trip_after None r = first_trip r
trip_after (Some t) r = next_trip t r
