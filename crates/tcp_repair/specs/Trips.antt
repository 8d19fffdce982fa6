-- THE LEAST ROUND TRIP OF LATE (RFC 8985, 6.2, step 1), in microseconds: the standard asks for one of some window of time, and
-- leaves the window open. Here it is of two spans of 300 s, the one that has begun last and the one before it (own).
use Rattle.std.specs.Prelude.{ℕ, ◌+◌, ◌*◌, ◌||◌, nat_le, nat_lt, if◌then◌else◌, Option, Some, None}
use Rattle.tcp_driver.specs.Deadlines.{earlier}
use Rattle.tcp_repair.specs.declared.trips.LeastTrip.{LeastTrip}
use Rattle.tcp_repair.specs.declared.trips.LongestTrip.{LongestTrip}

abbrev pub span : ℕ
span = 300000000

abbrev pub no_trips : LeastTrip
no_trips = record { least = None; before = None; since = 0 }

-- where a span is over another one begins; the last one is forgotten where that is over, too
abbrev pub after_span : LeastTrip → ℕ → LeastTrip
after_span t now =
    if nat_le (t.since + span) now
    then record { least = None; before = if nat_le (t.since + 2 * span) now then None else t.least; since = now }
    else t

-- A ROUND TRIP WAS TOLD at a time
abbrev pub with_least : LeastTrip → ℕ → LeastTrip
with_least t trip = record t { least = earlier t.least (Some trip) }

abbrev pub after_trip : LeastTrip → ℕ → ℕ → LeastTrip
after_trip t trip now = with_least (after_span t now) trip

-- the least of both spans
abbrev pub least_of : LeastTrip → Option ℕ
least_of t = earlier t.least t.before

-- ---- THE LONGEST ROUND TRIP OF LATE (own): it stays for as long as it took, unless one that is no shorter comes; then the next one
-- that is measured takes its place. 0 before there is one
abbrev pub no_long_trip : LongestTrip
no_long_trip = record { trip = 0; at = 0 }

abbrev pub after_long_trip : LongestTrip → ℕ → ℕ → LongestTrip
after_long_trip l trip now = if nat_le l.trip trip || nat_lt (l.at + l.trip) now then record { trip = trip; at = now } else l
