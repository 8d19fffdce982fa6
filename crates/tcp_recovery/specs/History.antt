-- What happened to numbers, over lists of calls, the newest of which comes first.
use Rattle.std.specs.Prelude.{◌≡◌, ℕ, ◌+◌, ◌<◌, ◌≤◌, ◌⊎◌, List, [], ◌∷◌}
use Rattle.tcp_recovery.specs.Rack.{Flight, new_flight, after_received, after_recovered, after_sent, after_settled}

pub data Event : Type 0 where
  -- a segment of so many numbers from a position on was sent at a time, while this was the least round trip
  Sent : ℕ → ℕ → ℕ → ℕ → Event
  -- the numbers from one position on and before another were reported as received
  Received : ℕ → ℕ → ℕ → ℕ → Event
  -- they had come before
  Settled : ℕ → ℕ → Event
  -- a recovery was over
  Recovered : Event

abbrev pub flight_next : Flight → Event → Flight
flight_next f (Sent start count now min_rtt) = after_sent f start count now min_rtt
flight_next f (Received start end now min_rtt) = after_received f start end now min_rtt
flight_next f (Settled start end) = after_settled f start end
flight_next f Recovered = after_recovered f

abbrev pub flight_after : List Event → Flight
flight_after [] = new_flight
flight_after (event ∷ earlier) = flight_next (flight_after earlier) event

-- a number is among those from one position on and before another, or isn't
abbrev pub IsIn : ℕ → ℕ → ℕ → Type 0
IsIn number start end = (start ≤ number) × (number < end)

abbrev pub IsOut : ℕ → ℕ → ℕ → Type 0
IsOut number start end = (number < start) ⊎ (end ≤ number)

-- SENT LAST at a time: Segment.xmit_ts (RFC 8985, 5.2)
abbrev pub SentLast : ℕ → ℕ → List Event → Type 0
SentLast number at [] = ⊥
SentLast number at (Sent start count now min_rtt ∷ earlier) =
    (IsIn number start (start + count) × (now ≡ at)) ⊎ (IsOut number start (start + count) × SentLast number at earlier)
SentLast number at (Received start end now min_rtt ∷ earlier) = SentLast number at earlier
SentLast number at (Settled start end ∷ earlier) = SentLast number at earlier
SentLast number at (Recovered ∷ earlier) = SentLast number at earlier

-- OUTSTANDING (RFC 8985, 5.2): sent last at a time, and not reported as received since
abbrev pub IsOutstanding : ℕ → ℕ → List Event → Type 0
IsOutstanding number at [] = ⊥
IsOutstanding number at (Sent start count now min_rtt ∷ earlier) =
    (IsIn number start (start + count) × (now ≡ at)) ⊎ (IsOut number start (start + count) × IsOutstanding number at earlier)
IsOutstanding number at (Received start end now min_rtt ∷ earlier) = IsOut number start end × IsOutstanding number at earlier
IsOutstanding number at (Settled start end ∷ earlier) = IsOut number start end × IsOutstanding number at earlier
IsOutstanding number at (Recovered ∷ earlier) = IsOutstanding number at earlier

-- DELIVERED (RFC 8985, 6.2, step 2): reported as received, when it had been sent last at a time
abbrev pub IsDelivered : ℕ → ℕ → List Event → Type 0
IsDelivered number at [] = ⊥
IsDelivered number at (Sent start count now min_rtt ∷ earlier) = IsDelivered number at earlier
IsDelivered number at (Received start end now min_rtt ∷ earlier) =
    (IsIn number start end × SentLast number at earlier) ⊎ IsDelivered number at earlier
IsDelivered number at (Settled start end ∷ earlier) = IsDelivered number at earlier
IsDelivered number at (Recovered ∷ earlier) = IsDelivered number at earlier

-- time doesn't go back, and new text is sent in order: it begins where what was sent before ends
abbrev pub IsNotBefore : ℕ → List Event → Type 0
IsNotBefore now [] = Unit {0}
IsNotBefore now (Sent start count time min_rtt ∷ earlier) = (time ≤ now) × IsNotBefore now earlier
IsNotBefore now (Received start end time min_rtt ∷ earlier) = IsNotBefore now earlier
IsNotBefore now (Settled start end ∷ earlier) = IsNotBefore now earlier
IsNotBefore now (Recovered ∷ earlier) = IsNotBefore now earlier

abbrev pub AreOrderly : List Event → Type 0
AreOrderly [] = Unit {0}
AreOrderly (Sent start count now min_rtt ∷ earlier) =
    (start ≤ (flight_after earlier).next) × IsNotBefore now earlier × AreOrderly earlier
AreOrderly (Received start end now min_rtt ∷ earlier) = AreOrderly earlier
AreOrderly (Settled start end ∷ earlier) = AreOrderly earlier
AreOrderly (Recovered ∷ earlier) = AreOrderly earlier
