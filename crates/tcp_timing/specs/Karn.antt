-- KARN'S ALGORITHM (RFC 6298, 3): no round trip is measured of a segment that was sent again, whatever is sent and acknowledged.
use Rattle.std.specs.Prelude.{◌≡◌, ℕ, ◌+◌, ◌-◌, ◌<◌, ◌≤◌, ◌⊎◌, List, [], ◌∷◌, Some}
use Rattle.tcp_timing.specs.declared.watch.Watch.{Watch}
use Rattle.tcp_timing.specs.Watch.{new_watch, after_sent, after_acked, sample_of}

pub data Event : Type 0 where
  -- a segment of so many numbers from a position on was sent at a time
  Sent : ℕ → ℕ → ℕ → Event
  -- all before a position was acknowledged
  Acked : ℕ → Event

abbrev pub watch_next : Watch → Event → Watch
watch_next w (Sent start count now) = after_sent w start count now
watch_next w (Acked una) = after_acked w una

-- the watch after these events, the newest of which comes first
abbrev pub watch_after : List Event → Watch
watch_after [] = new_watch
watch_after (event ∷ earlier) = watch_next (watch_after earlier) event

-- a segment has no number from a position on: it has none, or ends there at most
abbrev pub EndsBefore : ℕ → Event → Type 0
EndsBefore position (Sent start count now) = (count ≡ 0) ⊎ (start + count ≤ position)
EndsBefore position (Acked una) = Unit {0}

abbrev pub AllEndBefore : ℕ → List Event → Type 0
AllEndBefore position [] = Unit {0}
AllEndBefore position (event ∷ earlier) = EndsBefore position event × AllEndBefore position earlier

-- SENT ONCE AND NOT ACKNOWLEDGED: one of these events is that a segment which ends at `end` was sent at `at`. None before it has a
-- number from its start on, and since then none has a number before its end, and nothing acknowledged all of it
abbrev pub SentOnce : ℕ → ℕ → List Event → Type 0
SentOnce end at [] = ⊥
SentOnce end at (Acked una ∷ earlier) = (una < end) × SentOnce end at earlier
SentOnce end at (Sent start count now ∷ earlier) =
    ((0 < count) × (start + count ≡ end) × (now ≡ at) × AllEndBefore start earlier)
    ⊎ (((count ≡ 0) ⊎ (end ≤ start)) × SentOnce end at earlier)

-- where a round trip is measured, after any events, it is the time since a segment was sent which was sent once, wasn't
-- acknowledged before, and is acknowledged now
pub record Measures (events : List Event) (una now r : ℕ) : Type 0 where
  pub end : ℕ
  pub at : ℕ
  pub once : SentOnce end at events
  pub acknowledged : end ≤ una
  pub time : r ≡ now - at

abbrev pub KarnsRule : Type 0
KarnsRule = (events : List Event) (una now r : ℕ) → sample_of (watch_after events) una now ≡ Some r → Measures events una now r
