-- When what came is acknowledged (RFC 9293, 3.8.6.3; RFC 5681, 4.2), in bytes and microseconds.
use Rattle.std.specs.Prelude.{◌≡◌, ℕ, ◌+◌, ◌*◌, ◌<◌, ◌≤◌, min, Bool, true, false, nat_lt, nat_le, if◌then◌else◌, List, [], ◌∷◌, Option, Some, None}
use Rattle.tcp_congestion.specs.Sizes.{max_segment, latest}

pub record Waiting : Type 0 where
  -- RMSS, of a full segment
  pub rmss : ℕ
  -- how long an acknowledgement may wait
  pub delay : ℕ
  -- how much text came that isn't acknowledged, up to two full segments
  pub unacked : ℕ
  -- when the first of it came, where any did
  pub since : Option ℕ
  -- a segment came that has to be acknowledged at once
  pub is_urgent : Bool

-- less than 0.5 s (RFC 9293, 3.8.6.3)
abbrev pub max_delay : ℕ
max_delay = 500000

abbrev pub nothing_unacked : Waiting → Waiting
nothing_unacked w = record w { unacked = 0; since = None; is_urgent = false }

abbrev pub new_waiting : ℕ → ℕ → Waiting
new_waiting rmss delay = record { rmss = rmss; delay = delay; unacked = 0; since = None; is_urgent = false }

-- text waits from the first that came on
abbrev pub first_since : Option ℕ → ℕ → ℕ → Option ℕ
first_since (Some first) count now = Some first
first_since None count now = if nat_lt 0 count then Some now else None

-- A SEGMENT CAME with so much new text, in order or not, at a time
abbrev pub after_arrival : Waiting → ℕ → Bool → ℕ → Waiting
after_arrival w count at_once now = record w {
  unacked = min (2 * w.rmss) (w.unacked + count);
  since = first_since w.since count now;
  is_urgent = if at_once then true else w.is_urgent;
}

-- AN ACKNOWLEDGEMENT HAS TO GO OUT NOW: behind a segment that can't wait, or behind a second full one (RFC 5681, 4.2)
abbrev pub is_owed : Waiting → Bool
is_owed w = if w.is_urgent then true else nat_le (2 * w.rmss) w.unacked

abbrev pub after_delay : ℕ → Option ℕ → Option ℕ
after_delay delay None = None
after_delay delay (Some first) = Some (min latest (first + delay))

-- when one has to go out: at once, which 0 stands for, or once the first text has waited for the delay; never where nothing waits
abbrev pub deadline_of : Waiting → Option ℕ
deadline_of w = if is_owed w then Some 0 else after_delay w.delay w.since

abbrev pub is_past : Option ℕ → ℕ → Bool
is_past None now = false
is_past (Some at) now = nat_le at now

abbrev pub is_due : Waiting → ℕ → Bool
is_due w now = is_past (deadline_of w) now

-- ---- over many arrivals
pub record Arrival : Type 0 where
  pub count : ℕ
  pub at_once : Bool
  pub now : ℕ

-- these came one after another, the newest of which comes first
abbrev pub after_arrivals : Waiting → List Arrival → Waiting
after_arrivals w [] = w
after_arrivals w (a ∷ earlier) = after_arrival (after_arrivals w earlier) a.count a.at_once a.now

abbrev pub text_of : List Arrival → ℕ
text_of [] = 0
text_of (a ∷ earlier) = a.count + text_of earlier

-- NO ACKNOWLEDGEMENT IS LATE, whatever comes after the one before: with a second full segment's text it is due at once, and so it is
-- behind a segment that can't wait (RFC 5681, 4.2); and 500 ms after the first text came at most (RFC 9293, 3.8.6.3)
pub record IsAcknowledgedInTime (w : Waiting) (arrivals : List Arrival) : Type 0 where
  pub second : (now : ℕ) → 2 * w.rmss ≤ text_of arrivals → is_due (after_arrivals (nothing_unacked w) arrivals) now ≡ true
  pub urgent :
      (count at now : ℕ) (later : List Arrival)
      → is_due (after_arrivals (after_arrival (after_arrivals (nothing_unacked w) arrivals) count true at) later) now ≡ true
  pub delayed :
      (count at now : ℕ) (at_once : Bool) → 0 < count → w.delay < max_delay → at + max_delay ≤ now
      → is_due (after_arrivals (after_arrival (nothing_unacked w) count at_once at) arrivals) now ≡ true

abbrev pub NoAcknowledgementIsLate : Type 0
NoAcknowledgementIsLate = (w : Waiting) (arrivals : List Arrival) → IsAcknowledgedInTime w arrivals

-- ---- what always holds
pub record IsWaiting (w : Waiting) : Type 0 where
  pub positive : 0 < w.rmss
  pub fits : w.rmss ≤ max_segment
  pub short : w.delay < max_delay
  pub most : w.unacked ≤ 2 * w.rmss
