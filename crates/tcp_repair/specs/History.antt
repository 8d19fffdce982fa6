-- THE RACK IS TOLD THE TRUTH IN ORDER: whatever is called, time doesn't go back, and new text is sent in order, so that what
-- tcp_recovery's laws say of such events holds of what a recovery finds (RFC 8985, 6.2).
use Rattle.std.specs.Prelude.{◌≡◌, ℕ, ◌<◌, ◌≤◌, List, Some}
use Rattle.tcp_driver.specs.Deadlines.{last}
use Rattle.tcp_recovery.specs.History.{AreOrderly, Event, IsIn, IsNotBefore, IsOutstanding, flight_after}
use Rattle.tcp_recovery.specs.Laws.{IsOverdue}
use Rattle.tcp_recovery.specs.Rack.{Flight}
use Rattle.tcp_repair.specs.declared.seen.Seen.{Seen}
use Rattle.tcp_repair.specs.Recovery.{Repair, lost_at, window_of}

-- a rack, and the time of the last call
pub record Clocked : Type 0 where
  pub rack : Flight
  pub clock : ℕ

-- it is as after events in order, none of which was later than the last call; and that was at a time that is one: 0 stands for one
-- that isn't known
pub record IsTruthful (t : Clocked) : Type 0 where
  pub known : 0 < t.clock
  pub most : t.clock ≤ last
  pub events : List Event
  pub same : t.rack ≡ flight_after events
  pub orderly : AreOrderly events
  pub timely : IsNotBefore t.clock events

-- ---- WHAT IS FOUND LOST IS OVERDUE (RFC 8985, 6.2, step 5): each of its numbers that is outstanding was sent last RACK.rtt and the
-- reordering window ago, and something was delivered that was sent later
pub record LossesAreOverdue (r : Repair) : Type 0 where
  pub events : List Event
  pub same : r.rack ≡ flight_after events
  pub orderly : AreOrderly events
  pub overdue : (s : Seen) (now start end number at : ℕ) → lost_at r s now ≡ Some (start, end) → IsIn number start end → IsOutstanding number at events
      → IsOverdue events (window_of r s) now number at
