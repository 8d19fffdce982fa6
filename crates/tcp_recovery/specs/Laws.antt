-- What follows of the stretches, whatever is called.
use Rattle.std.specs.Prelude.{◌≡◌, ℕ, suc, ◌+◌, ◌<◌, ◌≤◌, ◌⊎◌, ◌&&◌, nat_le, nat_lt, if◌then◌else◌, Bool, true, List, [], ◌∷◌, length, Option, Some, None, IsSome}
use Rattle.tcp_recovery.specs.declared.stretch.Stretch.{Stretch}
use Rattle.tcp_recovery.specs.declared.delivered.Delivered.{Delivered}
use Rattle.tcp_recovery.specs.Stretches.{AreInOrder, joined, max_stretches}
use Rattle.tcp_recovery.specs.declared.probe.Probe.{Probe}
use Rattle.tcp_recovery.specs.Delivered.{greatest}
use Rattle.tcp_recovery.specs.Probe.{after_ack, after_loss, after_measurement, after_probe, after_start, new_probe, without_probe}
use Rattle.tcp_recovery.specs.Rack.{deadline_of, is_lost, lost_in}
use Rattle.tcp_recovery.specs.History.{AreOrderly, Event, IsDelivered, IsIn, IsOutstanding, Received, Recovered, Sent, SentLast, Settled, flight_after}

-- a number that was sent last at a time is in one of these, whose times lie around that
abbrev pub Covers : ℕ → ℕ → List Stretch → Type 0
Covers number at [] = ⊥
Covers number at (s ∷ later) = (IsIn number s.start s.end × (s.first ≤ at) × (at ≤ s.last)) ⊎ Covers number at later

-- how many of these have a number
abbrev pub count_with : ℕ → List Stretch → ℕ
count_with number [] = 0
count_with number (s ∷ later) =
    if nat_le s.start number && nat_lt number s.end then suc (count_with number later) else count_with number later

-- EACH NUMBER THAT IS OUTSTANDING IS IN A STRETCH, AND IN ONE: they are in order, at most 64, and none has a number of
-- another one
pub record IsCovered (events : List Event) : Type 0 where
  pub order : AreInOrder 0 (flight_after events).next (flight_after events).stretches
  pub few : length (flight_after events).stretches ≤ max_stretches
  pub covered : (number at : ℕ) → IsOutstanding number at events → Covers number at (flight_after events).stretches
  pub once : (number at : ℕ) → IsOutstanding number at events → count_with number (flight_after events).stretches ≡ 1

abbrev pub StretchesCover : Type 0
StretchesCover = (events : List Event) → IsCovered events

-- SENT LATER, by time and then by position (RFC 8985, 6.2, step 2)
abbrev pub IsLater : ℕ → ℕ → ℕ → ℕ → Type 0
IsLater at number than than_number = (than < at) ⊎ ((than ≤ at) × (than_number < number))

-- something was delivered that had been sent later
pub record IsOvertaken (events : List Event) (number at : ℕ) : Type 0 where
  pub other : ℕ
  pub time : ℕ
  pub delivered : IsDelivered other time events
  pub later : IsLater time other at number

-- WHAT IS FOUND LOST IS OVERDUE (RFC 8985, 6.2, step 5): each of its numbers that is outstanding was sent last RACK.rtt
-- and the window ago, and something was delivered that was sent later
pub record IsOverdue (events : List Event) (window now number at : ℕ) : Type 0 where
  pub waited : at + (flight_after events).delivered.rtt + window ≤ now
  pub overtaken : IsOvertaken events number at

abbrev pub LossesAreOverdue : Type 0
LossesAreOverdue =
    (events : List Event) (window now start end number at : ℕ) → AreOrderly events
    → lost_in (flight_after events).delivered window now (flight_after events).stretches ≡ Some (start, end)
    → IsIn number start end → IsOutstanding number at events → IsOverdue events window now number at

-- each number that is reported as received took so long at least
abbrev pub AllTake : ℕ → List Event → Type 0
AllTake least [] = Unit {0}
AllTake least (Sent start count now min_rtt ∷ earlier) = AllTake least earlier
AllTake least (Received start end now min_rtt ∷ earlier) =
    ((number at : ℕ) → IsIn number start end → SentLast number at earlier → at + least ≤ now) × AllTake least earlier
AllTake least (Settled start end ∷ earlier) = AllTake least earlier
AllTake least (Recovered ∷ earlier) = AllTake least earlier

-- WHAT ISN'T LATE ISN'T LOST (RFC 8985, 6.2, step 5): where each number takes `least` to be reported, and less than
-- that and the window, nothing that is outstanding is found lost, in whatever order they come
abbrev pub JitterIsNoLoss : Type 0
JitterIsNoLoss =
    (events : List Event) (least window now start end number at : ℕ) → AreOrderly events → AllTake least events
    → ((number at : ℕ) → IsOutstanding number at events → now < at + least + window)
    → lost_in (flight_after events).delivered window now (flight_after events).stretches ≡ Some (start, end)
    → IsIn number start end → IsOutstanding number at events → ⊥

-- JOINING (own) FINDS NO LOSS EARLIER: where two joined stretches are lost, each of them is
abbrev pub JoiningIsNoLoss : Type 0
JoiningIsNoLoss =
    (d : Delivered) (window now : ℕ) (s next : Stretch) → s.end ≤ next.end → is_lost d window now (joined s next) ≡ true
    → (is_lost d window now s ≡ true) × (is_lost d window now next ≡ true)

-- THE DEADLINE IS WHEN THE NEXT ONE IS LOST (RFC 8985, 6.2, step 5): before it none is, from then on one is, below the
-- greatest time, and where there is none, none is lost
pub record IsDeadline (d : Delivered) (window now : ℕ) (all : List Stretch) : Type 0 where
  pub before : (time : ℕ) → deadline_of d window all ≡ Some time → now < time → lost_in d window now all ≡ None
  pub due : (time : ℕ) → deadline_of d window all ≡ Some time → time ≤ now → now < greatest → IsSome (lost_in d window now all)
  pub none : deadline_of d window all ≡ None → lost_in d window now all ≡ None

abbrev pub DeadlinesAreLosses : Type 0
DeadlinesAreLosses = (d : Delivered) (window now : ℕ) (all : List Stretch) → IsDeadline d window now all

-- ---- PROBES: what is called beside their sending
pub data ProbeCall : Type 0 where
  Starts : ℕ → Option ℕ → Bool → ℕ → ProbeCall
  Stops : ProbeCall
  Recovers : ProbeCall
  Measures : ProbeCall
  Acks : ℕ → Bool → ProbeCall

abbrev pub probe_next : Probe → ProbeCall → Probe
probe_next p (Starts now srtt is_one rto_at) = after_start p now srtt is_one rto_at
probe_next p Stops = without_probe p
probe_next p Recovers = after_loss p
probe_next p Measures = after_measurement p
probe_next p (Acks una both_came) = after_ack p una both_came

-- the newest comes first
abbrev pub probe_after : Probe → List ProbeCall → Probe
probe_after p [] = p
probe_after p (call ∷ earlier) = probe_next (probe_after p earlier) call

-- ONE PROBE FOR A TAIL (RFC 8985, 7.3): while one isn't all acknowledged, and no recovery begins, no other one waits
abbrev pub LeavesOut : ℕ → ProbeCall → Type 0
LeavesOut end (Starts now srtt is_one rto_at) = Unit {0}
LeavesOut end Stops = Unit {0}
LeavesOut end Recovers = ⊥
LeavesOut end Measures = Unit {0}
LeavesOut end (Acks una both_came) = una < end

abbrev pub AllLeaveOut : ℕ → List ProbeCall → Type 0
AllLeaveOut end [] = Unit {0}
AllLeaveOut end (call ∷ earlier) = LeavesOut end call × AllLeaveOut end earlier

abbrev pub OneProbeATail : Type 0
OneProbeATail =
    (p : Probe) (end : ℕ) (is_retrans : Bool) (calls : List ProbeCall) → AllLeaveOut end calls → (probe_after (after_probe p end is_retrans) calls).at ≡ None

-- NO PROBE BEFORE A MEASUREMENT (RFC 8985, 7.3): on a new connection, and behind each probe, none waits until a round
-- trip was measured
abbrev pub IsUnmeasured : ProbeCall → Type 0
IsUnmeasured (Starts now srtt is_one rto_at) = Unit {0}
IsUnmeasured Stops = Unit {0}
IsUnmeasured Recovers = Unit {0}
IsUnmeasured Measures = ⊥
IsUnmeasured (Acks una both_came) = Unit {0}

abbrev pub AreUnmeasured : List ProbeCall → Type 0
AreUnmeasured [] = Unit {0}
AreUnmeasured (call ∷ earlier) = IsUnmeasured call × AreUnmeasured earlier

abbrev pub ProbesAreMeasured : Type 0
ProbesAreMeasured =
    (calls : List ProbeCall) → AreUnmeasured calls
    → ((probe_after new_probe calls).at ≡ None)
    × ((p : Probe) (end : ℕ) (is_retrans : Bool) → (probe_after (after_probe p end is_retrans) calls).at ≡ None)
