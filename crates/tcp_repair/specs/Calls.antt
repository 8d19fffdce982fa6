-- The calls of a connection with a recovery as calls of its connection.
use Rattle.std.specs.Prelude.{◌≡◌, ℕ, Bool, false, true, List, [], ◌∷◌, Option, Some, None}
use Rattle.tcp_congestion.specs.Control.{Control}
use Rattle.tcp_driver.specs.declared.machine.Report.{Report}
use Rattle.tcp_driver.specs.Machine.{Machine}
use Rattle.tcp_connection.specs.Calls.{ConnectionCall, Arrives, Emits, EmitsAsOne, LosesOne, MeasuresTrip, SetsPatience, Ticks, Uses, after_connection_call}
use Rattle.tcp_connection.specs.Connection as connection
use Rattle.tcp_connection.specs.Connection.{Connecting, core_of, reported}
use Rattle.tcp_connection.specs.Insight.{Insight}
use Rattle.tcp_flow.specs.declared.loss.Loss.{Loss}
use Rattle.tcp_repair.specs.declared.seen.Again.{Again}
use Rattle.tcp_repair.specs.Arrival.{trip_by}
use Rattle.tcp_repair.specs.Recovery.{Repair, at_time}
use Rattle.tcp_repair.specs.Repairing.{Repaired, after_arriving, after_emit, after_own, after_tick, after_train, again_in, before_in, repaired_if, repairs_by, seen_in, told_of, with_recovery}
use Rattle.tcp_repair.specs.Reports.{Reports}

-- what is called, as of a connection: an arrival, an emission, one of segments as one, and time; a recovery that takes over; and any
-- other call, which is the connection's alone
pub data RepairCall (S W : Type 0) : Type 0 where
  Comes : ℕ → List ℕ → List ℕ → List ℕ → Bool → RepairCall S W
  Goes : ℕ → ℕ → RepairCall S W
  GoesAsOne : ℕ → ℕ → ℕ → ℕ → RepairCall S W
  Passes : ℕ → RepairCall S W
  Recovers : ℕ → RepairCall S W
  Calls : ConnectionCall S W → RepairCall S W

abbrev pub after_repair_call : {S W T : Type 0} → Machine S → Insight S → (S → Option ℕ) → (S → ℕ → ℕ → ℕ → Option T) → (T → ℕ) → (T → ℕ) → Control W → Reports S → Repaired S W → RepairCall S W → Repaired S W
after_repair_call m i smss_of answer start_of numbers_of c b w (Comes now src dst bytes vouched) = after_arriving m i smss_of c b w now src dst bytes vouched
after_repair_call m i smss_of answer start_of numbers_of c b w (Goes now window) = after_emit m i smss_of c b w now window
after_repair_call m i smss_of answer start_of numbers_of c b w (GoesAsOne now window most room) =
    after_train m i smss_of answer start_of numbers_of c b w now window most room
after_repair_call m i smss_of answer start_of numbers_of c b w (Passes now) = after_tick m smss_of c b w now
after_repair_call m i smss_of answer start_of numbers_of c b w (Recovers now) = with_recovery m smss_of b w now
after_repair_call m i smss_of answer start_of numbers_of c b w (Calls call) = after_own w (after_connection_call m i smss_of c w.connecting call)

-- calls of a connection, THE NEWEST FIRST
abbrev pub after_connection_calls : {S W : Type 0} → Machine S → Insight S → (S → Option ℕ) → Control W → Connecting S W → List (ConnectionCall S W) → Connecting S W
after_connection_calls m i smss_of c k [] = k
after_connection_calls m i smss_of c k (call ∷ earlier) = after_connection_call m i smss_of c (after_connection_calls m i smss_of c k earlier) call

-- a loss is told to the congestion window
abbrev pub losses : {S W : Type 0} → Option Loss → List (ConnectionCall S W) → List (ConnectionCall S W)
losses None calls = calls
losses (Some loss) calls = LosesOne loss ∷ calls

-- and a round trip
abbrev pub trips : {S W : Type 0} → Option ℕ → List (ConnectionCall S W) → List (ConnectionCall S W)
trips None calls = calls
trips (Some trip) calls = MeasuresTrip trip ∷ calls

-- WHAT GOES OUT AGAIN before an emission is what a caller would ask for
abbrev pub calls_again : {S W : Type 0} → Machine S → ℕ → Option Again → List (ConnectionCall S W)
calls_again m now None = []
calls_again m now (Some again) = losses again.loss (Uses now (λ s. m.resent s again.from again.to) ∷ [])

abbrev pub calls_ready : {S W : Type 0} → Machine S → (S → Option ℕ) → Reports S → Connecting S W → Option Repair → ℕ → List (ConnectionCall S W)
calls_ready m smss_of b k None now = []
calls_ready m smss_of b k (Some r) now = calls_again m now (again_in m smss_of b k (at_time r now))

-- BEHIND AN ARRIVAL a round trip may be measured, and a probe may have repaired a loss
abbrev pub measured_by : {S W : Type 0} → Machine S → Insight S → (S → Option ℕ) → Reports S → Connecting S W → Connecting S W → Option Repair → Option Report → ℕ → Option ℕ
measured_by m i smss_of b k after None report now = None
measured_by m i smss_of b k after (Some r) None now = None
measured_by m i smss_of b k after (Some r) (Some report) now =
    trip_by (at_time r now) (seen_in m smss_of b after) (b.unmarked (core_of after)) (told_of i (before_in m i k) (core_of after) report)

abbrev pub has_repaired_by : {S W : Type 0} → Machine S → Insight S → (S → Option ℕ) → Reports S → Connecting S W → Connecting S W → Option Repair → Option Report → ℕ → Bool
has_repaired_by m i smss_of b k after None report now = false
has_repaired_by m i smss_of b k after (Some r) None now = false
has_repaired_by m i smss_of b k after (Some r) (Some report) now =
    repairs_by (at_time r now) (seen_in m smss_of b after) (b.unmarked (core_of after)) (told_of i (before_in m i k) (core_of after) report)

-- THE CONNECTION'S CALLS that a call makes
abbrev pub connection_calls : {S W : Type 0} → Machine S → Insight S → (S → Option ℕ) → Control W → Reports S → Repaired S W → RepairCall S W → List (ConnectionCall S W)
connection_calls m i smss_of c b w (Comes now src dst bytes vouched) =
    losses
    (repaired_if (has_repaired_by m i smss_of b w.connecting (connection.after_arriving m i smss_of c w.connecting now src dst bytes vouched) w.recovery
    (reported m w.connecting.flowing.driving src dst bytes vouched) now))
    (trips
    (measured_by m i smss_of b w.connecting (connection.after_arriving m i smss_of c w.connecting now src dst bytes vouched) w.recovery
    (reported m w.connecting.flowing.driving src dst bytes vouched) now)
    (Arrives now src dst bytes vouched ∷ []))
connection_calls m i smss_of c b w (Goes now window) = Emits now window ∷ calls_ready m smss_of b w.connecting w.recovery now
connection_calls m i smss_of c b w (GoesAsOne now window most room) = EmitsAsOne now window most room ∷ calls_ready m smss_of b w.connecting w.recovery now
connection_calls m i smss_of c b w (Passes now) = Ticks now ∷ []
connection_calls m i smss_of c b w (Recovers now) = SetsPatience true ∷ []
connection_calls m i smss_of c b w (Calls call) = call ∷ []

-- WHATEVER IS CALLED, the connection inside is as after these, so that each law of a connection, of its flow and of its driver holds of
-- it
abbrev pub RepairingIsConnection : {S W T : Type 0} → Machine S → Insight S → (S → Option ℕ) → (S → ℕ → ℕ → ℕ → Option T) → (T → ℕ) → (T → ℕ) → Control W → Reports S → Type 0
RepairingIsConnection {S = S} {W = W} m i smss_of answer start_of numbers_of c b =
    (w : Repaired S W) (call : RepairCall S W)
    → (after_repair_call m i smss_of answer start_of numbers_of c b w call).connecting
    ≡ after_connection_calls m i smss_of c w.connecting (connection_calls m i smss_of c b w call)
