-- The connection in a connection with a recovery is as after calls of its own.
use Rattle.std.proofs.Common.{◌≡◌, ℕ, List, [], ◌∷◌, Option, Some, None, refl, ap, ◌∙◌}
use Rattle.tcp_congestion.specs.Control.{Control}
use Rattle.tcp_driver.specs.declared.machine.Report.{Report}
use Rattle.tcp_driver.specs.Machine.{Machine}
use Rattle.tcp_flow.specs.declared.loss.Loss.{Loss}
use Rattle.tcp_connection.specs.Calls.{ConnectionCall, Arrives, Uses}
use Rattle.tcp_connection.specs.Connection.{Connecting, reported}
use Rattle.tcp_connection.specs.Going as going
use Rattle.tcp_connection.specs.Insight.{Insight}
use Rattle.tcp_connection.specs.Trains as trains
use Rattle.tcp_repair.specs.declared.seen.Again.{Again}
use Rattle.tcp_repair.specs.Calls.{Calls, Comes, Goes, GoesAsOne, Passes, Recovers, RepairingIsConnection, after_connection_calls, calls_again, calls_ready, has_repaired_by, losses, measured_by, trips}
use Rattle.tcp_repair.specs.Recovery.{Repair, at_time}
use Rattle.tcp_repair.specs.Repairing.{again_in, before_in, going_again, heard_by, losing_if, measuring_if, ready, ready_by, repaired_if}
use Rattle.tcp_repair.specs.Reports.{Reports}

-- a loss that is told is one call more
lost-by : {S W : Type 0} (m : Machine S) (i : Insight S) (smss_of : S → Option ℕ) (c : Control W) (k : Connecting S W) (calls : List (ConnectionCall S W)) (lost : Option Loss)
    → losing_if m c lost (after_connection_calls m i smss_of c k calls) ≡ after_connection_calls m i smss_of c k (losses lost calls)
lost-by m i smss_of c k calls None = refl
lost-by m i smss_of c k calls (Some loss) = refl

-- and so is a round trip
trip-by : {S W : Type 0} (m : Machine S) (i : Insight S) (smss_of : S → Option ℕ) (c : Control W) (k : Connecting S W) (calls : List (ConnectionCall S W)) (trip : Option ℕ)
    → measuring_if m c trip (after_connection_calls m i smss_of c k calls) ≡ after_connection_calls m i smss_of c k (trips trip calls)
trip-by m i smss_of c k calls None = refl
trip-by m i smss_of c k calls (Some trip) = refl

again-by : {S W : Type 0} (m : Machine S) (i : Insight S) (smss_of : S → Option ℕ) (c : Control W) (k : Connecting S W) (now : ℕ) (again : Option Again)
    → going_again m c k now again ≡ after_connection_calls m i smss_of c k (calls_again m now again)
again-by m i smss_of c k now None = refl
again-by m i smss_of c k now (Some again) =
    lost-by m i smss_of c k (Uses now (λ s. m.resent s again.from again.to) ∷ []) again.loss

ready-by : {S W : Type 0} (m : Machine S) (i : Insight S) (smss_of : S → Option ℕ) (c : Control W) (b : Reports S) (k : Connecting S W) (recovery : Option Repair) (now : ℕ)
    → (ready_by m smss_of c b k recovery now).connecting ≡ after_connection_calls m i smss_of c k (calls_ready m smss_of b k recovery now)
ready-by m i smss_of c b k None now = refl
ready-by m i smss_of c b k (Some r) now = again-by m i smss_of c k now (again_in m smss_of b k (at_time r now))

-- an arrival, behind which a round trip and a loss may be told
heard-by : {S W : Type 0} (m : Machine S) (i : Insight S) (smss_of : S → Option ℕ) (c : Control W) (b : Reports S) (k : Connecting S W) (calls : List (ConnectionCall S W)) (recovery : Option Repair) (report : Option Report) (now : ℕ)
    → (heard_by m i smss_of c b (before_in m i k) (after_connection_calls m i smss_of c k calls) recovery report now).connecting
    ≡ after_connection_calls m i smss_of c k (losses (repaired_if (has_repaired_by m i smss_of b k (after_connection_calls m i smss_of c k calls) recovery report now))
    (trips (measured_by m i smss_of b k (after_connection_calls m i smss_of c k calls) recovery report now) calls))
heard-by m i smss_of c b k calls None report now = refl
heard-by m i smss_of c b k calls (Some r) None now = refl
heard-by m i smss_of c b k calls (Some r) (Some report) now =
    let lost = repaired_if (has_repaired_by m i smss_of b k (after_connection_calls m i smss_of c k calls) (Some r) (Some report) now) in
    let trip = measured_by m i smss_of b k (after_connection_calls m i smss_of c k calls) (Some r) (Some report) now in
    ap (λ x. losing_if m c lost x) (trip-by m i smss_of c k calls trip) ∙ lost-by m i smss_of c k (trips trip calls) lost

pub connection_lem : {S W T : Type 0} (m : Machine S) (i : Insight S) (smss_of : S → Option ℕ) (answer : S → ℕ → ℕ → ℕ → Option T) (start_of numbers_of : T → ℕ) (c : Control W) (b : Reports S)
    → RepairingIsConnection m i smss_of answer start_of numbers_of c b
unfolding ready
connection_lem m i smss_of answer start_of numbers_of c b w (Comes now src dst bytes vouched) =
    heard-by m i smss_of c b w.connecting (Arrives now src dst bytes vouched ∷ []) w.recovery (reported m w.connecting.flowing.driving src dst bytes vouched) now
connection_lem m i smss_of answer start_of numbers_of c b w (Goes now window) =
    ap (λ k. going.after_emit m i c k now window) (ready-by m i smss_of c b w.connecting w.recovery now)
connection_lem m i smss_of answer start_of numbers_of c b w (GoesAsOne now window most room) =
    ap (λ k. trains.after_train m i c k now window most room) (ready-by m i smss_of c b w.connecting w.recovery now)
connection_lem m i smss_of answer start_of numbers_of c b w (Passes now) = refl
connection_lem m i smss_of answer start_of numbers_of c b w (Recovers now) = refl
connection_lem m i smss_of answer start_of numbers_of c b w (Calls call) = refl
