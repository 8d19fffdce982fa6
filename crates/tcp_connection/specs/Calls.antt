-- The calls of a connection as calls of its flow.
use Rattle.std.specs.Prelude.{◌≡◌, ℕ, ◌+◌, ◌≤◌, Bool, true, false, ◌&&◌, if◌then◌else◌, List, [], ◌∷◌, Option, Some, None}
use Rattle.tcp_congestion.specs.Control.{Control}
use Rattle.tcp_congestion.specs.DelayedAck.{Waiting}
use Rattle.tcp_driver.specs.declared.machine.Report.{Report}
use Rattle.tcp_driver.specs.declared.machine.Timer.TheVariants.{Retransmit}
use Rattle.tcp_driver.specs.Machine.{Machine}
use Rattle.tcp_flow.specs.Calls as flow
use Rattle.tcp_flow.specs.Calls.{FlowCall, Comes, Goes, GoesAsOne, Passes, Asks, Limits, Waits, Chooses, Loses, Measures}
pub use Rattle.tcp_flow.specs.Calls.{after_flow_calls}
use Rattle.tcp_flow.specs.declared.loss.Loss.{Loss}
use Rattle.tcp_flow.specs.Flow.{Flowing}
use Rattle.tcp_connection.specs.declared.hearing.Before.{Before}
use Rattle.tcp_connection.specs.declared.policy.Policy.{Policy}
use Rattle.tcp_connection.specs.Connection.{Connecting, after_arriving, answers_syn, before_in, core_of, edge_by, is_pending, reported}
use Rattle.tcp_connection.specs.Deadlines.{next_call}
use Rattle.tcp_connection.specs.Going.{after_emit, discards, holds_back}
use Rattle.tcp_connection.specs.Insight.{Insight}
use Rattle.tcp_connection.specs.Policy.{holds_any}
use Rattle.tcp_connection.specs.Trains.{after_train, discards_train, most_of}
use Rattle.tcp_connection.specs.Using.{after_acknowledging, after_call, after_reading, after_tick, choosing, losing, measuring, is_update, opened, with_patience, with_policy, with_user_limit}

-- each at a time, but a user timeout, patience and what is chosen; an arrival with its source and destination, and whether a device has
-- found its checksum right; an emission within the caller's window, and one of at most so many segments into so much room; a
-- read of at most so much; any other user's call with what the end is after it
pub data ConnectionCall (S W : Type 0) : Type 0 where
  Arrives : ℕ → List ℕ → List ℕ → List ℕ → Bool → ConnectionCall S W
  Emits : ℕ → ℕ → ConnectionCall S W
  EmitsAsOne : ℕ → ℕ → ℕ → ℕ → ConnectionCall S W
  Ticks : ℕ → ConnectionCall S W
  Reads : ℕ → ℕ → ConnectionCall S W
  Acknowledges : ℕ → ConnectionCall S W
  Uses : ℕ → (S → S) → ConnectionCall S W
  SetsUserTimeout : Option ℕ → ConnectionCall S W
  SetsPatience : Bool → ConnectionCall S W
  SetsWindow : W → ConnectionCall S W
  LosesOne : Loss → ConnectionCall S W
  MeasuresTrip : ℕ → ConnectionCall S W
  SetsPolicy : Policy → ConnectionCall S W

abbrev pub after_connection_call : {S W : Type 0} → Machine S → Insight S → (S → Option ℕ) → Control W → Connecting S W → ConnectionCall S W → Connecting S W
after_connection_call m i smss_of c k (Arrives now src dst bytes vouched) = after_arriving m i smss_of c k now src dst bytes vouched
after_connection_call m i smss_of c k (Emits now window) = after_emit m i c k now window
after_connection_call m i smss_of c k (EmitsAsOne now window most room) = after_train m i c k now window most room
after_connection_call m i smss_of c k (Ticks now) = after_tick m c k now
after_connection_call m i smss_of c k (Reads now room) = after_reading m i k now room
after_connection_call m i smss_of c k (Acknowledges now) = after_acknowledging m k now
after_connection_call m i smss_of c k (Uses now does) = after_call m k now (does (core_of k))
after_connection_call m i smss_of c k (SetsUserTimeout limit) = with_user_limit k limit
after_connection_call m i smss_of c k (SetsPatience patient) = with_patience k patient
after_connection_call m i smss_of c k (SetsWindow window) = choosing smss_of c k window
after_connection_call m i smss_of c k (LosesOne loss) = losing m c k loss
after_connection_call m i smss_of c k (MeasuresTrip trip) = measuring m c k trip
after_connection_call m i smss_of c k (SetsPolicy policy) = with_policy m i smss_of k policy

-- an emission is none where what is due is held back, and two where an answer is discarded
abbrev pub emissions : {S W : Type 0} → FlowCall S W → Bool → Bool → Bool → List (FlowCall S W)
emissions call deferring holds discards =
    if deferring then (if holds then [] else (if discards then call ∷ call ∷ [] else call ∷ [])) else call ∷ []

-- the window is advertised behind a read that opens it
abbrev pub updates : {S W : Type 0} → Machine S → Insight S → Connecting S W → ℕ → ℕ → Bool
updates m i k now room =
    holds_any k.policy && is_update i (opened i (after_call m k now (m.received (core_of k) room)) (edge_by i (core_of k)))

-- the SYN goes out again behind the peer's, which was taken
abbrev pub repeated : Before → Option Report → Bool
repeated before None = false
repeated before (Some report) = answers_syn before report

abbrev pub answers_again : {S W : Type 0} → Machine S → Insight S → Connecting S W → List ℕ → List ℕ → List ℕ → Bool → Bool
answers_again m i k src dst bytes vouched = repeated (before_in m i k bytes) (reported m k.flowing.driving src dst bytes vouched)

-- THE FLOW'S CALLS that a connection's call makes
abbrev pub flow_calls : {S W : Type 0} → Machine S → Insight S → Control W → Connecting S W → ConnectionCall S W → List (FlowCall S W)
flow_calls m i c k (Arrives now src dst bytes vouched) =
    if holds_any k.policy && answers_again m i k src dst bytes vouched
    then Asks now (λ s. m.expired s Retransmit) ∷ Comes now src dst bytes vouched ∷ [] else Comes now src dst bytes vouched ∷ []
flow_calls m i c k (Emits now window) = emissions (Goes now window) (holds_any k.policy) (holds_back m i c k window now) (discards m c k now window)
flow_calls m i c k (EmitsAsOne now window most room) =
    if holds_any k.policy
    then emissions (GoesAsOne now window (most_of m i c k window most) room) true (holds_back m i c k window now)
    (discards_train m c k now window (most_of m i c k window most) room)
    else GoesAsOne now window most room ∷ []
flow_calls m i c k (Ticks now) = Passes now ∷ []
flow_calls m i c k (Reads now room) =
    if updates m i k now room then Asks now m.acknowledged ∷ Asks now (λ s. m.received s room) ∷ [] else Asks now (λ s. m.received s room) ∷ []
flow_calls m i c k (Acknowledges now) = Asks now m.acknowledged ∷ []
flow_calls m i c k (Uses now does) = Asks now does ∷ []
flow_calls m i c k (SetsUserTimeout limit) = Limits limit ∷ []
flow_calls m i c k (SetsPatience patient) = Waits patient ∷ []
flow_calls m i c k (SetsWindow window) = Chooses window ∷ []
flow_calls m i c k (LosesOne loss) = Loses loss ∷ []
flow_calls m i c k (MeasuresTrip trip) = Measures trip ∷ []
flow_calls m i c k (SetsPolicy policy) = []

-- WHATEVER IS CALLED, the flow in a connection is as after these, so that each law of a flow, and of its driver, holds of it
abbrev pub ConnectionIsFlow : {S W : Type 0} → Machine S → Insight S → (S → Option ℕ) → Control W → Type 0
ConnectionIsFlow {S = S} {W = W} m i smss_of c =
    (k : Connecting S W) (call : ConnectionCall S W)
    → (after_connection_call m i smss_of c k call).flowing ≡ after_flow_calls m smss_of c k.flowing (flow_calls m i c k call)

-- ---- NO ACKNOWLEDGEMENT IS LATE. The first text that isn't acknowledged came at a time, and its acknowledgement is pending:
-- then the next call is its delay later at most, and no emission from then on is held back (RFC 9293, 3.8.6.3)
pub record IsInTime {S W : Type 0} (m : Machine S) (i : Insight S) (c : Control W) (k : Connecting S W) (first : ℕ) : Type 0 where
  pub time : ℕ
  pub polled : next_call m k ≡ Some time
  pub soon : time ≤ first + k.ack.delay
  pub goes : (now window : ℕ) → first + k.ack.delay ≤ now → holds_back m i c k window now ≡ false

abbrev pub NoAcknowledgementIsLate : {S W : Type 0} → Machine S → Insight S → Control W → Type 0
NoAcknowledgementIsLate {S = S} {W = W} m i c =
    (k : Connecting S W) (first : ℕ) → holds_any k.policy ≡ true → k.ack.since ≡ Some first → is_pending m k ≡ true → IsInTime m i c k first
