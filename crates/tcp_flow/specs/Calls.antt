-- The calls of a flow as calls of its driver.
use Rattle.std.specs.Prelude.{◌≡◌, ℕ, Bool, if◌then◌else◌, List, [], ◌∷◌, Option, replicate}
use Rattle.tcp_congestion.specs.Control.{Control}
use Rattle.tcp_driver.specs.Calls.{Call, Arrives, Emits, Expires, SetsPatience, SetsUserTimeout, Uses, after_calls}
use Rattle.tcp_driver.specs.Machine.{Machine}
use Rattle.tcp_driver.specs.Rows.{emissions_of}
use Rattle.tcp_flow.specs.declared.loss.Loss.{Loss}
use Rattle.tcp_flow.specs.Flow.{Flowing, after_loss, after_patience_of, after_segment, after_timeout, after_trip, after_use, after_user_limit, allowed, emitted, emitted_as_one, rested, row_of, with_window}

-- each at a time, but a user timeout, patience, the choice of a window, and a loss and a round trip that the caller found; an arrival with its source and
-- destination, and whether a device has found its checksum right; an emission within the caller's window, and one of at most so many
-- segments into so much room; a user's call with what the end is after it
pub data FlowCall (S W : Type 0) : Type 0 where
  Comes : ℕ → List ℕ → List ℕ → List ℕ → Bool → FlowCall S W
  Goes : ℕ → ℕ → FlowCall S W
  GoesAsOne : ℕ → ℕ → ℕ → ℕ → FlowCall S W
  Passes : ℕ → FlowCall S W
  Asks : ℕ → (S → S) → FlowCall S W
  Limits : Option ℕ → FlowCall S W
  Waits : Bool → FlowCall S W
  Chooses : W → FlowCall S W
  Loses : Loss → FlowCall S W
  Measures : ℕ → FlowCall S W

abbrev pub after_flow_call : {S W : Type 0} → Machine S → (S → Option ℕ) → Control W → Flowing S W → FlowCall S W → Flowing S W
after_flow_call m smss_of c f (Comes now src dst bytes vouched) = after_segment m smss_of c f now src dst bytes vouched
after_flow_call m smss_of c f (Goes now window) = emitted m c (rested m c f now) now window
after_flow_call m smss_of c f (GoesAsOne now window most room) = emitted_as_one m c (rested m c f now) now window most room
after_flow_call m smss_of c f (Passes now) = after_timeout m c f now
after_flow_call m smss_of c f (Asks now does) = after_use m f now (does f.driving.core)
after_flow_call m smss_of c f (Limits limit) = after_user_limit f limit
after_flow_call m smss_of c f (Waits patient) = after_patience_of f patient
after_flow_call m smss_of c f (Chooses window) = with_window smss_of c f window
after_flow_call m smss_of c f (Loses loss) = after_loss m c f loss
after_flow_call m smss_of c f (Measures trip) = after_trip m c f trip

-- MANY, THE NEWEST FIRST
abbrev pub after_flow_calls : {S W : Type 0} → Machine S → (S → Option ℕ) → Control W → Flowing S W → List (FlowCall S W) → Flowing S W
after_flow_calls m smss_of c f [] = f
after_flow_calls m smss_of c f (call ∷ earlier) = after_flow_call m smss_of c (after_flow_calls m smss_of c f earlier) call

-- WHAT GOES OUT AGAIN behind an arrival: nothing, the first segment, or what lies between two positions
pub data Resends : Type 0 where
  Nothing : Resends
  First : Resends
  Between : ℕ → ℕ → Resends

abbrev pub behind : {S : Type 0} → Machine S → ℕ → Resends → List (Call S) → List (Call S)
behind m now Nothing calls = calls
behind m now First calls = Uses now m.first_resent ∷ calls
behind m now (Between from to) calls = Uses now (λ s. m.resent s from to) ∷ calls

-- THE DRIVER'S CALLS that a flow's call makes, the newest first: an arrival, behind which something may go out again, an
-- emission within the windows, or as many as segments go out as one, an expiry, or what the user asks
abbrev pub calls_of : {S W : Type 0} → Machine S → Control W → Flowing S W → Resends → FlowCall S W → List (Call S)
calls_of m c f resends (Comes now src dst bytes vouched) =
    behind m now resends (Arrives now src dst bytes vouched ∷ [])
calls_of m c f resends (Goes now window) = Emits now (allowed m c (rested m c f now) window) ∷ []
calls_of m c f resends (GoesAsOne now window most room) =
    replicate (emissions_of (row_of m c (rested m c f now) window most room)) (Emits now (allowed m c (rested m c f now) window))
calls_of m c f resends (Passes now) = Expires now ∷ []
calls_of m c f resends (Asks now does) = Uses now does ∷ []
calls_of m c f resends (Limits limit) = SetsUserTimeout limit ∷ []
calls_of m c f resends (Waits patient) = SetsPatience patient ∷ []
calls_of m c f resends (Chooses window) = []
calls_of m c f resends (Loses loss) = []
calls_of m c f resends (Measures trip) = []

-- WHATEVER IS CALLED, the driver in a flow is as after these, so that each of its laws holds of it
pub record IsDriven {S W : Type 0} (m : Machine S) (smss_of : S → Option ℕ) (c : Control W) (f : Flowing S W) (call : FlowCall S W) : Type 0 where
  pub resends : Resends
  pub same : (after_flow_call m smss_of c f call).driving ≡ after_calls m f.driving (calls_of m c f resends call)

abbrev pub FlowIsDriven : {S W : Type 0} → Machine S → (S → Option ℕ) → Control W → Type 0
FlowIsDriven {S = S} {W = W} m smss_of c = (f : Flowing S W) (call : FlowCall S W) → IsDriven m smss_of c f call
