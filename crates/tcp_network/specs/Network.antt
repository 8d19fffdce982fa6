-- WHAT IS IN THE NETWORK STAYS IN THE WINDOW, whatever is called: what is in flight except what blocks report, which has left it if the
-- peer is right (RFC 6675, 4: pipe, with nothing taken for lost).
use Rattle.std.specs.Prelude.{◌≡◌, ℕ, ◌+◌, ◌-◌, ◌*◌, ◌≤◌, nat_lt, ◌&&◌, ◌==◌, min, max, if◌then◌else◌, List, [], ◌∷◌, Option, Some, None}
use Rattle.tcp_congestion.specs.Control.{Control}
use Rattle.tcp_driver.specs.declared.machine.Sent.{Sent}
use Rattle.tcp_driver.specs.declared.machine.Timer.{Timer}
use Rattle.tcp_driver.specs.declared.machine.Way.{Way}
use Rattle.tcp_driver.specs.Driver.{sent_of}
use Rattle.tcp_driver.specs.Machine.{Machine}
use Rattle.tcp_driver.specs.Rows.{emissions_of}
use Rattle.tcp_flow.specs.Calls.{FlowCall, Goes, GoesAsOne, Passes, Asks, after_flow_calls}
use Rattle.tcp_flow.specs.Flow.{Flowing, after_timeout, allowed, rested, row_of, una_of}
use Rattle.tcp_flow.specs.InFlight.{let_out_by, let_out_in_turn}

-- what is in flight except what blocks report (RFC 6675, 4), each number once, also where it is sent again; while any of it may be sent
-- again: the SYN aside, and nothing of an end that is over
abbrev pub in_network : {S : Type 0} → Machine S → S → ℕ
in_network m s = if m.can_resend s then m.flight s - m.reported s else 0

-- ---- WHAT AN END MAKES OF IT, where something always holds of the end: a call that puts nothing into the network,
abbrev pub PutsNothing : {S : Type 0} → Machine S → (S → Type 0) → (S → S) → Type 0
PutsNothing {S = S} m Always does = (s : S) → Always s → Always (does s) × (in_network m (does s) ≤ in_network m s)

-- and a segment, behind which what is there is what it was, or ends where the segment does. One that takes no number adds nothing
abbrev pub network_with : ℕ → ℕ → ℕ → Option Sent → ℕ
network_with una reported network None = network
network_with una reported network (Some sent) = if sent.count == 0 then network else max network (sent.start + sent.count - una - reported)

-- Where what blocks reported is forgotten, as at a retransmission timeout (RFC 2018, 5), all that is in flight counts again
abbrev pub forgotten : {S : Type 0} → Machine S → S → S → ℕ
forgotten m s after = if m.can_resend after && nat_lt (m.reported after) (m.reported s) then m.flight s else 0

abbrev pub AtMostForgets : {S : Type 0} → Machine S → (S → Type 0) → (S → S) → Type 0
AtMostForgets {S = S} m Always does =
    (s : S) → Always s → Always (does s) × (in_network m (does s) ≤ max (in_network m s) (forgotten m s (does s)))

pub record CountsNetwork {S : Type 0} (m : Machine S) (Always : S → Type 0) : Type 0 where
  -- what goes out reports nothing anew
  pub emitted : (s : S) → Always s
      → Always (m.emitted s) × (m.reported (m.emitted s) ≡ m.reported s)
      × (in_network m (m.emitted s) ≤ network_with (m.una s) (m.reported s) (in_network m s) (m.due s))
  pub alone : (s : S) → Always s
      → Always (m.emitted_alone s) × (m.reported (m.emitted_alone s) ≡ m.reported s) × (in_network m (m.emitted_alone s) ≤ in_network m s)
  -- an acknowledgement releases no more reported text than it takes off what is in flight
  pub arrived : (src dst bytes : List ℕ) (way : Way) → PutsNothing m Always (λ s. m.arrived s src dst bytes way)
  pub expired : (timer : Timer) → AtMostForgets m Always (λ s. m.expired s timer)
  pub first_resent : PutsNothing m Always m.first_resent
  pub resent : (from to : ℕ) → PutsNothing m Always (λ s. m.resent s from to)
  pub sent : (text : List ℕ) → PutsNothing m Always (λ s. m.sent s text)
  pub received : (room : ℕ) → PutsNothing m Always (λ s. m.received s room)
  pub acknowledged : PutsNothing m Always m.acknowledged
  pub closed : PutsNothing m Always m.closed
  pub aborted : PutsNothing m Always m.aborted

-- ---- HOW MUCH A SEGMENT MAY LET BE THERE: cwnd and two segments (RFC 5681, 3.1; RFC 3042, 2), and no more than the caller's window
abbrev pub within : {S W : Type 0} → Control W → Flowing S W → ℕ → ℕ
within c f window = if c.limits f.window then min window (c.cwnd f.window + 2 * c.smss f.window) else window

-- WHAT A CALL LETS BE IN THE NETWORK: a segment no more than that; where nothing before it is in flight, what it takes itself, since a
-- probe goes out whatever the windows (RFC 9293, 3.8.6.1); a timer, or a caller, by which reports are forgotten what was in flight. An
-- arrival nothing
abbrev pub let_in : {S W : Type 0} → Machine S → Control W → Flowing S W → FlowCall S W → ℕ
let_in m c f (Goes now window) =
    let g = rested m c f now in let_out_by (within c g window) (una_of m g) (sent_of m g.driving.core (allowed m c g window))
let_in m c f (GoesAsOne now window most room) =
    let g = rested m c f now in
    let_out_in_turn m (within c g window) (emissions_of (row_of m c g window most room)) g.driving.core (allowed m c g window)
let_in m c f (Passes now) = forgotten m f.driving.core (after_timeout m c f now).driving.core
let_in m c f (Asks now does) = forgotten m f.driving.core (does f.driving.core)
let_in m c f other = 0

-- the most that any of these calls does, THE NEWEST FIRST, or that was there before
abbrev pub most_let_in : {S W : Type 0} → Machine S → (S → Option ℕ) → Control W → Flowing S W → List (FlowCall S W) → ℕ
most_let_in m smss_of c f [] = in_network m f.driving.core
most_let_in m smss_of c f (call ∷ earlier) =
    max (let_in m c (after_flow_calls m smss_of c f earlier) call) (most_let_in m smss_of c f earlier)

-- THE USER'S CALLS put nothing there by themselves, as none of an end does, and at most forget what blocks reported, as `retransmit` does
abbrev pub UsesNone : {S W : Type 0} → Machine S → (S → Type 0) → FlowCall S W → Type 0
UsesNone m Always (Asks now does) = AtMostForgets m Always does
UsesNone m Always other = Unit {0}

abbrev pub AllUseNone : {S W : Type 0} → Machine S → (S → Type 0) → List (FlowCall S W) → Type 0
AllUseNone m Always [] = Unit {0}
AllUseNone m Always (call ∷ earlier) = UsesNone m Always call × AllUseNone m Always earlier

abbrev pub NetworkStaysInWindow : {S W : Type 0} → Machine S → (S → Type 0) → (S → Option ℕ) → Control W → Type 0
NetworkStaysInWindow {S = S} {W = W} m Always smss_of c =
    (f : Flowing S W) (calls : List (FlowCall S W)) → Always f.driving.core → AllUseNone m Always calls
    → in_network m (after_flow_calls m smss_of c f calls).driving.core ≤ most_let_in m smss_of c f calls
