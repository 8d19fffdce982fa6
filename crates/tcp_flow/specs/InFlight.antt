-- WHAT IS IN FLIGHT STAYS IN THE WINDOW (RFC 5681, 3.1; RFC 3042, 2), whatever is called: FlightSize, the numbers that were sent and
-- aren't acknowledged (RFC 5681, 2).
use Rattle.std.specs.Prelude.{◌≡◌, ℕ, zero, suc, ◌+◌, ◌-◌, ◌*◌, ◌≤◌, nat_le, ◌==◌, min, max, if◌then◌else◌, List, [], ◌∷◌, Option, Some, None, IfSome}
use Rattle.tcp_congestion.specs.Control.{Control}
use Rattle.tcp_driver.specs.declared.machine.Sent.{Sent}
use Rattle.tcp_driver.specs.declared.machine.Timer.{Timer}
use Rattle.tcp_driver.specs.declared.machine.Way.{Way}
use Rattle.tcp_driver.specs.Driver.{core_after, sent_of}
use Rattle.tcp_driver.specs.Machine.{Machine}
use Rattle.tcp_driver.specs.Rows.{emissions_of}
use Rattle.tcp_flow.specs.Calls.{FlowCall, Comes, Goes, GoesAsOne, Asks, after_flow_calls}
use Rattle.tcp_flow.specs.Flow.{Flowing, allowed, flight_of, most_of, rested, row_of, una_of}

-- ---- WHAT AN END MAKES OF IT, where something always holds of the end: what sends nothing makes it no greater,
abbrev pub SendsNothing : {S : Type 0} → Machine S → (S → Type 0) → (S → S) → Type 0
SendsNothing {S = S} m Always does = (s : S) → Always s → Always (does s) × (m.flight (does s) ≤ m.flight s)

-- and behind a segment it is what it was, or ends where the segment does
abbrev pub flight_with : ℕ → ℕ → Option Sent → ℕ
flight_with una flight None = flight
flight_with una flight (Some sent) = max flight (sent.start + sent.count - una)

pub record CountsFlight {S : Type 0} (m : Machine S) (Always : S → Type 0) : Type 0 where
  pub emitted : (s : S) → Always s → Always (m.emitted s) × (m.flight (m.emitted s) ≤ flight_with (m.una s) (m.flight s) (m.due s))
  -- what takes no number begins at SND.NXT at most
  pub bare : (s : S) → Always s → IfSome (m.due s) (λ sent. sent.count ≡ 0 → sent.start ≤ m.una s + m.flight s)
  pub alone : SendsNothing m Always m.emitted_alone
  -- a SYN that answers one counts from when it is due (RFC 9293, 3.10.7.2, third)
  pub arrived : (s : S) (src dst bytes : List ℕ) (way : Way) → Always s
      → Always (m.arrived s src dst bytes way) × (m.flight (m.arrived s src dst bytes way) ≤ max 1 (m.flight s))
  pub expired : (timer : Timer) → SendsNothing m Always (λ s. m.expired s timer)
  pub first_resent : SendsNothing m Always m.first_resent
  pub resent : (from to : ℕ) → SendsNothing m Always (λ s. m.resent s from to)
  pub sent : (text : List ℕ) → SendsNothing m Always (λ s. m.sent s text)
  pub received : (room : ℕ) → SendsNothing m Always (λ s. m.received s room)
  pub acknowledged : SendsNothing m Always m.acknowledged
  pub closed : SendsNothing m Always m.closed
  pub aborted : SendsNothing m Always m.aborted

-- ---- HOW FAR AN EMISSION MAY REACH past SND.UNA: cwnd and two segments (RFC 3042, 2), or cwnd and what blocks report (RFC 6675, 5), and
-- no further than the caller's window
abbrev pub reach : {S W : Type 0} → Machine S → Control W → Flowing S W → ℕ → ℕ
reach m c f window = if c.limits f.window then min window (most_of m c f) else window

-- WHAT A SEGMENT LETS BE IN FLIGHT that may reach so far: no more; and where nothing before it is in flight what it takes itself, since a
-- probe goes out whatever the windows (RFC 9293, 3.8.6.1). One that takes no number adds nothing
abbrev pub let_out_by : ℕ → ℕ → Option Sent → ℕ
let_out_by reach una None = 0
let_out_by reach una (Some sent) = if sent.count == 0 then 0 else (if nat_le sent.start una then sent.count else reach)

-- each of so many, one after another within a window
unfoldable pub let_out_in_turn : {S : Type 0} → Machine S → ℕ → ℕ → S → ℕ → ℕ
let_out_in_turn m reach zero s window = 0
let_out_in_turn m reach (suc more) s window =
    max (let_out_by reach (m.una s) (sent_of m s window)) (let_out_in_turn m reach more (core_after m s window) window)

-- WHAT A CALL LETS BE IN FLIGHT
abbrev pub let_out : {S W : Type 0} → Machine S → Control W → Flowing S W → FlowCall S W → ℕ
let_out m c f (Comes now src dst bytes vouched) = 1
let_out m c f (Goes now window) =
    let g = rested m c f now in let_out_by (reach m c g window) (una_of m g) (sent_of m g.driving.core (allowed m c g window))
let_out m c f (GoesAsOne now window most room) =
    let g = rested m c f now in
    let_out_in_turn m (reach m c g window) (emissions_of (row_of m c g window most room)) g.driving.core (allowed m c g window)
let_out m c f other = 0

-- the most that any of these calls does, THE NEWEST FIRST, or that was in flight before
abbrev pub most_let_out : {S W : Type 0} → Machine S → (S → Option ℕ) → Control W → Flowing S W → List (FlowCall S W) → ℕ
most_let_out m smss_of c f [] = flight_of m f
most_let_out m smss_of c f (call ∷ earlier) = max (let_out m c (after_flow_calls m smss_of c f earlier) call) (most_let_out m smss_of c f earlier)

-- THE USER'S CALLS send nothing by themselves, as none of an end does
abbrev pub UsesNone : {S W : Type 0} → Machine S → (S → Type 0) → FlowCall S W → Type 0
UsesNone m Always (Asks now does) = SendsNothing m Always does
UsesNone m Always other = Unit {0}

abbrev pub AllUseNone : {S W : Type 0} → Machine S → (S → Type 0) → List (FlowCall S W) → Type 0
AllUseNone m Always [] = Unit {0}
AllUseNone m Always (call ∷ earlier) = UsesNone m Always call × AllUseNone m Always earlier

-- A WINDOW HAS ROOM for two segments more than cwnd at most, where nothing is in flight (RFC 3042, 2)
abbrev pub LetsOutTwoMore : {W : Type 0} → Control W → Type 0
LetsOutTwoMore {W = W} c = (w : W) → c.room w 0 ≤ c.cwnd w + 2 * c.smss w

abbrev pub InFlightStaysInWindow : {S W : Type 0} → Machine S → (S → Type 0) → (S → Option ℕ) → Control W → Type 0
InFlightStaysInWindow {S = S} {W = W} m Always smss_of c =
    (f : Flowing S W) (calls : List (FlowCall S W)) → Always f.driving.core → AllUseNone m Always calls
    → flight_of m (after_flow_calls m smss_of c f calls) ≤ most_let_out m smss_of c f calls
