-- What is in flight stays in the window, whatever is called.
use Rattle.std.proofs.Common.{◌≡◌, ℕ, zero, suc, ◌+◌, ◌-◌, ◌*◌, ◌<◌, ◌≤◌, Bool, true, false, List, [], ◌∷◌, Option, Some, None, arith, refl, sym, subst}
use Rattle.std.specs.Prelude.{◌&&◌, ◌||◌, nat_lt, nat_le, ◌==◌, if◌then◌else◌, min, max, IfSome, is_some}
use Rattle.std.proofs.lemmas.Bool.Decides.{nat_tests}
use Rattle.tcp_congestion.specs.AnyWindow.{any_control}
use Rattle.tcp_congestion.specs.Control.{Control, cubic_control, reno_control}
use Rattle.tcp_congestion.specs.declared.any_window.AnyWindow.TheVariants.{Unlimited, Reno, Cubic}
use Rattle.tcp_driver.specs.declared.machine.Sent.{Sent}
use Rattle.tcp_driver.specs.declared.machine.Timer.{Timer}
use Rattle.tcp_driver.specs.declared.machine.Way.{Way}
use Rattle.tcp_driver.specs.Calls.{Arrives, after_calls}
use Rattle.tcp_driver.specs.Driver.{Driving, after_taken, after_time_by, at, core_after, goes_back, holds, is_withheld, sent_of, waits, way_of}
use Rattle.tcp_driver.specs.Machine.{Machine}
use Rattle.tcp_driver.specs.Rows.{after_emissions, emissions_of}
use Rattle.tcp_driver.specs.Times.{expiry}
use Rattle.tcp_flow.proofs.Driving.{chosen_by, rest_by}
use Rattle.tcp_flow.specs.Calls.{FlowCall, Comes, Goes, GoesAsOne, Passes, Asks, Limits, Waits, Chooses, Loses, Measures, FlowIsDriven, Resends, Nothing, First, Between, after_flow_call, after_flow_calls, behind}
use Rattle.tcp_flow.specs.Flow.{Flowing, allowed, flight_of, is_idle, left_of, let_out_of, most_of, rested, row_of, una_of}
use Rattle.tcp_flow.specs.InFlight.{AllUseNone, CountsFlight, InFlightStaysInWindow, LetsOutTwoMore, UsesNone, flight_with, let_out, let_out_by, let_out_in_turn, most_let_out, reach}

-- WHAT AN END IS AFTER A CALL: what always holds does, and no more is in flight than this
record Has {S : Type 0} (m : Machine S) (Always : S → Type 0) (s : S) (most : ℕ) : Type 0 where
  always : Always s
  flight : m.flight s ≤ most

-- ---- A SEGMENT GOES OUT within a window, as a probe, or without numbers
second : (x y : Bool) → x ≡ true → (x && y) ≡ false → y ≡ false
second true y e f = f
second false y e f = absurd (cc)

first : (x y : Bool) → (x || y) ≡ false → x ≡ false
first true y e = absurd (cc)
first false y e = refl

segment-by : (una flight window reach start count : ℕ) (none before : Bool) → (count == 0) ≡ none → nat_le start una ≡ before
    → (nat_lt una start && nat_lt (window - (start - una)) count) ≡ false → window ≤ reach → (count ≡ 0 → start ≤ una + flight)
    → max flight (start + count - una) ≤ max flight (if none then 0 else (if before then count else reach))
segment-by una flight window reach start count true before e f past fits bare =
    let zero : count ≡ 0 = grind (arith, nat_tests, e) in
    omega (arith, zero, bare zero)
segment-by una flight window reach start count false true e f past fits bare =
    let at-una : start ≤ una = grind (arith, nat_tests, f) in
    omega (arith, at-una)
segment-by una flight window reach start count false false e f past fits bare =
    let some : 0 < count = grind (arith, nat_tests, e) in
    let after : una < start = grind (arith, nat_tests, f) in
    let is-after : nat_lt una start ≡ true = grind (arith, nat_tests, after) in
    let not-past = second (nat_lt una start) (nat_lt (window - (start - una)) count) is-after past in
    let inside : count ≤ window - (start - una) = grind (arith, nat_tests, not-past) in
    omega (arith, some, after, inside, fits)

out-by : (una flight window reach : ℕ) (due : Option Sent) → waits due una window ≡ false → window ≤ reach
    → IfSome due (λ sent. sent.count ≡ 0 → sent.start ≤ una + flight) → flight_with una flight due ≤ max flight (let_out_by reach una due)
out-by una flight window reach None goes fits bare = omega arith
out-by una flight window reach (Some sent) goes fits bare =
    segment-by una flight window reach sent.start sent.count (sent.count == 0) (nat_le sent.start una) refl refl goes fits bare

emits-by : {S : Type 0} (m : Machine S) (Always : S → Type 0) → CountsFlight m Always → (s : S) (window reach : ℕ) (held : Bool) → holds m s window ≡ held → window ≤ reach
    → Always s
    → Has m Always (if held then m.emitted_alone s else m.emitted s) (max (m.flight s) (let_out_by reach (m.una s) (if held then m.alone s else m.due s)))
emits-by m Always h s window reach true e fits a =
    let r = h.alone s a in
    record { always = r.0; flight = omega (arith, r.1) }
emits-by m Always h s window reach false e fits a =
    let r = h.emitted s a in
    let goes = first (waits (m.due s) (m.una s) window) (is_some (m.alone s) && goes_back (m.due s) (m.una s) (m.flight s)) e in
    let most = out-by (m.una s) (m.flight s) window reach (m.due s) goes fits (h.bare s a) in
    record { always = r.0; flight = omega (arith, r.1, most) }

emits : {S : Type 0} (m : Machine S) (Always : S → Type 0) → CountsFlight m Always → (s : S) (window reach : ℕ) → window ≤ reach → Always s
    → Has m Always (core_after m s window) (max (m.flight s) (let_out_by reach (m.una s) (sent_of m s window)))
emits m Always h s window reach fits a = emits-by m Always h s window reach (holds m s window) refl fits a

-- and more of them
joined : (a b c one rest : ℕ) → b ≤ max a one → c ≤ max b rest → c ≤ max a (max one rest)
joined a b c one rest e f = omega (arith, e, f)

many : {S : Type 0} (m : Machine S) (Always : S → Type 0) → CountsFlight m Always → (count : ℕ) (d : Driving S) (now window reach : ℕ) → window ≤ reach → Always d.core
    → Has m Always (after_emissions m count d now window).core (max (m.flight d.core) (let_out_in_turn m reach count d.core window))
unfolding after_emissions let_out_in_turn
many m Always h zero d now window reach fits a = record { always = a; flight = omega arith }
many {S = S} m Always h (suc more) d now window reach fits a =
    let one = emits m Always h d.core window reach fits a in
    let after : Driving S = _ in
    let rest = many m Always h more after now window reach fits one.always in
    record { always = rest.always; flight = joined _ _ _ _ _ one.flight rest.flight }

-- ---- AN ARRIVAL, and perhaps the first segment again
arrives-by : {S : Type 0} (m : Machine S) (Always : S → Type 0) → CountsFlight m Always → (d : Driving S) (now : ℕ) (src dst bytes : List ℕ) (way : Way) (lost : Bool) → Always d.core
    → Has m Always (if lost then d else after_taken m d now src dst bytes way).core (max (m.flight d.core) 1)
arrives-by m Always h d now src dst bytes way true a = record { always = a; flight = omega arith }
arrives-by m Always h d now src dst bytes way false a =
    let r = h.arrived d.core src dst bytes way a in
    record { always = r.0; flight = omega (arith, r.1) }

comes-by : {S : Type 0} (m : Machine S) (Always : S → Type 0) → CountsFlight m Always → (d : Driving S) (now : ℕ) (src dst bytes : List ℕ) (vouched : Bool) (resends : Resends)
    → Always d.core
    → Has m Always (after_calls m d (behind m now resends (Arrives now src dst bytes vouched ∷ []))).core (max (m.flight d.core) 1)
comes-by m Always h d now src dst bytes vouched Nothing a =
    arrives-by m Always h d (at d now) src dst bytes (way_of d vouched) (d.times.bursting || is_withheld m d.core bytes) a
comes-by m Always h d now src dst bytes vouched First a =
    let one = arrives-by m Always h d (at d now) src dst bytes (way_of d vouched) (d.times.bursting || is_withheld m d.core bytes) a in
    let again = h.first_resent _ one.always in
    record { always = again.0; flight = omega (arith, one.flight, again.1) }
comes-by m Always h d now src dst bytes vouched (Between from to) a =
    let one = arrives-by m Always h d (at d now) src dst bytes (way_of d vouched) (d.times.bursting || is_withheld m d.core bytes) a in
    let again = h.resent from to _ one.always in
    record { always = again.0; flight = omega (arith, one.flight, again.1) }

-- ---- TIME PASSES
time-by : {S : Type 0} (m : Machine S) (Always : S → Type 0) → CountsFlight m Always → (d : Driving S) (now : ℕ) (which : Option Timer) → Always d.core
    → Has m Always (after_time_by m d which now).core (max (m.flight d.core) 0)
time-by m Always h d now None a = record { always = a; flight = omega arith }
time-by m Always h d now (Some timer) a =
    let r = h.expired timer d.core a in
    record { always = r.0; flight = omega (arith, r.1) }

-- ---- THE FLOW'S EMISSIONS stay within what its window lets out
reach-by : {S W : Type 0} (m : Machine S) (c : Control W) (g : Flowing S W) (window : ℕ) (limits : Bool) (left : ℕ) (some : Bool) → LetsOutTwoMore c
    → (if limits then min window (if some then c.cwnd g.window + left else c.room g.window 0) else window)
    ≤ (if limits then min window (c.cwnd g.window + (if some then left else 2 * c.smss g.window)) else window)
reach-by m c g window true left true more = omega arith
reach-by m c g window true left false more = omega (arith, more g.window)
reach-by m c g window false left some more = omega arith

reach-in : {S W : Type 0} (m : Machine S) (c : Control W) (g : Flowing S W) (window : ℕ) → LetsOutTwoMore c → allowed m c g window ≤ reach m c g window
unfolding let_out_of most_of
reach-in m c g window more = reach-by m c g window (c.limits g.window) (left_of m c g) (nat_lt 0 (left_of m c g)) more

goes-by : {S W : Type 0} (m : Machine S) (Always : S → Type 0) (c : Control W) → CountsFlight m Always → LetsOutTwoMore c → (f g : Flowing S W) (window : ℕ) → g.driving ≡ f.driving
    → Always f.driving.core
    → Has m Always (core_after m g.driving.core (allowed m c g window))
    (max (flight_of m f) (let_out_by (reach m c g window) (una_of m g) (sent_of m g.driving.core (allowed m c g window))))
goes-by m Always c h more f g window e a =
    let core = core_after m g.driving.core (allowed m c g window) in
    let out = let_out_by (reach m c g window) (una_of m g) (sent_of m g.driving.core (allowed m c g window)) in
    let r = emits m Always h g.driving.core (allowed m c g window) (reach m c g window) (reach-in m c g window more)
    (subst (λ d. Always d.core) (sym e) a) in
    let same : flight_of m g ≡ flight_of m f = cc in
    record { always = r.always; flight = subst (λ n. m.flight core ≤ max n out) same r.flight }

train-by : {S W : Type 0} (m : Machine S) (Always : S → Type 0) (c : Control W) → CountsFlight m Always → LetsOutTwoMore c → (f g : Flowing S W) (count now window : ℕ)
    → g.driving ≡ f.driving → Always f.driving.core
    → Has m Always (after_emissions m count g.driving now (allowed m c g window)).core
    (max (flight_of m f) (let_out_in_turn m (reach m c g window) count g.driving.core (allowed m c g window)))
train-by m Always c h more f g count now window e a =
    let core = (after_emissions m count g.driving now (allowed m c g window)).core in
    let out = let_out_in_turn m (reach m c g window) count g.driving.core (allowed m c g window) in
    let r = many m Always h count g.driving now (allowed m c g window) (reach m c g window) (reach-in m c g window more)
    (subst (λ d. Always d.core) (sym e) a) in
    let same : flight_of m g ≡ flight_of m f = cc in
    record { always = r.always; flight = subst (λ n. m.flight core ≤ max n out) same r.flight }

-- ---- EACH CALL
stays : {S : Type 0} (m : Machine S) (Always : S → Type 0) (s : S) → Always s → Has m Always s (max (m.flight s) 0)
stays m Always s a = record { always = a; flight = omega arith }

step : {S W : Type 0} (m : Machine S) (Always : S → Type 0) (smss_of : S → Option ℕ) (c : Control W) → CountsFlight m Always → LetsOutTwoMore c → FlowIsDriven m smss_of c
    → (f : Flowing S W) (call : FlowCall S W) → Always f.driving.core → UsesNone m Always call
    → Has m Always (after_flow_call m smss_of c f call).driving.core (max (flight_of m f) (let_out m c f call))
step m Always smss_of c h more driven f (Comes now src dst bytes vouched) a none =
    let is = driven f (Comes now src dst bytes vouched) in
    subst (λ d. Has m Always d.core (max (flight_of m f) 1)) (sym is.same) (comes-by m Always h f.driving now src dst bytes vouched is.resends a)
step m Always smss_of c h more driven f (Goes now window) a none =
    goes-by m Always c h more f (rested m c f now) window (rest_by f (c.idle f.window) (c.limits f.window && is_idle m f now)) a
step m Always smss_of c h more driven f (GoesAsOne now window most room) a none =
    train-by m Always c h more f (rested m c f now) (emissions_of (row_of m c (rested m c f now) window most room)) (at (rested m c f now).driving now) window
    (rest_by f (c.idle f.window) (c.limits f.window && is_idle m f now)) a
step m Always smss_of c h more driven f (Passes now) a none = time-by m Always h f.driving (at f.driving now) (expiry f.driving.times (at f.driving now)) a
step m Always smss_of c h more driven f (Asks now does) a none =
    let r = none f.driving.core a in
    record { always = r.0; flight = omega (arith, r.1) }
step m Always smss_of c h more driven f (Limits limit) a none = stays m Always f.driving.core a
step m Always smss_of c h more driven f (Waits patient) a none = stays m Always f.driving.core a
step m Always smss_of c h more driven f (Chooses window) a none =
    subst (λ d. Has m Always d.core (max (flight_of m f) 0)) (sym (chosen_by _ _ (c.limits window) refl)) (stays m Always f.driving.core a)
step m Always smss_of c h more driven f (Loses loss) a none = stays m Always f.driving.core a
step m Always smss_of c h more driven f (Measures trip) a none = stays m Always f.driving.core a

over-all : (now before out most : ℕ) → now ≤ max before out → before ≤ most → now ≤ max out most
over-all now before out most e f = omega (arith, e, f)

run : {S W : Type 0} (m : Machine S) (Always : S → Type 0) (smss_of : S → Option ℕ) (c : Control W) → CountsFlight m Always → LetsOutTwoMore c → FlowIsDriven m smss_of c
    → (f : Flowing S W) (calls : List (FlowCall S W)) → Always f.driving.core → AllUseNone m Always calls
    → Has m Always (after_flow_calls m smss_of c f calls).driving.core (most_let_out m smss_of c f calls)
run m Always smss_of c h more driven f [] a none = record { always = a; flight = omega arith }
run m Always smss_of c h more driven f (call ∷ earlier) a none =
    let before = run m Always smss_of c h more driven f earlier a none.1 in
    let r = step m Always smss_of c h more driven (after_flow_calls m smss_of c f earlier) call before.always none.0 in
    record { always = r.always; flight = over-all _ _ _ _ r.flight before.flight }

pub in_flight_lem : {S W : Type 0} (m : Machine S) (Always : S → Type 0) (smss_of : S → Option ℕ) (c : Control W) → CountsFlight m Always → FlowIsDriven m smss_of c
    → LetsOutTwoMore c → InFlightStaysInWindow m Always smss_of c
in_flight_lem m Always smss_of c h driven more f calls a none = (run m Always smss_of c h more driven f calls a none).flight

-- ---- EACH WINDOW
two-more : (cwnd smss duplicates : ℕ) (recovering : Bool) → (cwnd + (if recovering then 0 else min duplicates 2 * smss)) - 0 ≤ cwnd + 2 * smss
two-more cwnd smss duplicates true = omega arith
two-more cwnd smss duplicates false = by-count duplicates where
  by-count : (n : ℕ) → (cwnd + min n 2 * smss) - 0 ≤ cwnd + 2 * smss
  by-count zero = omega arith
  by-count (suc zero) = omega arith
  by-count (suc (suc n)) = let e : min (suc (suc n)) 2 ≡ 2 = omega arith in subst (λ k. (cwnd + k * smss) - 0 ≤ cwnd + 2 * smss) (sym e) (omega arith)

pub reno_lem : LetsOutTwoMore reno_control
reno_lem w = two-more w.cwnd w.smss w.duplicates w.is_recovering

pub cubic_lem : LetsOutTwoMore cubic_control
cubic_lem c = two-more c.window.cwnd c.window.smss c.window.duplicates c.window.is_recovering

pub any_lem : LetsOutTwoMore any_control
any_lem Unlimited = omega arith
any_lem (Reno w) = reno_lem w
any_lem (Cubic c) = cubic_lem c
