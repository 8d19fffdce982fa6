-- What is in the network stays in the window, whatever is called.
use Rattle.std.proofs.Common.{◌≡◌, ℕ, zero, suc, ◌+◌, ◌-◌, ◌<◌, ◌≤◌, Bool, true, false, List, [], ◌∷◌, Option, Some, None, arith, refl, sym, subst}
use Rattle.std.specs.Prelude.{◌&&◌, ◌||◌, nat_lt, nat_le, ◌==◌, if◌then◌else◌, min, max, is_some}
use Rattle.std.proofs.lemmas.Bool.Decides.{nat_tests}
use Rattle.tcp_congestion.specs.Control.{Control}
use Rattle.tcp_driver.specs.declared.machine.Sent.{Sent}
use Rattle.tcp_driver.specs.declared.machine.Timer.{Timer}
use Rattle.tcp_driver.specs.declared.machine.Way.{Way}
use Rattle.tcp_driver.specs.Calls.{Arrives, after_calls}
use Rattle.tcp_driver.specs.Driver.{Driving, after_taken, after_time_by, at, core_after, goes_back, holds, is_withheld, sent_of, waits, way_of}
use Rattle.tcp_driver.specs.Machine.{Machine}
use Rattle.tcp_driver.specs.Rows.{after_emissions, emissions_of}
use Rattle.tcp_driver.specs.Times.{expiry}
use Rattle.tcp_flow.specs.Calls.{FlowCall, Comes, Goes, GoesAsOne, Passes, Asks, Limits, Waits, Chooses, Loses, Measures, FlowIsDriven, Resends, Nothing, First, Between, after_flow_call, after_flow_calls, behind}
use Rattle.tcp_flow.specs.Flow.{Flowing, allowed, is_avoiding, is_idle, left_of, let_out_of, rested, row_of, una_of}
use Rattle.tcp_flow.specs.InFlight.{LetsOutTwoMore, let_out_by, let_out_in_turn}
use Rattle.tcp_network.specs.Network.{AllUseNone, CountsNetwork, NetworkStaysInWindow, UsesNone, forgotten, in_network, let_in, most_let_in, network_with, within}

-- WHAT AN END IS AFTER A CALL: what always holds does, and no more is in the network than this
record Has {S : Type 0} (m : Machine S) (Always : S → Type 0) (s : S) (most : ℕ) : Type 0 where
  always : Always s
  network : in_network m s ≤ most

-- and after a segment as much is reported as before
record GoesOn {S : Type 0} (m : Machine S) (Always : S → Type 0) (before s : S) (most : ℕ) : Type 0 where
  has : Has m Always s most
  reported : m.reported s ≡ m.reported before

-- ---- A SEGMENT GOES OUT within a window, as a probe, or without numbers
second : (x y : Bool) → x ≡ true → (x && y) ≡ false → y ≡ false
second true y e f = f
second false y e f = absurd (cc)

first : (x y : Bool) → (x || y) ≡ false → x ≡ false
first true y e = absurd (cc)
first false y e = refl

segment-by : (una reported network window most start count : ℕ) (none before : Bool) → (count == 0) ≡ none → nat_le start una ≡ before
    → (nat_lt una start && nat_lt (window - (start - una)) count) ≡ false → window ≤ most + reported
    → (if none then network else max network (start + count - una - reported)) ≤ max network (if none then 0 else (if before then count else most))
segment-by una reported network window most start count true before e f past fits = omega arith
segment-by una reported network window most start count false true e f past fits =
    let at-una : start ≤ una = grind (arith, nat_tests, f) in
    omega (arith, at-una)
segment-by una reported network window most start count false false e f past fits =
    let some : 0 < count = grind (arith, nat_tests, e) in
    let after : una < start = grind (arith, nat_tests, f) in
    let is-after : nat_lt una start ≡ true = grind (arith, nat_tests, after) in
    let not-past = second (nat_lt una start) (nat_lt (window - (start - una)) count) is-after past in
    let inside : count ≤ window - (start - una) = grind (arith, nat_tests, not-past) in
    omega (arith, some, after, inside, fits)

out-by : (una reported network window most : ℕ) (due : Option Sent) → waits due una window ≡ false → window ≤ most + reported
    → network_with una reported network due ≤ max network (let_out_by most una due)
out-by una reported network window most None goes fits = omega arith
out-by una reported network window most (Some sent) goes fits =
    segment-by una reported network window most sent.start sent.count (sent.count == 0) (nat_le sent.start una) refl refl goes fits

emits-by : {S : Type 0} (m : Machine S) (Always : S → Type 0) → CountsNetwork m Always → (s : S) (window most : ℕ) (held : Bool)
    → holds m s window ≡ held
    → window ≤ most + m.reported s → Always s
    → GoesOn m Always s (if held then m.emitted_alone s else m.emitted s)
    (max (in_network m s) (let_out_by most (m.una s) (if held then m.alone s else m.due s)))
emits-by m Always h s window most true e fits a =
    let r = h.alone s a in
    record { has = record { always = r.0; network = omega (arith, r.2) }; reported = r.1 }
emits-by m Always h s window most false e fits a =
    let r = h.emitted s a in
    let goes = first (waits (m.due s) (m.una s) window) (is_some (m.alone s) && goes_back (m.due s) (m.una s) (m.flight s)) e in
    let out = out-by (m.una s) (m.reported s) (in_network m s) window most (m.due s) goes fits in
    record { has = record { always = r.0; network = omega (arith, r.2, out) }; reported = r.1 }

emits : {S : Type 0} (m : Machine S) (Always : S → Type 0) → CountsNetwork m Always → (s : S) (window most : ℕ)
    → window ≤ most + m.reported s → Always s
    → GoesOn m Always s (core_after m s window) (max (in_network m s) (let_out_by most (m.una s) (sent_of m s window)))
emits m Always h s window most fits a = emits-by m Always h s window most (holds m s window) refl fits a

-- and more of them
joined : (a b c one rest : ℕ) → b ≤ max a one → c ≤ max b rest → c ≤ max a (max one rest)
joined a b c one rest e f = omega (arith, e, f)

many : {S : Type 0} (m : Machine S) (Always : S → Type 0) → CountsNetwork m Always → (count : ℕ) (d : Driving S) (now window most : ℕ)
    → window ≤ most + m.reported d.core → Always d.core
    → Has m Always (after_emissions m count d now window).core (max (in_network m d.core) (let_out_in_turn m most count d.core window))
unfolding after_emissions let_out_in_turn
many m Always h zero d now window most fits a = record { always = a; network = omega arith }
many {S = S} m Always h (suc more) d now window most fits a =
    let one = emits m Always h d.core window most fits a in
    let after : Driving S = _ in
    let rest = many m Always h more after now window most (subst (λ n. window ≤ most + n) (sym one.reported) fits) one.has.always in
    record { always = rest.always; network = joined _ _ _ _ _ one.has.network rest.network }

-- ---- AN ARRIVAL, and perhaps something again
arrives-by : {S : Type 0} (m : Machine S) (Always : S → Type 0) → CountsNetwork m Always
    → (d : Driving S) (now : ℕ) (src dst bytes : List ℕ) (way : Way) (lost : Bool) → Always d.core
    → Has m Always (if lost then d else after_taken m d now src dst bytes way).core (max (in_network m d.core) 0)
arrives-by m Always h d now src dst bytes way true a = record { always = a; network = omega arith }
arrives-by m Always h d now src dst bytes way false a =
    let r = h.arrived src dst bytes way d.core a in
    record { always = r.0; network = omega (arith, r.1) }

comes-by : {S : Type 0} (m : Machine S) (Always : S → Type 0) → CountsNetwork m Always
    → (d : Driving S) (now : ℕ) (src dst bytes : List ℕ) (vouched : Bool) (resends : Resends)
    → Always d.core
    → Has m Always (after_calls m d (behind m now resends (Arrives now src dst bytes vouched ∷ []))).core (max (in_network m d.core) 0)
comes-by m Always h d now src dst bytes vouched Nothing a =
    arrives-by m Always h d (at d now) src dst bytes (way_of d vouched) (d.times.bursting || is_withheld m d.core bytes) a
comes-by m Always h d now src dst bytes vouched First a =
    let one = arrives-by m Always h d (at d now) src dst bytes (way_of d vouched) (d.times.bursting || is_withheld m d.core bytes) a in
    let again = h.first_resent _ one.always in
    record { always = again.0; network = omega (arith, one.network, again.1) }
comes-by m Always h d now src dst bytes vouched (Between from to) a =
    let one = arrives-by m Always h d (at d now) src dst bytes (way_of d vouched) (d.times.bursting || is_withheld m d.core bytes) a in
    let again = h.resent from to _ one.always in
    record { always = again.0; network = omega (arith, one.network, again.1) }

-- ---- TIME PASSES
time-by : {S : Type 0} (m : Machine S) (Always : S → Type 0) → CountsNetwork m Always → (d : Driving S) (now : ℕ) (which : Option Timer)
    → Always d.core
    → Has m Always (after_time_by m d which now).core (max (in_network m d.core) (forgotten m d.core (after_time_by m d which now).core))
time-by m Always h d now None a = record { always = a; network = omega arith }
time-by m Always h d now (Some timer) a = let r = h.expired timer d.core a in record { always = r.0; network = r.1 }

-- ---- THE FLOW'S EMISSIONS end no further than that beside what blocks report
left-by : (reported : ℕ) (b : Bool) → (if b then reported else 0) ≤ reported
left-by reported true = omega arith
left-by reported false = omega arith

left-most : {S W : Type 0} (m : Machine S) (c : Control W) (g : Flowing S W) → left_of m c g ≤ m.reported g.driving.core
left-most m c g = left-by (m.reported g.driving.core) (g.patient && (is_avoiding c g && c.is_new_loss g.window (una_of m g)))

fits-by : (window cwnd room two left reported : ℕ) (limits some : Bool) → room ≤ cwnd + two → left ≤ reported
    → (if limits then min window (if some then cwnd + left else room) else window) ≤ (if limits then min window (cwnd + two) else window) + reported
fits-by window cwnd room two left reported true true more e = omega (arith, e)
fits-by window cwnd room two left reported true false more e = omega (arith, more)
fits-by window cwnd room two left reported false some more e = omega arith

fits-in : {S W : Type 0} (m : Machine S) (c : Control W) (g : Flowing S W) (window : ℕ) → LetsOutTwoMore c
    → allowed m c g window ≤ within c g window + m.reported g.driving.core
unfolding let_out_of
fits-in m c g window more =
    fits-by window (c.cwnd g.window) (c.room g.window 0) _ (left_of m c g) (m.reported g.driving.core) (c.limits g.window) (nat_lt 0 (left_of m c g))
    (omega (arith, more g.window)) (left-most m c g)

goes-by : {S W : Type 0} (m : Machine S) (Always : S → Type 0) (c : Control W) → CountsNetwork m Always → LetsOutTwoMore c
    → (f g : Flowing S W) (window : ℕ) → g.driving ≡ f.driving
    → Always f.driving.core
    → Has m Always (core_after m g.driving.core (allowed m c g window))
    (max (in_network m f.driving.core) (let_out_by (within c g window) (una_of m g) (sent_of m g.driving.core (allowed m c g window))))
goes-by m Always c h more f g window e a =
    let core = core_after m g.driving.core (allowed m c g window) in
    let out = let_out_by (within c g window) (una_of m g) (sent_of m g.driving.core (allowed m c g window)) in
    let r = emits m Always h g.driving.core (allowed m c g window) (within c g window) (fits-in m c g window more)
    (subst (λ d. Always d.core) (sym e) a) in
    record { always = r.has.always; network = subst (λ d. in_network m core ≤ max (in_network m d.core) out) e r.has.network }

train-by : {S W : Type 0} (m : Machine S) (Always : S → Type 0) (c : Control W) → CountsNetwork m Always → LetsOutTwoMore c
    → (f g : Flowing S W) (count now window : ℕ)
    → g.driving ≡ f.driving → Always f.driving.core
    → Has m Always (after_emissions m count g.driving now (allowed m c g window)).core
    (max (in_network m f.driving.core) (let_out_in_turn m (within c g window) count g.driving.core (allowed m c g window)))
train-by m Always c h more f g count now window e a =
    let core = (after_emissions m count g.driving now (allowed m c g window)).core in
    let out = let_out_in_turn m (within c g window) count g.driving.core (allowed m c g window) in
    let r = many m Always h count g.driving now (allowed m c g window) (within c g window) (fits-in m c g window more)
    (subst (λ d. Always d.core) (sym e) a) in
    record { always = r.always; network = subst (λ d. in_network m core ≤ max (in_network m d.core) out) e r.network }

-- ---- EACH CALL
rest-by : {S W : Type 0} (f : Flowing S W) (x : W) (b : Bool) → (if b then record f { window = x } else f).driving ≡ f.driving
rest-by f x true = refl
rest-by f x false = refl

chosen-by : {S W : Type 0} (f g : Flowing S W) (b : Bool) → f.driving ≡ g.driving → (if b then f else g).driving ≡ g.driving
chosen-by f g true e = e
chosen-by f g false e = refl

stays : {S : Type 0} (m : Machine S) (Always : S → Type 0) (s : S) → Always s → Has m Always s (max (in_network m s) 0)
stays m Always s a = record { always = a; network = omega arith }

step : {S W : Type 0} (m : Machine S) (Always : S → Type 0) (smss_of : S → Option ℕ) (c : Control W) → CountsNetwork m Always
    → LetsOutTwoMore c → FlowIsDriven m smss_of c
    → (f : Flowing S W) (call : FlowCall S W) → Always f.driving.core → UsesNone m Always call
    → Has m Always (after_flow_call m smss_of c f call).driving.core (max (in_network m f.driving.core) (let_in m c f call))
step m Always smss_of c h more driven f (Comes now src dst bytes vouched) a none =
    let is = driven f (Comes now src dst bytes vouched) in
    subst (λ d. Has m Always d.core (max (in_network m f.driving.core) 0)) (sym is.same) (comes-by m Always h f.driving now src dst bytes vouched is.resends a)
step m Always smss_of c h more driven f (Goes now window) a none =
    goes-by m Always c h more f (rested m c f now) window (rest-by f (c.idle f.window) (c.limits f.window && is_idle m f now)) a
step m Always smss_of c h more driven f (GoesAsOne now window most room) a none =
    train-by m Always c h more f (rested m c f now) (emissions_of (row_of m c (rested m c f now) window most room)) (at (rested m c f now).driving now) window
    (rest-by f (c.idle f.window) (c.limits f.window && is_idle m f now)) a
step m Always smss_of c h more driven f (Passes now) a none = time-by m Always h f.driving (at f.driving now) (expiry f.driving.times (at f.driving now)) a
step m Always smss_of c h more driven f (Asks now does) a none =
    let r = none f.driving.core a in
    record { always = r.0; network = r.1 }
step m Always smss_of c h more driven f (Limits limit) a none = stays m Always f.driving.core a
step m Always smss_of c h more driven f (Waits patient) a none = stays m Always f.driving.core a
step m Always smss_of c h more driven f (Chooses window) a none =
    subst (λ d. Has m Always d.core (max (in_network m f.driving.core) 0)) (sym (chosen-by _ _ (c.limits window) refl)) (stays m Always f.driving.core a)
step m Always smss_of c h more driven f (Loses loss) a none = stays m Always f.driving.core a
step m Always smss_of c h more driven f (Measures trip) a none = stays m Always f.driving.core a

run : {S W : Type 0} (m : Machine S) (Always : S → Type 0) (smss_of : S → Option ℕ) (c : Control W) → CountsNetwork m Always
    → LetsOutTwoMore c → FlowIsDriven m smss_of c
    → (f : Flowing S W) (calls : List (FlowCall S W)) → Always f.driving.core → AllUseNone m Always calls
    → Has m Always (after_flow_calls m smss_of c f calls).driving.core (most_let_in m smss_of c f calls)
run m Always smss_of c h more driven f [] a none = record { always = a; network = omega arith }
run m Always smss_of c h more driven f (call ∷ earlier) a none =
    let before = run m Always smss_of c h more driven f earlier a none.1 in
    let r = step m Always smss_of c h more driven (after_flow_calls m smss_of c f earlier) call before.always none.0 in
    record { always = r.always; network = omega (arith, r.network, before.network) }

pub network_lem : {S W : Type 0} (m : Machine S) (Always : S → Type 0) (smss_of : S → Option ℕ) (c : Control W) → CountsNetwork m Always
    → FlowIsDriven m smss_of c
    → LetsOutTwoMore c → NetworkStaysInWindow m Always smss_of c
network_lem m Always smss_of c h driven more f calls a none = (run m Always smss_of c h more driven f calls a none).network
