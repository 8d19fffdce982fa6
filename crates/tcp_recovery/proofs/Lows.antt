-- No number of a stretch was sent last before the first time of the stretch.
use Rattle.std.proofs.Common.{◌≡◌, ℕ, ◌+◌, ◌/◌, ◌<◌, ◌≤◌, inl, inr, Bool, true, false, List, [], ◌∷◌, ◌++◌, length, arith, refl, subst}
use Rattle.std.specs.Prelude.{◌&&◌, ◌==◌, not, min, max, nat_lt, nat_le, if◌then◌else◌}
use Rattle.std.proofs.lemmas.Bool.Decides.{nat_tests}
use Rattle.tcp_recovery.specs.declared.stretch.Stretch.{Stretch}
use Rattle.tcp_recovery.specs.Stretches.{AreInOrder, appended, before, behind, between, cut_out, distance, extends, fitted, followed_by, joined, least_distance, max_stretches, segment, thinned, with_joined, without}
use Rattle.tcp_recovery.specs.Delivered.{after_deliveries}
use Rattle.tcp_recovery.specs.Rack.{Flight, IsFlight}
use Rattle.tcp_recovery.specs.History.{Event, Sent, Received, Recovered, Settled, IsIn, IsOut, SentLast, flight_after}
use Rattle.tcp_recovery.proofs.Order.{before-order, behind-order}
use Rattle.tcp_recovery.proofs.Covering.{kept}

abbrev pub Lows : ℕ → ℕ → List Stretch → Type 0
Lows p at [] = Unit {0}
Lows p at (s ∷ later) = (IsIn p s.start s.end → s.first ≤ at) × Lows p at later

lows-append : (p at : ℕ) (all more : List Stretch) → Lows p at all → Lows p at more → Lows p at (all ++ more)
lows-append p at [] more l m = m
lows-append p at (s ∷ later) more l m = (l.0, lows-append p at later more (l.1) m)

before-step : (p at x : ℕ) (s : Stretch) (later : List Stretch) (b : Bool) → (IsIn p s.start s.end → s.first ≤ at) → Lows p at (before x later)
    → Lows p at (if b then record s { end = min s.end x } ∷ before x later else before x later)
before-step p at x s later true l m =
    ((λ h. let below : p < min s.end x = h.1 in l (h.0, omega (arith, below))), m)
before-step p at x s later false l m = m

pub lows-before : (p at x : ℕ) (all : List Stretch) → Lows p at all → Lows p at (before x all)
lows-before p at x [] l = tt
lows-before p at x (s ∷ later) l = before-step p at x s later (nat_lt s.start x) (l.0) (lows-before p at x later (l.1))

behind-step : (p at x : ℕ) (s : Stretch) (later : List Stretch) (b : Bool) → (IsIn p s.start s.end → s.first ≤ at) → Lows p at (behind x later)
    → Lows p at (if b then record s { start = max s.start x } ∷ behind x later else behind x later)
behind-step p at x s later true l m =
    ((λ h. let above : max s.start x ≤ p = h.0 in l (omega (arith, above), h.1)), m)
behind-step p at x s later false l m = m

pub lows-behind : (p at x : ℕ) (all : List Stretch) → Lows p at all → Lows p at (behind x all)
lows-behind p at x [] l = tt
lows-behind p at x (s ∷ later) l = behind-step p at x s later (nat_lt x s.end) (l.0) (lows-behind p at x later (l.1))

-- a number is in or out
pub apart : (p start end : ℕ) → IsOut p start end → IsIn p start end → ⊥
apart p start end (inl below) within = let above : start ≤ p = within.0 in omega (arith, below, above)
apart p start end (inr above) within = let below : p < end = within.1 in omega (arith, below, above)

pub last : (from to : ℕ) (all : List Stretch) → AreInOrder from to all → from ≤ to
last from to [] o = o
last from to (s ∷ later) o =
    let rest : s.end ≤ to = last s.end to later (o.2) in
    let least : from ≤ s.start = o.0 in
    let some : s.start < s.end = o.1 in
    omega (arith, rest, least, some)

-- numbers that no stretch has
none-before : (p at from to : ℕ) (all : List Stretch) → to ≤ p → AreInOrder from to all → Lows p at all
none-before p at from to [] h o = tt
none-before p at from to (s ∷ later) h o =
    let rest : s.end ≤ to = last s.end to later (o.2) in
    ((λ within. let below : p < s.end = within.1 in absurd (omega (arith, rest, h, below))), none-before p at s.end to later h (o.2))

none-behind : (p at from to : ℕ) (all : List Stretch) → p < from → AreInOrder from to all → Lows p at all
none-behind p at from to [] h o = tt
none-behind p at from to (s ∷ later) h o =
    let least : from ≤ s.start = o.0 in
    let some : s.start < s.end = o.1 in (
      (λ within. let above : s.start ≤ p = within.0 in absurd (omega (arith, least, above, h))),
      none-behind p at s.end to later (omega (arith, least, some, h)) (o.2),
    )

-- ---- what is called
lows-without : (p at start end : ℕ) (all : List Stretch) → Lows p at all → Lows p at (without start end all)
lows-without p at start end all l =
    lows-append p at (before start all) (behind end all) (lows-before p at start all l) (lows-behind p at end all l)

lows-cut-old : (p at start end now : ℕ) (all : List Stretch) → IsOut p start end → Lows p at all → Lows p at (cut_out start end now all)
lows-cut-old p at start end now all outside l =
    lows-append p at (before start all) (segment start end now true ∷ behind end all) (lows-before p at start all l)
    ((λ within. absurd (apart p start end outside within)), lows-behind p at end all l)

lows-cut-new : (p to start end now : ℕ) (all : List Stretch) → IsIn p start end → AreInOrder 0 to all → Lows p now (cut_out start end now all)
lows-cut-new p to start end now all within o =
    let above : start ≤ p = within.0 in
    let below : p < end = within.1 in
    lows-append p now (before start all) (segment start end now true ∷ behind end all)
    (none-before p now (min 0 start) start (before start all) above (before-order 0 to start all o))
    ((λ h. omega arith), none-behind p now (max 0 end) (max to end) (behind end all) (omega (arith, below)) (behind-order 0 to end all o))

-- new text extends what it follows
follows : (a b c : Bool) → (a && b && c) ≡ true → b ≡ true
follows true true c e = refl
follows true false c e = absurd (cc)
follows false b c e = absurd (cc)

extended-old : (p at start end now span : ℕ) (s : Stretch) (b : Bool) → extends s start now span ≡ b → IsOut p start end → (IsIn p s.start s.end → s.first ≤ at)
    → Lows p at (if b then followed_by s end now ∷ [] else s ∷ segment start end now false ∷ [])
extended-old p at start end now span s true e outside l =
    let touches : (s.end == start) ≡ true = follows (not s.is_again) (s.end == start) (nat_le now (s.first + span)) e in
    let same : s.end ≡ start = grind (arith, nat_tests, touches) in
    ((λ within. smaller (l (within.0, inside outside within same))), tt)
  where
    inside : IsOut p start end → IsIn p s.start end → s.end ≡ start → p < s.end
    inside (inl below) within same = omega (arith, below, same)
    inside (inr above) within same = let below : p < end = within.1 in absurd (omega (arith, above, below))

    smaller : s.first ≤ at → min s.first now ≤ at
    smaller h = omega (arith, h)
extended-old p at start end now span s false e outside l = (l, ((λ within. absurd (apart p start end outside within)), tt))

lows-appended-old : (p at start end now span : ℕ) (all : List Stretch) → IsOut p start end → Lows p at all → Lows p at (appended start end now span all)
lows-appended-old p at start end now span [] outside l = ((λ within. absurd (apart p start end outside within)), tt)
lows-appended-old p at start end now span (s ∷ []) outside l = extended-old p at start end now span s (extends s start now span) refl outside (l.0)
lows-appended-old p at start end now span (s ∷ next ∷ later) outside l =
    (l.0, lows-appended-old p at start end now span (next ∷ later) outside (l.1))

extended-new : (p start end now : ℕ) (s : Stretch) (b : Bool) → start ≤ p → s.end ≤ start
    → Lows p now (if b then followed_by s end now ∷ [] else s ∷ segment start end now false ∷ [])
extended-new p start end now s true above ends = ((λ h. omega arith), tt)
extended-new p start end now s false above ends =
    ((λ h. let below : p < s.end = h.1 in absurd (omega (arith, above, ends, below))), ((λ h. omega arith), tt))

lows-appended-new : (p from mid start end now span : ℕ) (all : List Stretch) → mid ≤ start → start ≤ p → AreInOrder from mid all
    → Lows p now (appended start end now span all)
lows-appended-new p from mid start end now span [] m above o = ((λ h. omega arith), tt)
lows-appended-new p from mid start end now span (s ∷ []) m above o =
    let low : s.end ≤ mid = o.2 in
    extended-new p start end now s (extends s start now span) above (omega (arith, low, m))
lows-appended-new p from mid start end now span (s ∷ next ∷ later) m above o =
    let rest : s.end ≤ mid = last s.end mid (next ∷ later) (o.2) in (
      (λ h. let below : p < s.end = h.1 in absurd (omega (arith, above, rest, below, m))),
      lows-appended-new p s.end mid start end now span (next ∷ later) m above (o.2),
    )

-- two neighbours are joined
joined-low : (p at : ℕ) (s next : Stretch) (b : Bool) → (s.end == next.start) ≡ b → (IsIn p s.start s.end → s.first ≤ at)
    → (IsIn p next.start next.end → next.first ≤ at) → IsIn p s.start next.end → (if b then min s.first next.first else 0) ≤ at
joined-low p at s next true e l m within =
    let same : s.end ≡ next.start = grind (arith, nat_tests, e) in
    by (nat_lt p s.end) refl same
  where
    by : (d : Bool) → nat_lt p s.end ≡ d → s.end ≡ next.start → min s.first next.first ≤ at
    by true f same =
        let below : p < s.end = grind (arith, nat_tests, f) in
        let low : s.first ≤ at = l (within.0, below) in
        omega (arith, low)
    by false f same =
        let above : s.end ≤ p = grind (arith, nat_tests, f) in
        let low : next.first ≤ at = m (omega (arith, above, same), within.1) in
        omega (arith, low)
joined-low p at s next false e l m within = omega arith

joined-by : (p at least : ℕ) (s next : Stretch) (later : List Stretch) (b : Bool) → Lows p at (s ∷ next ∷ later)
    → Lows p at (with_joined least (next ∷ later)) → Lows p at (if b then joined s next ∷ later else s ∷ with_joined least (next ∷ later))
joined-by p at least s next later true l rest = (joined-low p at s next (s.end == next.start) refl (l.0) (l.1.0), l.1.1)
joined-by p at least s next later false l rest = (l.0, rest)

lows-joined : (p at least : ℕ) (all : List Stretch) → Lows p at all → Lows p at (with_joined least all)
lows-joined p at least [] l = l
lows-joined p at least (s ∷ []) l = l
lows-joined p at least (s ∷ next ∷ later) l =
    joined-by p at least s next later (nat_le (distance s next) least) l (lows-joined p at least (next ∷ later) (l.1))

lows-thinned : (p at : ℕ) (all : List Stretch) → Lows p at all → Lows p at (thinned all)
lows-thinned p at [] l = l
lows-thinned p at (s ∷ []) l = l
lows-thinned p at (s ∷ next ∷ later) l = lows-joined p at (least_distance (distance s next) (next ∷ later)) (s ∷ next ∷ later) l

fitted-by : (p at : ℕ) (all : List Stretch) (b : Bool) → Lows p at all → Lows p at (if b then thinned all else all)
fitted-by p at all true l = lows-thinned p at all l
fitted-by p at all false l = l

lows-fitted : (p at : ℕ) (all : List Stretch) → Lows p at all → Lows p at (fitted all)
lows-fitted p at all l = fitted-by p at all (nat_lt max_stretches (length all)) l

-- ---- over all calls
placed : (p start end now min_rtt : ℕ) (f : Flight) (b : Bool) → nat_le f.next start ≡ b → IsFlight f → IsIn p start end
    → Lows p now (if b then fitted (appended start end now (min_rtt / 64) f.stretches) else fitted (fitted (cut_out start end now f.stretches)))
placed p start end now min_rtt f true e k within =
    lows-fitted p now (appended start end now (min_rtt / 64) f.stretches)
    (lows-appended-new p 0 f.next start end now (min_rtt / 64) f.stretches (grind (arith, nat_tests, e)) (within.0) k.order)
placed p start end now min_rtt f false e k within =
    lows-fitted p now (fitted (cut_out start end now f.stretches))
    (lows-fitted p now (cut_out start end now f.stretches) (lows-cut-new p f.next start end now f.stretches within k.order))

passed : (p at start end now min_rtt : ℕ) (f : Flight) (b : Bool) → IsOut p start end → Lows p at f.stretches
    → Lows p at (if b then fitted (appended start end now (min_rtt / 64) f.stretches) else fitted (fitted (cut_out start end now f.stretches)))
passed p at start end now min_rtt f true outside l =
    lows-fitted p at (appended start end now (min_rtt / 64) f.stretches) (lows-appended-old p at start end now (min_rtt / 64) f.stretches outside l)
passed p at start end now min_rtt f false outside l =
    lows-fitted p at (fitted (cut_out start end now f.stretches))
    (lows-fitted p at (cut_out start end now f.stretches) (lows-cut-old p at start end now f.stretches outside l))

sent-in : (p start count now min_rtt : ℕ) (f : Flight) (b : Bool) → (count == 0) ≡ b → IsFlight f → IsIn p start (start + count)
    → Lows p now (if b then f else record f {
      stretches = if nat_le f.next start then fitted (appended start (start + count) now (min_rtt / 64) f.stretches) else fitted (fitted (cut_out start (start + count) now f.stretches));
      next = max f.next (start + count);
    }).stretches
sent-in p start count now min_rtt f true e k within =
    let none : count ≡ 0 = grind (arith, nat_tests, e) in
    let above : start ≤ p = within.0 in
    let below : p < start + count = within.1 in
    absurd (omega (arith, none, above, below))
sent-in p start count now min_rtt f false e k within = placed p start (start + count) now min_rtt f (nat_le f.next start) refl k within

sent-out : (p at start count now min_rtt : ℕ) (f : Flight) (b : Bool) → IsOut p start (start + count) → Lows p at f.stretches
    → Lows p at (if b then f else record f {
      stretches = if nat_le f.next start then fitted (appended start (start + count) now (min_rtt / 64) f.stretches) else fitted (fitted (cut_out start (start + count) now f.stretches));
      next = max f.next (start + count);
    }).stretches
sent-out p at start count now min_rtt f true outside l = l
sent-out p at start count now min_rtt f false outside l = passed p at start (start + count) now min_rtt f (nat_le f.next start) outside l

received : (p at start end now min_rtt : ℕ) (f : Flight) (b : Bool) → Lows p at f.stretches
    → Lows p at (if b then record f {
      stretches = fitted (without start end f.stretches);
      delivered = after_deliveries f.delivered (between start end f.stretches) now min_rtt f.next;
    } else f).stretches
received p at start end now min_rtt f true l = lows-fitted p at (without start end f.stretches) (lows-without p at start end f.stretches l)
received p at start end now min_rtt f false l = l

settled : (p at start end : ℕ) (f : Flight) (b : Bool) → Lows p at f.stretches
    → Lows p at (if b then record f { stretches = fitted (without start end f.stretches) } else f).stretches
settled p at start end f true l = lows-fitted p at (without start end f.stretches) (lows-without p at start end f.stretches l)
settled p at start end f false l = l

pub low : (p at : ℕ) (events : List Event) → SentLast p at events → Lows p at (flight_after events).stretches
low p at [] h = absurd h
low p at (Sent start count now min_rtt ∷ earlier) (inl new) =
    let P : ℕ → Type 0 = λ time. Lows p time (flight_after (Sent start count now min_rtt ∷ earlier)).stretches in
    subst P (new.1) (sent-in p start count now min_rtt (flight_after earlier) (count == 0) refl (kept earlier) (new.0))
low p at (Sent start count now min_rtt ∷ earlier) (inr old) =
    sent-out p at start count now min_rtt (flight_after earlier) (count == 0) (old.0) (low p at earlier (old.1))
low p at (Received start end now min_rtt ∷ earlier) h =
    let f : Flight = flight_after earlier in
    received p at start (min f.next end) now min_rtt f (nat_lt start (min f.next end)) (low p at earlier h)
low p at (Settled start end ∷ earlier) h =
    let f : Flight = flight_after earlier in
    settled p at start (min f.next end) f (nat_lt start (min f.next end)) (low p at earlier h)
low p at (Recovered ∷ earlier) h = low p at earlier h
