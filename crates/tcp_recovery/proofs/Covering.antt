-- Each number that is outstanding is in a stretch.
use Rattle.std.proofs.Common.{◌≡◌, ℕ, suc, ◌+◌, ◌/◌, ◌<◌, ◌≤◌, inl, inr, Bool, true, false, List, [], ◌∷◌, arith, refl, subst}
use Rattle.std.specs.Prelude.{◌⊎◌, ◌==◌, ◌&&◌, min, max, nat_lt, nat_le, if◌then◌else◌}
use Rattle.std.proofs.lemmas.Bool.Decides.{nat_tests}
use Rattle.tcp_recovery.specs.declared.stretch.Stretch.{Stretch}
use Rattle.tcp_recovery.specs.Stretches.{AreInOrder, appended, cut_out, fitted, without}
use Rattle.tcp_recovery.specs.Delivered.{after_deliveries}
use Rattle.tcp_recovery.specs.Rack.{Flight, IsFlight}
use Rattle.tcp_recovery.specs.History.{Event, Sent, Received, Recovered, Settled, IsIn, IsOut, IsOutstanding, flight_after}
use Rattle.tcp_recovery.specs.Laws.{Covers, StretchesCover, count_with}
use Rattle.tcp_recovery.specs.Stretches.{between}
use Rattle.tcp_recovery.proofs.Order.{appended-order, cut-order, fitted-order, without-order}
use Rattle.tcp_recovery.proofs.Flights.{flight-again, flight-new, flight-without}
use Rattle.tcp_recovery.proofs.Having.{Has, appended-has, cut-has, had, has-appended, has-cut, has-fitted, has-without}

-- ---- in order, and few
new-or-again : (f : Flight) (start end now min_rtt : ℕ) (b : Bool) → nat_le f.next start ≡ b → start < end → IsFlight f
    → IsFlight (record f {
      stretches = if b then fitted (appended start end now (min_rtt / 64) f.stretches) else fitted (fitted (cut_out start end now f.stretches));
      next = max f.next end;
    })
new-or-again f start end now min_rtt true e some k =
    flight-new f _ _ f.delivered start end now (min_rtt / 64) k (grind (arith, nat_tests, e)) some refl refl
new-or-again f start end now min_rtt false e some k = flight-again f _ _ f.delivered start end now k some refl refl

sent-by : (f : Flight) (start count now min_rtt : ℕ) (b : Bool) → (count == 0) ≡ b → IsFlight f
    → IsFlight (if b then f else record f {
      stretches = if nat_le f.next start then fitted (appended start (start + count) now (min_rtt / 64) f.stretches) else fitted (fitted (cut_out start (start + count) now f.stretches));
      next = max f.next (start + count);
    })
sent-by f start count now min_rtt true e k = k
sent-by f start count now min_rtt false e k =
    new-or-again f start (start + count) now min_rtt (nat_le f.next start) refl (grind (arith, nat_tests, e)) k

received-by : (f : Flight) (start end now min_rtt : ℕ) (b : Bool) → nat_lt start end ≡ b → end ≤ f.next → IsFlight f
    → IsFlight (if b then record f {
      stretches = fitted (without start end f.stretches);
      delivered = after_deliveries f.delivered (between start end f.stretches) now min_rtt f.next;
    } else f)
received-by f start end now min_rtt true e within k =
    let less : start < end = grind (arith, nat_tests, e) in
    flight-without f _ (after_deliveries f.delivered (between start end f.stretches) now min_rtt f.next) start end k (omega (arith, less)) within refl
received-by f start end now min_rtt false e within k = k

settled-by : (f : Flight) (start end : ℕ) (b : Bool) → nat_lt start end ≡ b → end ≤ f.next → IsFlight f
    → IsFlight (if b then record f { stretches = fitted (without start end f.stretches) } else f)
settled-by f start end true e within k =
    let less : start < end = grind (arith, nat_tests, e) in
    flight-without f _ f.delivered start end k (omega (arith, less)) within refl
settled-by f start end false e within k = k

pub kept : (events : List Event) → IsFlight (flight_after events)
kept [] = record { order = omega arith; few = omega arith }
kept (Sent start count now min_rtt ∷ earlier) = sent-by (flight_after earlier) start count now min_rtt (count == 0) refl (kept earlier)
kept (Received start end now min_rtt ∷ earlier) =
    received-by (flight_after earlier) start (min (flight_after earlier).next end) now min_rtt (nat_lt start (min (flight_after earlier).next end)) refl
    (omega arith) (kept earlier)
kept (Settled start end ∷ earlier) =
    let next : ℕ = (flight_after earlier).next in
    settled-by (flight_after earlier) start (min next end) (nat_lt start (min next end)) refl (omega arith) (kept earlier)
kept (Recovered ∷ earlier) = let k : IsFlight (flight_after earlier) = kept earlier in record { order = k.order; few = k.few }

-- ---- sent never, and once
abbrev pub NeverSent : ℕ → List Event → Type 0
NeverSent p [] = Unit {0}
NeverSent p (Sent start count now min_rtt ∷ earlier) = IsOut p start (start + count) × NeverSent p earlier
NeverSent p (Received start end now min_rtt ∷ earlier) = NeverSent p earlier
NeverSent p (Settled start end ∷ earlier) = NeverSent p earlier
NeverSent p (Recovered ∷ earlier) = NeverSent p earlier

abbrev pub SentOnce : ℕ → List Event → Type 0
SentOnce p [] = ⊥
SentOnce p (Sent start count now min_rtt ∷ earlier) =
    (IsIn p start (start + count) × NeverSent p earlier) ⊎ (IsOut p start (start + count) × SentOnce p earlier)
SentOnce p (Received start end now min_rtt ∷ earlier) = SentOnce p earlier
SentOnce p (Settled start end ∷ earlier) = SentOnce p earlier
SentOnce p (Recovered ∷ earlier) = SentOnce p earlier

-- SND.NXT, whatever the call
pub next-sent : (f : Flight) (start count now min_rtt : ℕ) (b : Bool) → (count == 0) ≡ b
    → (((if b then f else record f {
      stretches = if nat_le f.next start then fitted (appended start (start + count) now (min_rtt / 64) f.stretches) else fitted (fitted (cut_out start (start + count) now f.stretches));
      next = max f.next (start + count);
    }).next ≡ f.next) × (count ≡ 0)) ⊎ ((if b then f else record f {
      stretches = if nat_le f.next start then fitted (appended start (start + count) now (min_rtt / 64) f.stretches) else fitted (fitted (cut_out start (start + count) now f.stretches));
      next = max f.next (start + count);
    }).next ≡ max f.next (start + count))
next-sent f start count now min_rtt true e = inl (refl, grind (arith, nat_tests, e))
next-sent f start count now min_rtt false e = inr refl

-- a number is before a position or not
pub lies : (p start : ℕ) (b : Bool) → nat_lt p start ≡ b → (p < start) ⊎ (start ≤ p)
lies p start true e = inl (grind (arith, nat_tests, e))
lies p start false e = inr (grind (arith, nat_tests, e))

out-of-none : (p start count : ℕ) → count ≡ 0 → (p < start) ⊎ (start ≤ p) → IsOut p start (start + count)
out-of-none p start count none (inl below) = inl below
out-of-none p start count none (inr above) = inr (omega (arith, none, above))

out-by : (p start count next after : ℕ) → (((after ≡ next) × (count ≡ 0)) ⊎ (after ≡ max next (start + count))) → after ≤ p
    → IsOut p start (start + count) × (next ≤ p)
out-by p start count next after (inl both) h =
    let same : after ≡ next = both.0 in
    (out-of-none p start count (both.1) (lies p start (nat_lt p start) refl), omega (arith, same, h))
out-by p start count next after (inr same) h = (inr (omega (arith, same, h)), omega (arith, same, h))

pub next-received : (f : Flight) (start end now min_rtt : ℕ) (b : Bool) → (if b then record f {
  stretches = fitted (without start end f.stretches);
  delivered = after_deliveries f.delivered (between start end f.stretches) now min_rtt f.next;
} else f).next ≡ f.next
next-received f start end now min_rtt true = refl
next-received f start end now min_rtt false = refl

pub next-settled : (f : Flight) (start end : ℕ) (b : Bool)
    → (if b then record f { stretches = fitted (without start end f.stretches) } else f).next ≡ f.next
next-settled f start end true = refl
next-settled f start end false = refl

-- what is from SND.NXT on was never sent
pub never : (p : ℕ) (events : List Event) → (flight_after events).next ≤ p → NeverSent p events
never p [] h = tt
never p (Sent start count now min_rtt ∷ earlier) h =
    let both = out-by p start count (flight_after earlier).next (flight_after (Sent start count now min_rtt ∷ earlier)).next
    (next-sent (flight_after earlier) start count now min_rtt (count == 0) refl) h in
    (both.0, never p earlier (both.1))
never p (Received start end now min_rtt ∷ earlier) h =
    let f : Flight = flight_after earlier in
    let same : (flight_after (Received start end now min_rtt ∷ earlier)).next ≡ f.next =
    next-received f start (min f.next end) now min_rtt (nat_lt start (min f.next end)) in
    never p earlier (omega (arith, same, h))
never p (Settled start end ∷ earlier) h =
    let f : Flight = flight_after earlier in
    let same : (flight_after (Settled start end ∷ earlier)).next ≡ f.next = next-settled f start (min f.next end) (nat_lt start (min f.next end)) in
    never p earlier (omega (arith, same, h))
never p (Recovered ∷ earlier) h = never p earlier h

-- ---- outstanding numbers are in stretches
placed : (p start end now min_rtt : ℕ) (f : Flight) (o : Type 0) (b : Bool) → nat_le f.next start ≡ b → start < end → IsFlight f → IsIn p start end
    → (f.next ≤ p → o)
    → Has p now o (if b then fitted (appended start end now (min_rtt / 64) f.stretches) else fitted (fitted (cut_out start end now f.stretches)))
placed p start end now min_rtt f o true e some k within once =
    let new : f.next ≤ start = grind (arith, nat_tests, e) in
    let above : start ≤ p = within.0 in
    has-fitted p now 0 end o (appended start end now (min_rtt / 64) f.stretches)
    (appended-order 0 f.next start end now (min_rtt / 64) f.stretches new some k.order)
    (appended-has p 0 f.next start end now (min_rtt / 64) o f.stretches new k.order within (once (omega (arith, new, above))))
placed p start end now min_rtt f o false e some k within once =
    let order : AreInOrder 0 (max f.next end) (cut_out start end now f.stretches) = cut-order f.next start end now f.stretches some k.order in
    has-fitted p now 0 (max f.next end) o (fitted (cut_out start end now f.stretches))
    (fitted-order 0 (max f.next end) (cut_out start end now f.stretches) order)
    (has-fitted p now 0 (max f.next end) o (cut_out start end now f.stretches) order (cut-has p start end now o f.stretches within))

passed : (p at start end now min_rtt : ℕ) (f : Flight) (o : Type 0) (b : Bool) → nat_le f.next start ≡ b → start < end → IsFlight f → IsOut p start end
    → Has p at o f.stretches
    → Has p at o (if b then fitted (appended start end now (min_rtt / 64) f.stretches) else fitted (fitted (cut_out start end now f.stretches)))
passed p at start end now min_rtt f o true e some k outside h =
    let new : f.next ≤ start = grind (arith, nat_tests, e) in
    has-fitted p at 0 end o (appended start end now (min_rtt / 64) f.stretches)
    (appended-order 0 f.next start end now (min_rtt / 64) f.stretches new some k.order)
    (has-appended p at 0 f.next start end now (min_rtt / 64) o f.stretches new some k.order h)
passed p at start end now min_rtt f o false e some k outside h =
    let order : AreInOrder 0 (max f.next end) (cut_out start end now f.stretches) = cut-order f.next start end now f.stretches some k.order in
    has-fitted p at 0 (max f.next end) o (fitted (cut_out start end now f.stretches))
    (fitted-order 0 (max f.next end) (cut_out start end now f.stretches) order)
    (has-fitted p at 0 (max f.next end) o (cut_out start end now f.stretches) order (has-cut p at start end now o f.stretches outside h))

sent-in : (p start count now min_rtt : ℕ) (f : Flight) (o : Type 0) (b : Bool) → (count == 0) ≡ b → IsFlight f → IsIn p start (start + count)
    → (f.next ≤ p → o)
    → Has p now o (if b then f else record f {
      stretches = if nat_le f.next start then fitted (appended start (start + count) now (min_rtt / 64) f.stretches) else fitted (fitted (cut_out start (start + count) now f.stretches));
      next = max f.next (start + count);
    }).stretches
sent-in p start count now min_rtt f o true e k within once =
    let none : count ≡ 0 = grind (arith, nat_tests, e) in
    let above : start ≤ p = within.0 in
    let below : p < start + count = within.1 in
    absurd (omega (arith, none, above, below))
sent-in p start count now min_rtt f o false e k within once =
    placed p start (start + count) now min_rtt f o (nat_le f.next start) refl (grind (arith, nat_tests, e)) k within once

sent-out : (p at start count now min_rtt : ℕ) (f : Flight) (o : Type 0) (b : Bool) → (count == 0) ≡ b → IsFlight f → IsOut p start (start + count)
    → Has p at o f.stretches
    → Has p at o (if b then f else record f {
      stretches = if nat_le f.next start then fitted (appended start (start + count) now (min_rtt / 64) f.stretches) else fitted (fitted (cut_out start (start + count) now f.stretches));
      next = max f.next (start + count);
    }).stretches
sent-out p at start count now min_rtt f o true e k outside h = h
sent-out p at start count now min_rtt f o false e k outside h =
    passed p at start (start + count) now min_rtt f o (nat_le f.next start) refl (grind (arith, nat_tests, e)) k outside h

out-of-less : (p start end next : ℕ) → IsOut p start end → IsOut p start (min next end)
out-of-less p start end next (inl below) = inl below
out-of-less p start end next (inr above) = inr (omega (arith, above))

not-received : (p at start end now min_rtt : ℕ) (f : Flight) (o : Type 0) (b : Bool) → nat_lt start end ≡ b → IsFlight f → IsOut p start end
    → Has p at o f.stretches
    → Has p at o (if b then record f {
      stretches = fitted (without start end f.stretches);
      delivered = after_deliveries f.delivered (between start end f.stretches) now min_rtt f.next;
    } else f).stretches
not-received p at start end now min_rtt f o true e k outside h =
    let less : start < end = grind (arith, nat_tests, e) in
    has-fitted p at 0 (max f.next end) o (without start end f.stretches) (without-order f.next start end f.stretches (omega (arith, less)) k.order)
    (has-without p at start end o f.stretches outside h)
not-received p at start end now min_rtt f o false e k outside h = h

not-settled : (p at start end : ℕ) (f : Flight) (o : Type 0) (b : Bool) → nat_lt start end ≡ b → IsFlight f → IsOut p start end
    → Has p at o f.stretches → Has p at o (if b then record f { stretches = fitted (without start end f.stretches) } else f).stretches
not-settled p at start end f o true e k outside h =
    let less : start < end = grind (arith, nat_tests, e) in
    has-fitted p at 0 (max f.next end) o (without start end f.stretches) (without-order f.next start end f.stretches (omega (arith, less)) k.order)
    (has-without p at start end o f.stretches outside h)
not-settled p at start end f o false e k outside h = h

pub always : (p at : ℕ) (events : List Event) → IsOutstanding p at events → Has p at (SentOnce p events) (flight_after events).stretches
always p at [] h = absurd h
always p at (Sent start count now min_rtt ∷ earlier) (inl new) =
    let o : Type 0 = SentOnce p (Sent start count now min_rtt ∷ earlier) in
    let here : Has p now o (flight_after (Sent start count now min_rtt ∷ earlier)).stretches =
    sent-in p start count now min_rtt (flight_after earlier) o (count == 0) refl (kept earlier) (new.0)
    (λ above. inl (new.0, never p earlier above)) in
    let P : ℕ → Type 0 = λ time. Has p time o (flight_after (Sent start count now min_rtt ∷ earlier)).stretches in
    subst P (new.1) here
always p at (Sent start count now min_rtt ∷ earlier) (inr old) =
    sent-out p at start count now min_rtt (flight_after earlier) (SentOnce p (Sent start count now min_rtt ∷ earlier)) (count == 0) refl (kept earlier)
    (old.0) (had p at (SentOnce p earlier) (SentOnce p (Sent start count now min_rtt ∷ earlier)) (flight_after earlier).stretches
    (λ once. inr (old.0, once)) (always p at earlier (old.1)))
always p at (Received start end now min_rtt ∷ earlier) h =
    let f : Flight = flight_after earlier in
    not-received p at start (min f.next end) now min_rtt f (SentOnce p earlier) (nat_lt start (min f.next end)) refl (kept earlier)
    (out-of-less p start end f.next (h.0)) (always p at earlier (h.1))
always p at (Settled start end ∷ earlier) h =
    let f : Flight = flight_after earlier in
    not-settled p at start (min f.next end) f (SentOnce p earlier) (nat_lt start (min f.next end)) refl (kept earlier)
    (out-of-less p start end f.next (h.0)) (always p at earlier (h.1))
always p at (Recovered ∷ earlier) h = always p at earlier h

covers : (p at : ℕ) (o : Type 0) (all : List Stretch) → Has p at o all → Covers p at all
covers p at o [] h = h
covers p at o (s ∷ later) (inl h) = inl (h.within, h.first, h.last)
covers p at o (s ∷ later) (inr h) = inr (covers p at o later h)

-- and in one alone
none-with : (p from to : ℕ) (all : List Stretch) → p < from → AreInOrder from to all → count_with p all ≡ 0
none-with p from to [] h order = refl
none-with p from to (s ∷ later) h order =
    let least : from ≤ s.start = order.0 in
    let some : s.start < s.end = order.1 in
    by (nat_le s.start p) (nat_lt p s.end) refl (omega (arith, least, h)) (none-with p s.end to later (omega (arith, least, some, h)) (order.2))
  where
    by : (a b : Bool) → nat_le s.start p ≡ a → p < s.start → count_with p later ≡ 0
        → (if a && b then suc (count_with p later) else count_with p later) ≡ 0
    by true b e less rest = absurd (grind (arith, nat_tests, e, less))
    by false b e less rest = rest

one-with : (p at from to : ℕ) (o : Type 0) (all : List Stretch) → AreInOrder from to all → Has p at o all → (from ≤ p) × (count_with p all ≡ 1)
one-with p at from to o [] order h = absurd h
one-with p at from to o (s ∷ later) order (inl h) =
    let least : from ≤ s.start = order.0 in
    let above : s.start ≤ p = h.within.0 in (
      omega (arith, least, above),
      by (nat_le s.start p) (nat_lt p s.end) refl refl above (h.within.1) (none-with p s.end to later (h.within.1) (order.2)),
    )
  where
    by : (a b : Bool) → nat_le s.start p ≡ a → nat_lt p s.end ≡ b → s.start ≤ p → p < s.end → count_with p later ≡ 0
        → (if a && b then suc (count_with p later) else count_with p later) ≡ 1
    by true true e f l m rest = omega (arith, rest)
    by true false e f l m rest = absurd (grind (arith, nat_tests, f, m))
    by false b e f l m rest = absurd (grind (arith, nat_tests, e, l))
one-with p at from to o (s ∷ later) order (inr h) =
    let least : from ≤ s.start = order.0 in
    let some : s.start < s.end = order.1 in
    let rest : (s.end ≤ p) × (count_with p later ≡ 1) = one-with p at s.end to o later (order.2) h in
    let past : s.end ≤ p = rest.0 in
    (omega (arith, least, some, past), by (nat_le s.start p) (nat_lt p s.end) refl past (rest.1))
  where
    by : (a b : Bool) → nat_lt p s.end ≡ b → s.end ≤ p → count_with p later ≡ 1
        → (if a && b then suc (count_with p later) else count_with p later) ≡ 1
    by true true e m rest = absurd (grind (arith, nat_tests, e, m))
    by true false e m rest = rest
    by false b e m rest = rest

pub cover_lem : StretchesCover
cover_lem events =
    let k : IsFlight (flight_after events) = kept events in
    record {
      order = k.order;
      few = k.few;
      covered = λ p at h. covers p at (SentOnce p events) (flight_after events).stretches (always p at events h);
      once = λ p at h.
          (one-with p at 0 (flight_after events).next (SentOnce p events) (flight_after events).stretches k.order (always p at events h)).1;
    }
