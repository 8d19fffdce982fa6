-- Karn's algorithm, over every list of events.
use Rattle.std.proofs.Common.{◌≡◌, ℕ, zero, suc, ◌+◌, ◌-◌, ◌≤◌, inl, inr, Bool, true, false, List, [], ◌∷◌, Option, Some, None, arith, refl}
use Rattle.std.specs.Prelude.{max, nat_lt, nat_le, if◌then◌else◌}
use Rattle.std.proofs.lemmas.Bool.Decides.{nat_tests}
use Rattle.tcp_timing.specs.declared.watch.Timed.{Timed}
use Rattle.tcp_timing.specs.declared.watch.Watch.{Watch}
use Rattle.tcp_timing.specs.Watch.{timed_or, timed_after, sample_by}
use Rattle.tcp_timing.specs.Karn.{Event, Sent, Acked, EndsBefore, AllEndBefore, SentOnce, Measures, KarnsRule, watch_next, watch_after}

-- the segment that is timed was sent once and isn't acknowledged, and ends at the highest position at most
abbrev TimedIn : ℕ → List Event → Option Timed → Type 0
TimedIn highest events None = Unit {0}
TimedIn highest events (Some t) = (t.end ≤ highest) × SentOnce t.end t.at events

record IsTrue-to (events : List Event) (w : Watch) : Type 0 where
  below : AllEndBefore w.highest events
  timed : TimedIn w.highest events w.timed

before-later : (p q : ℕ) (event : Event) → p ≤ q → EndsBefore p event → EndsBefore q event
before-later p q (Sent start count now) h (inl none) = inl none
before-later p q (Sent start count now) h (inr ends) = inr (omega arith)
before-later p q (Acked una) h e = tt

all-later : (p q : ℕ) (events : List Event) → p ≤ q → AllEndBefore p events → AllEndBefore q events
all-later p q [] h all = tt
all-later p q (event ∷ earlier) h all = (before-later p q event h (all.0), all-later p q earlier h (all.1))

-- new numbers from `start` on are sent
newly : (events : List Event) (highest start n now : ℕ) (timed : Option Timed) → highest ≤ start → AllEndBefore highest events
    → TimedIn highest events timed → TimedIn (max highest (start + suc n)) (Sent start (suc n) now ∷ events) (timed_or timed (start + suc n) now)
newly events highest start n now None h below facts = (omega arith, inl (omega arith, refl, refl, all-later highest start events h below))
newly events highest start n now (Some t) h below facts =
    let ends : t.end ≤ highest = facts.0 in
    (omega arith, inr (inr (omega arith), facts.1))

chosen : (events : List Event) (highest start n now : ℕ) (timed : Option Timed) (b : Bool) → nat_lt start highest ≡ b
    → AllEndBefore highest events → TimedIn highest events timed
    → TimedIn (max highest (start + suc n)) (Sent start (suc n) now ∷ events) (if b then None else timed_or timed (start + suc n) now)
chosen events highest start n now timed true e below facts = tt
chosen events highest start n now timed false e below facts =
    newly events highest start n now timed (grind (arith, nat_tests, e)) below facts

-- a segment without numbers changes nothing
empty : (events : List Event) (highest start now : ℕ) (timed : Option Timed) → TimedIn highest events timed
    → TimedIn highest (Sent start zero now ∷ events) timed
empty events highest start now None facts = tt
empty events highest start now (Some t) facts = (facts.0, inr (inl refl, facts.1))

ended : (events : List Event) (highest una : ℕ) (t : Timed) (b : Bool) → nat_le t.end una ≡ b → TimedIn highest events (Some t)
    → TimedIn highest (Acked una ∷ events) (if b then None else Some t)
ended events highest una t true e facts = tt
ended events highest una t false e facts = (facts.0, (grind (arith, nat_tests, e), facts.1))

acked : (events : List Event) (highest una : ℕ) (timed : Option Timed) → TimedIn highest events timed
    → TimedIn highest (Acked una ∷ events) (timed_after timed una)
acked events highest una None facts = tt
acked events highest una (Some t) facts = ended events highest una t (nat_le t.end una) refl facts

next-true : (events : List Event) (w : Watch) (event : Event) → IsTrue-to events w → IsTrue-to (event ∷ events) (watch_next w event)
next-true events w (Sent start zero now) h = record { below = (inl refl, h.below); timed = empty events w.highest start now w.timed h.timed }
next-true events w (Sent start (suc n) now) h = record {
  below = (inr (omega arith), all-later w.highest (max w.highest (start + suc n)) events (omega arith) h.below);
  timed = chosen events w.highest start n now w.timed (nat_lt start w.highest) refl h.below h.timed;
}
next-true events w (Acked una) h = record { below = (tt, h.below); timed = acked events w.highest una w.timed h.timed }

always : (events : List Event) → IsTrue-to events (watch_after events)
always [] = record { below = tt; timed = tt }
always (event ∷ earlier) = next-true earlier (watch_after earlier) event (always earlier)

by-test : (events : List Event) (t : Timed) (una now r : ℕ) (b : Bool) → nat_le t.end una ≡ b → SentOnce t.end t.at events
    → (if b then Some (now - t.at) else None) ≡ Some r → Measures events una now r
by-test events t una now r true e once same = record { end = t.end; at = t.at; once = once; acknowledged = grind (arith, nat_tests, e); time = cc }
by-test events t una now r false e once same = absurd (cc)

from-timed : (events : List Event) (highest : ℕ) (timed : Option Timed) (una now r : ℕ) → TimedIn highest events timed
    → sample_by timed una now ≡ Some r → Measures events una now r
from-timed events highest None una now r facts same = absurd (cc)
from-timed events highest (Some t) una now r facts same = by-test events t una now r (nat_le t.end una) refl (facts.1) same

pub karn_lem : KarnsRule
karn_lem events una now r same =
    from-timed events (watch_after events).highest (watch_after events).timed una now r (always events).timed same
