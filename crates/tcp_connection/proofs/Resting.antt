-- Nothing is due at the time at which an emission has found nothing.
use Rattle.std.proofs.Common.{◌≡◌, ℕ, ◌+◌, ◌*◌, ◌<◌, ◌≤◌, Bool, true, false, Option, Some, None, refl, arith, subst, sym, ◌∙◌}
use Rattle.std.specs.Prelude.{IfSome, is_some, min, nat_le, nat_lt, ◌==◌, ◌&&◌, ◌||◌, not, if◌then◌else◌}
use Rattle.std.proofs.lemmas.Bool.Decides.{nat_tests}
use Rattle.tcp_congestion.specs.DelayedAck.{Waiting, after_delay, deadline_of, nothing_unacked}
use Rattle.tcp_congestion.specs.Sizes.{latest}
use Rattle.tcp_congestion.specs.SwsAvoidance.{Sender, after_asked, deadline_by, is_overridden, is_sent, is_full, is_worth, since_after, waiting_since}
use Rattle.tcp_driver.specs.Deadlines.{earlier}
use Rattle.tcp_connection.specs.declared.deferring.Kind.{Kind}
use Rattle.tcp_connection.specs.declared.deferring.Kind.TheVariants.{Acknowledgement, NewText, Other}
use Rattle.tcp_driver.specs.Machine.{Machine}
use Rattle.tcp_connection.specs.Connection.{Connecting, is_pending}
use Rattle.tcp_connection.specs.Deadlines.{IsToCome, RestsAfter, TextRestsAfter, text_deadline}
use Rattle.tcp_connection.specs.Insight.{Insight}
use Rattle.tcp_connection.specs.Policy.{holds_any}
use Rattle.tcp_connection.specs.Windows.{has_grown}
use Rattle.tcp_connection.specs.Going.{ack_waits, is_held, is_to_come, keeps}

-- both are to come, so the earlier one is
earlier-later : (one other : Option ℕ) (now : ℕ) → IfSome one (λ time. now < time) → IfSome other (λ time. now < time)
    → IfSome (earlier one other) (λ time. now < time)
earlier-later None other now e f = f
earlier-later (Some one) None now e f = e
earlier-later (Some one) (Some other) now e f = omega (arith, e, f)

own-later : (any : Bool) (one other : Option ℕ) (now : ℕ) → IfSome one (λ time. now < time) → IfSome other (λ time. now < time)
    → IfSome (if any then earlier one other else None) (λ time. now < time)
own-later true one other now e f = earlier-later one other now e f
own-later false one other now e f = tt

-- TEXT THAT WAITS has a deadline that is to come
waits-on : (since : Option ℕ) (timeout now : ℕ) → 0 < timeout → now < latest → is_overridden since timeout now ≡ false
    → IfSome (deadline_by (waiting_since since now) timeout) (λ time. now < time)
waits-on None timeout now some short e = omega (arith, some, short)
waits-on (Some since) timeout now some short e = let less : now < since + timeout = grind (arith, nat_tests, e) in omega (arith, short, less)

asked-by : (since : Option ℕ) (timeout now : ℕ) (full worthy over none : Bool) → 0 < timeout → now < latest → is_overridden since timeout now ≡ over
    → IfSome (deadline_by (if (if full then true else (if worthy then true else over)) then None else (if none then None else waiting_since since now)) timeout)
    (λ time. now < time)
asked-by since timeout now true worthy over none some short e = tt
asked-by since timeout now false true over none some short e = tt
asked-by since timeout now false false true none some short e = tt
asked-by since timeout now false false false true some short e = tt
asked-by since timeout now false false false false some short e = waits-on since timeout now some short e

pub text_rests : (s : Sender) (queued usable flight now : ℕ) → 0 < s.timeout
    → IsToCome (deadline_by (since_after s queued usable flight now) s.timeout) now
text_rests s queued usable flight now some short =
    asked-by s.since s.timeout now (is_full s queued usable) (is_worth s queued usable flight) (is_overridden s.since s.timeout now) (min queued usable == 0)
    some short refl

-- AN ACKNOWLEDGEMENT THAT IS HELD BACK has one, too
to-come : (time : Option ℕ) (now : ℕ) → is_to_come time now ≡ true → IfSome time (λ time. now < time)
to-come None now e = tt
to-come (Some time) now e = grind (arith, nat_tests, e)

held-waits : (kind : Option Kind) (text pending ack : Bool) → is_held kind text pending ack ≡ true → pending ≡ true → ack ≡ true
held-waits None text pending ack e p = absurd (cc)
held-waits (Some Acknowledgement) text pending ack e p = e
held-waits (Some NewText) true pending ack e p = subst (λ b. (not b || ack) ≡ true) p e
held-waits (Some NewText) false pending ack e p = absurd (cc)
held-waits (Some Other) text pending ack e p = absurd (cc)

-- one that nothing asks for has none
or-small : (time : Option ℕ) (now : ℕ) (avoids grown : Bool) → (is_to_come time now || (avoids && (not (is_some time) && not grown))) ≡ true
    → IfSome time (λ time. now < time)
or-small None now avoids grown e = tt
or-small (Some time) now avoids grown e = to-come (Some time) now (or-false (is_to_come (Some time) now) avoids e) where
  or-false : (b avoids : Bool) → (b || (avoids && false)) ≡ true → b ≡ true
  or-false true avoids e = refl
  or-false false true e = absurd (cc)
  or-false false false e = absurd (cc)

if-pending : (pending : Bool) (time : Option ℕ) (now : ℕ) (avoids grown : Bool)
    → (pending ≡ true → (is_to_come time now || (avoids && (not (is_some time) && not grown))) ≡ true)
    → IfSome (if pending then time else None) (λ time. now < time)
if-pending true time now avoids grown waits = or-small time now avoids grown (waits refl)
if-pending false time now avoids grown waits = tt

-- so nothing is due
held-rests : (any : Bool) (kind : Option Kind) (text pending : Bool) (time other : Option ℕ) (now : ℕ) (avoids grown : Bool)
    → is_held kind text pending (is_to_come time now || (avoids && (not (is_some time) && not grown))) ≡ true → IsToCome other now
    → IsToCome (if any then earlier (if pending then time else None) other else None) now
held-rests any kind text pending time other now avoids grown held rests short =
    own-later any (if pending then time else None) other now
    (if-pending pending time now avoids grown
    (λ p. held-waits kind text pending (is_to_come time now || (avoids && (not (is_some time) && not grown))) held p))
    (rests short)

right : (a b : Bool) → (a && b) ≡ true → b ≡ true
right true b e = e
right false b e = absurd (cc)

pub kept_rests : {S W : Type 0} (m : Machine S) (i : Insight S) (k : Connecting S W) (kind : Option Kind) (text : Bool) (now : ℕ) (kept : Bool)
    → kept ≡ keeps m i k kind text now → TextRestsAfter k now → kept ≡ true → RestsAfter m k now
kept_rests m i k kind text now kept is rests held =
    held-rests (holds_any k.policy) kind text (is_pending m k) (deadline_of k.ack) (text_deadline k) now (is_some k.policy.override_timeout) (has_grown i k)
    (right (not k.flowing.driving.times.bursting) (is_held kind text (is_pending m k) (ack_waits i k now)) (sym is ∙ held)) rests

-- BEHIND AN EMISSION no acknowledgement waits
owed-by : (rmss : ℕ) (time : Option ℕ) (b : Bool) → nat_le (2 * rmss) 0 ≡ b → 0 < rmss → (if b then time else None) ≡ None
owed-by rmss time true e some = absurd (grind (arith, nat_tests, e, some))
owed-by rmss time false e some = refl

none-owed : (w : Waiting) → 0 < w.rmss → deadline_of (nothing_unacked w) ≡ None
none-owed w some = owed-by w.rmss (Some 0) (nat_le (2 * w.rmss) 0) refl some

if-none : (pending : Bool) (time : Option ℕ) (now : ℕ) → time ≡ None → IfSome (if pending then time else None) (λ time. now < time)
if-none true None now e = tt
if-none true (Some time) now e = absurd (cc)
if-none false time now e = tt

pub gone_rests : (any pending : Bool) (w : Waiting) (other : Option ℕ) (now : ℕ) → 0 < w.rmss → IsToCome other now
    → IsToCome (if any then earlier (if pending then deadline_of (nothing_unacked w) else None) other else None) now
gone_rests any pending w other now some rests short =
    own-later any (if pending then deadline_of (nothing_unacked w) else None) other now
    (if-none pending (deadline_of (nothing_unacked w)) now (none-owed w some)) (rests short)
