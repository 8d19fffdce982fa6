-- A timeout comes in time: the retransmission timer keeps its deadline while it goes on and isn't started anew.
use Rattle.std.proofs.Common.{◌≡◌, ℕ, ◌+◌, ◌<◌, ◌≤◌, Bool, true, false, List, [], ◌∷◌, Option, Some, None, arith, refl, sym, ◌∙◌, subst}
use Rattle.std.specs.Prelude.{◌||◌, ◌&&◌, not, ◌==◌, nat_le, if◌then◌else◌, IfSome, is_some}
use Rattle.std.proofs.lemmas.Bool.Decides.{Decides-eqb, nat_tests}
use Rattle.tcp_driver.specs.declared.machine.Sent.{Sent}
use Rattle.tcp_driver.specs.declared.machine.Timer.{Timer}
use Rattle.tcp_driver.specs.declared.machine.Timer.TheVariants.{Retransmit, Reorder, TimeWait, User}
use Rattle.tcp_driver.specs.Machine.{Machine}
use Rattle.tcp_driver.specs.Deadlines.{earlier, kept, no_later}
use Rattle.tcp_driver.specs.Times.{Times, after_expiry, after_segment, expiring, expiry, opens, restarts, taken, user_deadline}
use Rattle.tcp_driver.specs.declared.machine.Way.{Way}
use Rattle.tcp_driver.specs.Driver.{Driving, IsTimely, after_taken, after_time_by, at, core_after, following, is_withheld, sent_of, way_of}
use Rattle.tcp_driver.specs.Calls.{Call, Arrives, Emits, Expires, Uses, SetsPatience, SetsUserTimeout, after_call, after_calls, AllBy, AllEarly, AllGoOn, AllPunctual, ComesInTime, GoesOn, IsEarly, IsPunctual, NoneRestarts, ends_waiting, is_restart, restarts_with, time_of}

-- GOING ON: a deadline, and SND.UNA as the driver has it
pub record Goes {S : Type 0} (m : Machine S) (d : Driving S) (time : ℕ) : Type 0 where
  pub deadline : d.times.deadlines.retransmit ≡ Some time
  pub una : d.times.una ≡ m.una d.core

-- what runs on and isn't set anew stays
stays : (runs same : Bool) (before : Option ℕ) (new time : ℕ) → runs ≡ true → same ≡ true → before ≡ Some time → kept runs same before new ≡ Some time
stays true true (Some t) new time e f g = g
stays true true None new time e f g = absurd (cc)
stays true false before new time e f g = absurd (cc)
stays false same before new time e f g = absurd (cc)

following-goes : {S : Type 0} (m : Machine S) (core : S) (t : Times) (now una time : ℕ) → t.deadlines.retransmit ≡ Some time → t.una ≡ una
    → (m.wants core).retransmit ≡ true → m.una core ≡ una → Goes m (following m core t now) time
following-goes m core t now una time dead is wanted same = record {
  deadline = stays (m.wants core).retransmit (m.una core == t.una) t.deadlines.retransmit (now + t.estimate.rto) time wanted
      ((Decides-eqb (m.una core) t.una).1 (same ∙ sym is)) dead;
  una = refl;
}

-- as long as no shut window opens, and it isn't started anew
unopened : (opening : Bool) (before : Option ℕ) → opening ≡ false → (if opening then None else before) ≡ before
unopened true before e = absurd (cc)
unopened false before e = refl

-- an arrival measures, an emission is timed, and another timer's expiry starts others anew: none moves this deadline
segment-keeps : (sent : Option Sent) (t : Times) (now : ℕ) → restarts_with sent t ≡ false
    → ((after_segment sent t now).deadlines.retransmit ≡ t.deadlines.retransmit) × ((after_segment sent t now).una ≡ t.una)
segment-keeps None t now same = (refl, refl)
segment-keeps (Some sent) t now same = (unopened (restarts t sent) t.deadlines.retransmit same, refl)

expiry-keeps : (timer : Timer) (t : Times) → ends_waiting (Some timer) ≡ false
    → ((after_expiry t timer).deadlines.retransmit ≡ t.deadlines.retransmit) × ((after_expiry t timer).una ≡ t.una)
expiry-keeps Retransmit t other = absurd (cc)
expiry-keeps Reorder t other = (refl, refl)
expiry-keeps TimeWait t other = (refl, refl)
expiry-keeps User t other = absurd (cc)

arrive-goes : {S : Type 0} (m : Machine S) (d : Driving S) (now time : ℕ) (src dst bytes : List ℕ) (way : Way) (b : Bool) → Goes m d time
    → (not b && opens d.times.shut (m.report d.core src dst bytes way).window) ≡ false → (m.wants (if b then d else after_taken m d now src dst bytes way).core).retransmit ≡ true
    → m.una (if b then d else after_taken m d now src dst bytes way).core ≡ m.una d.core → Goes m (if b then d else after_taken m d now src dst bytes way) time
arrive-goes m d now time src dst bytes way true h shut wanted same = h
arrive-goes m d now time src dst bytes way false h shut wanted same =
    following-goes m (m.arrived d.core src dst bytes way)
    (taken d.times (m.una (m.arrived d.core src dst bytes way)) (m.report d.core src dst bytes way) now) now (m.una d.core) time
    (unopened (opens d.times.shut (m.report d.core src dst bytes way).window) d.times.deadlines.retransmit shut ∙ h.deadline) h.una wanted same

expire-goes : {S : Type 0} (m : Machine S) (d : Driving S) (now time : ℕ) (which : Option Timer) → ends_waiting which ≡ false → Goes m d time
    → (m.wants (after_time_by m d which now).core).retransmit ≡ true → m.una (after_time_by m d which now).core ≡ m.una d.core
    → Goes m (after_time_by m d which now) time
expire-goes m d now time None other h wanted same = record { deadline = h.deadline; una = h.una }
expire-goes m d now time (Some timer) other h wanted same =
    let e = expiry-keeps timer d.times other in
    following-goes m (m.expired d.core timer) (after_expiry d.times timer) now (m.una d.core) time (e.0 ∙ h.deadline) (e.1 ∙ h.una) wanted same

pub next_goes : {S : Type 0} (m : Machine S) (d : Driving S) (time : ℕ) (call : Call S) → Goes m d time → GoesOn m d call → is_restart m d call ≡ false
    → Goes m (after_call m d call) time
next_goes m d time (Arrives now src dst bytes vouched) h g other = arrive-goes m d (at d now) time src dst bytes (way_of d vouched) (d.times.bursting || is_withheld m d.core bytes) h g.opens g.wanted g.una
next_goes m d time (Emits now window) h g other =
    let e = segment-keeps (sent_of m d.core window) d.times (at d now) other in
    following-goes m (core_after m d.core window) (after_segment (sent_of m d.core window) d.times (at d now)) (at d now) (m.una d.core) time
    (e.0 ∙ h.deadline) (e.1 ∙ h.una) g.wanted g.una
next_goes m d time (Expires now) h g other = expire-goes m d (at d now) time (expiry d.times (at d now)) g.waits h g.wanted g.una
next_goes m d time (Uses now does) h g other = following-goes m (does d.core) d.times (at d now) (m.una d.core) time h.deadline h.una g.wanted g.una
next_goes m d time (SetsUserTimeout limit) h g other = record { deadline = h.deadline; una = h.una }
next_goes m d time (SetsPatience patient) h g other = record { deadline = h.deadline; una = h.una }

-- at or after its deadline it expires, or the user timeout does, unless a burst is on
expires : (user retransmit : Bool) (rest : Option Timer) → retransmit ≡ true → ends_waiting (if user then Some User else (if retransmit then Some Retransmit else rest)) ≡ true
expires true retransmit rest e = refl
expires false true rest e = refl
expires false false rest e = absurd (cc)

-- which other timer has expired
abbrev others : Times → ℕ → Option Timer
others t now = if no_later t.deadlines.reorder now then Some Reorder else (if no_later t.deadlines.time_wait now then Some TimeWait else None)

passed : (deadline : Option ℕ) (time now : ℕ) → deadline ≡ Some time → time ≤ now → no_later deadline now ≡ true
passed (Some t) time now e late = let same : t ≡ time = cc in grind (arith, nat_tests)
passed None time now e late = absurd (cc)

no-burst : (b : Bool) (which : Option Timer) → b ≡ false → ends_waiting (if b then None else which) ≡ ends_waiting which
no-burst true which e = absurd (cc)
no-burst false which e = refl

-- so `timeout` was called before it
early-by : {S : Type 0} (m : Machine S) (d : Driving S) (now time : ℕ) (b : Bool) → nat_le time now ≡ b → Goes m d time
    → ends_waiting (expiry d.times now) ≡ false → d.times.bursting ≡ false → now < time
early-by m d now time true e h waits quiet =
    let past : time ≤ now = grind (arith, nat_tests, e) in
    let expired-now = expires (no_later (user_deadline d.times) now) (no_later d.times.deadlines.retransmit now) (others d.times now) (passed d.times.deadlines.retransmit time now h.deadline past) in
    let is-waiting = sym (no-burst d.times.bursting (expiring d.times now) quiet) ∙ waits in
    absurd (cc (expired-now, is-waiting))
early-by m d now time false e h waits quiet = grind (arith, nat_tests, e)

pub call_early : {S : Type 0} (m : Machine S) (d : Driving S) (time : ℕ) (call : Call S) → Goes m d time → GoesOn m d call → IsEarly time d call
call_early m d time (Arrives now src dst bytes vouched) h g = tt
call_early m d time (Emits now window) h g = tt
call_early m d time (Expires now) h g = early-by m d (at d now) time (nat_le time (at d now)) refl h g.waits
call_early m d time (Uses now does) h g = tt
call_early m d time (SetsUserTimeout limit) h g = tt
call_early m d time (SetsPatience patient) h g = tt

-- the first deadline of all is no later
soon-by : (user retransmit rest : Option ℕ) (time late at-call : ℕ) → retransmit ≡ Some time → IfSome (earlier user (earlier retransmit rest)) (λ first. at-call ≤ first + late)
    → at-call ≤ time + late
soon-by user None rest time late at-call e p = absurd (cc)
soon-by None (Some t) None time late at-call e p = let same : t ≡ time = cc in omega (arith, p, same)
soon-by None (Some t) (Some r) time late at-call e p = let same : t ≡ time = cc in omega (arith, p, same)
soon-by (Some u) (Some t) None time late at-call e p = let same : t ≡ time = cc in omega (arith, p, same)
soon-by (Some u) (Some t) (Some r) time late at-call e p = let same : t ≡ time = cc in omega (arith, p, same)

pub call_by : {S : Type 0} (m : Machine S) (d : Driving S) (time late : ℕ) (call : Call S) → Goes m d time → IsPunctual late d call → time_of d call ≤ time + late
call_by m d time late call h punctual =
    soon-by (user_deadline d.times) d.times.deadlines.retransmit (earlier d.times.deadlines.reorder d.times.deadlines.time_wait) time late (time_of d call) h.deadline punctual

goes : {S : Type 0} (m : Machine S) (d : Driving S) (time : ℕ) (calls : List (Call S)) → Goes m d time → AllGoOn m d calls → NoneRestarts m d calls
    → Goes m (after_calls m d calls) time
goes m d time [] h all none = h
goes m d time (call ∷ earlier) h all none =
    next_goes m (after_calls m d earlier) time call (goes m d time earlier h (all.1) (none.1)) (all.0) (none.0)

all-early : {S : Type 0} (m : Machine S) (d : Driving S) (time : ℕ) (calls : List (Call S)) → Goes m d time → AllGoOn m d calls → NoneRestarts m d calls
    → AllEarly m time d calls
all-early m d time [] h all none = tt
all-early m d time (call ∷ earlier) h all none =
    (call_early m (after_calls m d earlier) time call (goes m d time earlier h (all.1) (none.1)) (all.0), all-early m d time earlier h (all.1) (none.1))

all-by : {S : Type 0} (m : Machine S) (d : Driving S) (time late : ℕ) (calls : List (Call S)) → Goes m d time → AllGoOn m d calls → NoneRestarts m d calls
    → AllPunctual m late d calls → AllBy m (time + late) d calls
all-by m d time late [] h all none punctual = tt
all-by m d time late (call ∷ earlier) h all none punctual =
    (call_by m (after_calls m d earlier) time late call (goes m d time earlier h (all.1) (none.1)) (punctual.0), all-by m d time late earlier h (all.1) (none.1) (punctual.1))

-- there is a deadline
there-is : (o : Option ℕ) → is_some o ≡ true → (time : ℕ) × (o ≡ Some time)
there-is None e = absurd (cc)
there-is (Some time) e = (time, refl)

pub begins : {S : Type 0} (m : Machine S) (d : Driving S) → IsTimely m d → (m.wants d.core).retransmit ≡ true
    → (time : ℕ) × (Goes m d time × (time ≤ d.times.clock + d.times.estimate.rules.greatest))
begins m d timely wanted =
    let t : (time : ℕ) × (d.times.deadlines.retransmit ≡ Some time) = there-is d.times.deadlines.retransmit (timely.retransmit ∙ wanted) in
    let P : Option ℕ → Type 0 = λ o. IfSome o (λ time. time ≤ d.times.clock + d.times.estimate.rules.greatest) in
    (t.0, (record { deadline = t.1; una = timely.una }, subst P (t.1) timely.soon.retransmit))

pub in_time : {S : Type 0} (m : Machine S) (late : ℕ) (d : Driving S) (calls : List (Call S)) (time : ℕ) → Goes m d time
    → time ≤ d.times.clock + d.times.estimate.rules.greatest → AllGoOn m d calls → NoneRestarts m d calls → ComesInTime m late d calls
in_time m late d calls time h soon all none = record {
  time = time;
  was = h.deadline;
  soon = soon;
  is = (goes m d time calls h all none).deadline;
  early = all-early m d time calls h all none;
  punctual = all-by m d time late calls h all none;
}
