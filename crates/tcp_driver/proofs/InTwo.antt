-- The retransmission timer is started anew at most once until something is acknowledged: so it expires by twice the greatest timeout.
use Rattle.std.proofs.Common.{◌≡◌, ℕ, ◌+◌, ◌*◌, ◌<◌, ◌≤◌, Bool, true, false, List, [], ◌∷◌, Option, Some, None, arith, refl, sym, ◌∙◌, subst}
use Rattle.std.specs.Prelude.{◌||◌, ◌&&◌, not, ◌==◌, if◌then◌else◌, IfSome, min}
use Rattle.std.proofs.lemmas.Bool.Decides.{Decides-eqb}
use Rattle.tcp_timing.specs.declared.round_trip.RoundTrip.{RoundTrip}
use Rattle.tcp_timing.specs.declared.rules.Rules.{Rules}
use Rattle.tcp_timing.specs.Estimate.{Estimate, after_sample, timeout_or, without_back_off}
use Rattle.tcp_timing.specs.Watch.{sample_of}
use Rattle.tcp_driver.specs.declared.machine.Sent.{Sent}
use Rattle.tcp_driver.specs.declared.machine.Timer.{Timer}
use Rattle.tcp_driver.specs.declared.machine.Timer.TheVariants.{Retransmit, Reorder, TimeWait, User}
use Rattle.tcp_driver.specs.Machine.{Machine}
use Rattle.tcp_driver.specs.Deadlines.{kept}
use Rattle.tcp_driver.specs.Times.{Times, after_expiry, after_handshake, after_segment, after_trip, begins_late, expiry, goes_again, opens, restarts, taken}
use Rattle.tcp_driver.specs.declared.machine.Way.{Way}
use Rattle.tcp_driver.specs.Driver.{Driving, IsTimely, after_taken, after_time_by, at, core_after, following, is_withheld, sent_of, way_of}
use Rattle.tcp_driver.specs.Calls.{Call, Arrives, Emits, Expires, Uses, SetsPatience, SetsUserTimeout, after_call, after_calls, AllBy, AllGoOn, AllInTime, AllPunctual, ComesInTwo, GoesOn, IsInTime, TimeoutComesInTime, is_restart, restarts_with}
use Rattle.tcp_driver.proofs.InTime.{Goes, begins, call_by, call_early, in_time, next_goes}

-- THE TIMEOUT is at most the greatest, whatever is called
record Bounded (g : ℕ) (e : Estimate) : Type 0 where
  rules : e.rules.greatest ≡ g
  most : e.rto ≤ g

least-most : (g greatest other : ℕ) → greatest ≡ g → min greatest other ≤ g
least-most g greatest other e = omega (arith, e)

sampled : (g r : ℕ) (e : Estimate) → Bounded g e → Bounded g (after_sample e r)
sampled g r e h = record { rules = h.rules; most = least-most g e.rules.greatest _ h.rules }

trip-bounded : (g : ℕ) (r : Option ℕ) (e : Estimate) → Bounded g e → Bounded g (after_trip r e)
trip-bounded g None e h = h
trip-bounded g (Some r) e h = sampled g r e h

syn-bounded : (g : ℕ) (e : Estimate) (b : Bool) (new : ℕ) → Bounded g e → (if b then min e.rules.greatest new else e.rto) ≤ g
syn-bounded g e true new h = least-most g e.rules.greatest new h.rules
syn-bounded g e false new h = h.most

handshake-bounded : (g : ℕ) (late : Bool) (e : Estimate) → Bounded g e → Bounded g (after_handshake late e)
handshake-bounded g true e h = record { rules = h.rules; most = syn-bounded g e _ _ h }
handshake-bounded g false e h = h

timeout-bounded : (g : ℕ) (rules : Rules) (trip : Option RoundTrip) (rto : ℕ) → rules.greatest ≡ g → rto ≤ g → timeout_or rules trip rto ≤ g
timeout-bounded g rules None rto e most = most
timeout-bounded g rules (Some t) rto e most = least-most g rules.greatest _ e

opening-bounded : (g : ℕ) (opening : Bool) (e : Estimate) → Bounded g e → Bounded g (if opening then without_back_off e else e)
opening-bounded g true e h = record { rules = h.rules; most = timeout-bounded g e.rules e.trip e.rto h.rules h.most }
opening-bounded g false e h = h

arrive-bounded : {S : Type 0} (m : Machine S) (d : Driving S) (g now : ℕ) (src dst bytes : List ℕ) (way : Way) (b : Bool) → Bounded g d.times.estimate
    → Bounded g (if b then d else after_taken m d now src dst bytes way).times.estimate
arrive-bounded m d g now src dst bytes way true h = h
arrive-bounded m d g now src dst bytes way false h =
    let una = m.una (m.arrived d.core src dst bytes way) in
    opening-bounded g (opens d.times.shut (m.report d.core src dst bytes way).window)
    (after_trip (sample_of d.times.watch una now) (after_handshake (begins_late d.times una) d.times.estimate))
    (trip-bounded g (sample_of d.times.watch una now) (after_handshake (begins_late d.times una) d.times.estimate)
    (handshake-bounded g (begins_late d.times una) d.times.estimate h))

segment-bounded : (sent : Option Sent) (t : Times) (now g : ℕ) → Bounded g t.estimate → Bounded g (after_segment sent t now).estimate
segment-bounded None t now g h = h
segment-bounded (Some sent) t now g h = h

expiry-bounded : (timer : Timer) (t : Times) (g : ℕ) → Bounded g t.estimate → Bounded g (after_expiry t timer).estimate
expiry-bounded Retransmit t g h = record { rules = h.rules; most = least-most g t.estimate.rules.greatest _ h.rules }
expiry-bounded Reorder t g h = h
expiry-bounded TimeWait t g h = h
expiry-bounded User t g h = h

time-bounded : {S : Type 0} (m : Machine S) (d : Driving S) (g now : ℕ) (which : Option Timer) → Bounded g d.times.estimate
    → Bounded g (after_time_by m d which now).times.estimate
time-bounded m d g now None h = h
time-bounded m d g now (Some timer) h = expiry-bounded timer d.times g h

next-bounded : {S : Type 0} (m : Machine S) (d : Driving S) (g : ℕ) (call : Call S) → Bounded g d.times.estimate → Bounded g (after_call m d call).times.estimate
next-bounded m d g (Arrives now src dst bytes vouched) h = arrive-bounded m d g (at d now) src dst bytes (way_of d vouched) (d.times.bursting || is_withheld m d.core bytes) h
next-bounded m d g (Emits now window) h = segment-bounded (sent_of m d.core window) d.times (at d now) g h
next-bounded m d g (Expires now) h = time-bounded m d g (at d now) (expiry d.times (at d now)) h
next-bounded m d g (Uses now does) h = h
next-bounded m d g (SetsUserTimeout limit) h = h
next-bounded m d g (SetsPatience patient) h = h

-- WHETHER IT WAS STARTED ANEW stays, unless it is
flag-stays : (runs same before : Bool) → runs ≡ true → same ≡ true → (if runs && same then before else false) ≡ before
flag-stays true true before e f = refl
flag-stays true false before e f = absurd (cc)
flag-stays false same before e f = absurd (cc)

following-flag : {S : Type 0} (m : Machine S) (core : S) (t : Times) (now una : ℕ) → t.una ≡ una → (m.wants core).retransmit ≡ true → m.una core ≡ una
    → (following m core t now).times.restarted ≡ t.restarted
following-flag m core t now una is wanted same =
    flag-stays (m.wants core).retransmit (m.una core == t.una) t.restarted wanted ((Decides-eqb (m.una core) t.una).1 (same ∙ sym is))

not-anew : (anew before : Bool) → anew ≡ false → (if anew then true else before) ≡ before
not-anew true before e = absurd (cc)
not-anew false before e = refl

segment-flag : (sent : Option Sent) (t : Times) (now : ℕ) → restarts_with sent t ≡ false
    → ((after_segment sent t now).restarted ≡ t.restarted) × ((after_segment sent t now).una ≡ t.una)
segment-flag None t now other = (refl, refl)
segment-flag (Some sent) t now other = (not-anew (restarts t sent) t.restarted other, refl)

expiry-flag : (timer : Timer) (t : Times) → ((after_expiry t timer).restarted ≡ t.restarted) × ((after_expiry t timer).una ≡ t.una)
expiry-flag Retransmit t = (refl, refl)
expiry-flag Reorder t = (refl, refl)
expiry-flag TimeWait t = (refl, refl)
expiry-flag User t = (refl, refl)

arrive-flag : {S : Type 0} (m : Machine S) (d : Driving S) (now : ℕ) (src dst bytes : List ℕ) (way : Way) (b : Bool) → d.times.una ≡ m.una d.core
    → (m.wants (if b then d else after_taken m d now src dst bytes way).core).retransmit ≡ true → m.una (if b then d else after_taken m d now src dst bytes way).core ≡ m.una d.core
    → (if b then d else after_taken m d now src dst bytes way).times.restarted ≡ d.times.restarted
arrive-flag m d now src dst bytes way true is wanted same = refl
arrive-flag m d now src dst bytes way false is wanted same =
    following-flag m (m.arrived d.core src dst bytes way)
    (taken d.times (m.una (m.arrived d.core src dst bytes way)) (m.report d.core src dst bytes way) now) now (m.una d.core) is wanted same

time-flag : {S : Type 0} (m : Machine S) (d : Driving S) (now : ℕ) (which : Option Timer) → d.times.una ≡ m.una d.core
    → (m.wants (after_time_by m d which now).core).retransmit ≡ true → m.una (after_time_by m d which now).core ≡ m.una d.core
    → (after_time_by m d which now).times.restarted ≡ d.times.restarted
time-flag m d now None is wanted same = refl
time-flag m d now (Some timer) is wanted same =
    let e = expiry-flag timer d.times in
    following-flag m (m.expired d.core timer) (after_expiry d.times timer) now (m.una d.core) (e.1 ∙ is) wanted same ∙ e.0

next-flag : {S : Type 0} (m : Machine S) (d : Driving S) (call : Call S) → d.times.una ≡ m.una d.core → GoesOn m d call → is_restart m d call ≡ false
    → (after_call m d call).times.restarted ≡ d.times.restarted
next-flag m d (Arrives now src dst bytes vouched) is g other =
    arrive-flag m d (at d now) src dst bytes (way_of d vouched) (d.times.bursting || is_withheld m d.core bytes) is g.wanted g.una
next-flag m d (Emits now window) is g other =
    let e = segment-flag (sent_of m d.core window) d.times (at d now) other in
    following-flag m (core_after m d.core window) (after_segment (sent_of m d.core window) d.times (at d now)) (at d now) (m.una d.core) (e.1 ∙ is) g.wanted g.una ∙ e.0
next-flag m d (Expires now) is g other = time-flag m d (at d now) (expiry d.times (at d now)) is g.wanted g.una
next-flag m d (Uses now does) is g other = following-flag m (does d.core) d.times (at d now) (m.una d.core) is g.wanted g.una
next-flag m d (SetsUserTimeout limit) is g other = refl
next-flag m d (SetsPatience patient) is g other = refl

-- STARTED ANEW: it wasn't before, it is now, and its deadline is a timeout away
only-then : (again at-una before : Bool) → (again && (at-una && not before)) ≡ true → before ≡ false
only-then true true true e = absurd (cc)
only-then true true false e = refl
only-then true false before e = absurd (cc)
only-then false at-una before e = absurd (cc)

when-anew : (anew before : Bool) → anew ≡ true → (if anew then true else before) ≡ true
when-anew true before e = refl
when-anew false before e = absurd (cc)

forgotten : (anew : Bool) (before : Option ℕ) → anew ≡ true → (if anew then None else before) ≡ None
forgotten true before e = refl
forgotten false before e = absurd (cc)

record Restarts (sent : Option Sent) (t : Times) (now : ℕ) : Type 0 where
  before : t.restarted ≡ false
  flag : (after_segment sent t now).restarted ≡ true
  deadline : (after_segment sent t now).deadlines.retransmit ≡ None
  una : (after_segment sent t now).una ≡ t.una
  rto : (after_segment sent t now).estimate.rto ≡ t.estimate.rto

segment-restarts : (sent : Option Sent) (t : Times) (now : ℕ) → restarts_with sent t ≡ true → Restarts sent t now
segment-restarts None t now e = absurd (cc)
segment-restarts (Some sent) t now e = record {
  before = only-then (goes_again t.watch sent) (sent.start == t.una) t.restarted e;
  flag = when-anew (restarts t sent) t.restarted e;
  deadline = forgotten (restarts t sent) t.deadlines.retransmit e;
  una = refl;
  rto = refl;
}

anew : (runs same : Bool) (before : Option ℕ) (new : ℕ) → runs ≡ true → before ≡ None → kept runs same before new ≡ Some new
anew true same (Some time) new e none = absurd (cc)
anew true true None new e none = refl
anew true false None new e none = refl
anew false same before new e none = absurd (cc)

-- ---- THE INVARIANT, from a beginning on
record Waits {S : Type 0} (m : Machine S) (g : ℕ) (d : Driving S) (time : ℕ) : Type 0 where
  goes : Goes m d time
  bounded : Bounded g d.times.estimate

record Soon {S : Type 0} (base g late : ℕ) (d : Driving S) (time : ℕ) : Type 0 where
  first : d.times.restarted ≡ false → time ≤ base + g
  most : time ≤ base + 2 * g + late

record Stands {S : Type 0} (m : Machine S) (base g late : ℕ) (d : Driving S) (calls : List (Call S)) : Type 0 where
  time : ℕ
  waits : Waits m g (after_calls m d calls) time
  soon : AllPunctual m late d calls → Soon base g late (after_calls m d calls) time

soon-stays : {S : Type 0} (base g late time : ℕ) (d after : Driving S) → after.times.restarted ≡ d.times.restarted → Soon base g late d time → Soon base g late after time
soon-stays base g late time d after same h = record { first = λ e. h.first (sym same ∙ e); most = h.most }

restart-deadline : {S : Type 0} (m : Machine S) (d : Driving S) (now window : ℕ) → restarts_with (sent_of m d.core window) d.times ≡ true
    → (m.wants (core_after m d.core window)).retransmit ≡ true
    → (after_call m d (Emits now window)).times.deadlines.retransmit ≡ Some (at d now + d.times.estimate.rto)
restart-deadline m d now window is wanted =
    let t = after_segment (sent_of m d.core window) d.times (at d now) in
    let r = segment-restarts (sent_of m d.core window) d.times (at d now) is in
    anew (m.wants (core_after m d.core window)).retransmit (m.una (core_after m d.core window) == t.una) t.deadlines.retransmit (at d now + t.estimate.rto) wanted r.deadline
    ∙ subst (λ n. Some (at d now + t.estimate.rto) ≡ Some (at d now + n)) r.rto refl

restart-flag : {S : Type 0} (m : Machine S) (d : Driving S) (now window : ℕ) → d.times.una ≡ m.una d.core → restarts_with (sent_of m d.core window) d.times ≡ true
    → GoesOn m d (Emits now window) → (after_call m d (Emits now window)).times.restarted ≡ true
restart-flag m d now window una is g =
    let r = segment-restarts (sent_of m d.core window) d.times (at d now) is in
    following-flag m (core_after m d.core window) (after_segment (sent_of m d.core window) d.times (at d now)) (at d now) (m.una d.core) (r.una ∙ una) g.wanted g.una ∙ r.flag

restart-soon : {S : Type 0} (base g late time now rto : ℕ) (after : Driving S) → after.times.restarted ≡ true → now ≤ time + late → time ≤ base + g → rto ≤ g
    → Soon base g late after (now + rto)
restart-soon base g late time now rto after flag by first short = record { first = λ e. absurd (cc (flag, e)); most = omega (arith, by, first, short) }

emit-stands : {S : Type 0} (m : Machine S) (base g late : ℕ) (d : Driving S) (now window : ℕ) (earlier : List (Call S)) → (h : Stands m base g late d earlier)
    → restarts_with (sent_of m (after_calls m d earlier).core window) (after_calls m d earlier).times ≡ true → GoesOn m (after_calls m d earlier) (Emits now window)
    → Stands m base g late d (Emits now window ∷ earlier)
emit-stands m base g late d now window earlier h is on =
    let e = after_calls m d earlier in
    let r = segment-restarts (sent_of m e.core window) e.times (at e now) is in
    record {
      time = at e now + e.times.estimate.rto;
      waits = record {
        goes = record { deadline = restart-deadline m e now window is on.wanted; una = refl };
        bounded = next-bounded m e g (Emits now window) h.waits.bounded;
      };
      soon = λ punctual. restart-soon base g late h.time (at e now) e.times.estimate.rto (after_call m e (Emits now window))
          (restart-flag m e now window h.waits.goes.una is on)
          (call_by m e h.time late (Emits now window) h.waits.goes (punctual.0)) ((h.soon (punctual.1)).first r.before) h.waits.bounded.most;
    }

other-stands : {S : Type 0} (m : Machine S) (base g late : ℕ) (d : Driving S) (call : Call S) (earlier : List (Call S)) → (h : Stands m base g late d earlier)
    → is_restart m (after_calls m d earlier) call ≡ false → GoesOn m (after_calls m d earlier) call → Stands m base g late d (call ∷ earlier)
other-stands m base g late d call earlier h other on =
    let e = after_calls m d earlier in
    record {
      time = h.time;
      waits = record { goes = next_goes m e h.time call h.waits.goes on other; bounded = next-bounded m e g call h.waits.bounded };
      soon = λ punctual. soon-stays base g late h.time e (after_call m e call) (next-flag m e call h.waits.goes.una on other) (h.soon (punctual.1));
    }

emit-by : {S : Type 0} (m : Machine S) (base g late : ℕ) (d : Driving S) (now window : ℕ) (earlier : List (Call S)) (b : Bool) → (h : Stands m base g late d earlier)
    → restarts_with (sent_of m (after_calls m d earlier).core window) (after_calls m d earlier).times ≡ b → GoesOn m (after_calls m d earlier) (Emits now window)
    → Stands m base g late d (Emits now window ∷ earlier)
emit-by m base g late d now window earlier true h is on = emit-stands m base g late d now window earlier h is on
emit-by m base g late d now window earlier false h is on = other-stands m base g late d (Emits now window) earlier h is on

next-stands : {S : Type 0} (m : Machine S) (base g late : ℕ) (d : Driving S) (call : Call S) (earlier : List (Call S)) → (h : Stands m base g late d earlier)
    → GoesOn m (after_calls m d earlier) call → Stands m base g late d (call ∷ earlier)
next-stands m base g late d (Arrives now src dst bytes vouched) earlier h on = other-stands m base g late d (Arrives now src dst bytes vouched) earlier h refl on
next-stands m base g late d (Emits now window) earlier h on =
    emit-by m base g late d now window earlier (restarts_with (sent_of m (after_calls m d earlier).core window) (after_calls m d earlier).times) h refl on
next-stands m base g late d (Expires now) earlier h on = other-stands m base g late d (Expires now) earlier h refl on
next-stands m base g late d (Uses now does) earlier h on = other-stands m base g late d (Uses now does) earlier h refl on
next-stands m base g late d (SetsUserTimeout limit) earlier h on = other-stands m base g late d (SetsUserTimeout limit) earlier h refl on
next-stands m base g late d (SetsPatience patient) earlier h on = other-stands m base g late d (SetsPatience patient) earlier h refl on

stands : {S : Type 0} (m : Machine S) (base g late : ℕ) (d : Driving S) (calls : List (Call S)) → Stands m base g late d [] → AllGoOn m d calls
    → Stands m base g late d calls
stands m base g late d [] h all = h
stands m base g late d (call ∷ earlier) h all = next-stands m base g late d call earlier (stands m base g late d earlier h (all.1)) (all.0)

-- each `timeout` came before the deadline that stood
in-time : {S : Type 0} (m : Machine S) (d : Driving S) (time : ℕ) (call : Call S) → Goes m d time → GoesOn m d call → IsInTime d call
in-time m d time (Arrives now src dst bytes vouched) h on = tt
in-time m d time (Emits now window) h on = tt
in-time m d time (Expires now) h on =
    λ quiet. let P : Option ℕ → Type 0 = λ o. IfSome o (λ t. at d now < t) in subst P (sym h.deadline) (call_early m d time (Expires now) h on quiet)
in-time m d time (Uses now does) h on = tt
in-time m d time (SetsUserTimeout limit) h on = tt
in-time m d time (SetsPatience patient) h on = tt

all-in-time : {S : Type 0} (m : Machine S) (base g late : ℕ) (d : Driving S) (calls : List (Call S)) → Stands m base g late d [] → AllGoOn m d calls → AllInTime m d calls
all-in-time m base g late d [] h all = tt
all-in-time m base g late d (call ∷ earlier) h all =
    let s = stands m base g late d earlier h (all.1) in
    (in-time m (after_calls m d earlier) s.time call s.waits.goes (all.0), all-in-time m base g late d earlier h (all.1))

all-by : {S : Type 0} (m : Machine S) (base g late : ℕ) (d : Driving S) (calls : List (Call S)) → Stands m base g late d [] → AllGoOn m d calls → AllPunctual m late d calls
    → AllBy m (base + 2 * (g + late)) d calls
all-by m base g late d [] h all punctual = tt
all-by m base g late d (call ∷ earlier) h all punctual =
    let s = stands m base g late d earlier h (all.1) in (
      omega (arith, call_by m (after_calls m d earlier) s.time late call s.waits.goes (punctual.0), (s.soon (punctual.1)).most),
      all-by m base g late d earlier h (all.1) (punctual.1),
    )

in-two : {S : Type 0} (m : Machine S) (late : ℕ) (d : Driving S) (calls : List (Call S)) (time : ℕ) → Goes m d time → IsTimely m d
    → time ≤ d.times.clock + d.times.estimate.rules.greatest → AllGoOn m d calls → ComesInTwo m late d calls
in-two m late d calls time h timely soon all =
    let base = d.times.clock in
    let g = d.times.estimate.rules.greatest in
    let first : Stands m base g late d [] = record {
      time = time;
      waits = record { goes = h; bounded = record { rules = refl; most = timely.soon.bounded.most } };
      soon = λ punctual. record { first = λ e. soon; most = omega (arith, soon) };
    } in
    let last = stands m base g late d calls first all in
    record {
      time = last.time;
      is = last.waits.goes.deadline;
      early = all-in-time m base g late d calls first all;
      soon = λ punctual. (last.soon punctual).most;
      punctual = all-by m base g late d calls first all;
    }

pub in_time_lem : {S : Type 0} (m : Machine S) → TimeoutComesInTime m
in_time_lem m late d calls timely wanted all =
    let b = begins m d timely wanted in
    (λ none. in_time m late d calls (b.0) (b.1.0) (b.1.1) all none, in-two m late d calls (b.0) (b.1.0) timely (b.1.1) all)
