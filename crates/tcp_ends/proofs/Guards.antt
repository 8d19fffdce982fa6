-- WHAT PASSES A GUARD comes as without one, and a guard stays what it was, whatever is called.
use Rattle.std.proofs.Common.{◌≡◌, ◌||◌, ℕ, Bool, true, false, if◌then◌else◌, List, [], ◌∷◌, Option, Some, None, IfSome, refl, sym, subst, ◌∙◌}
use Rattle.tcp_driver.specs.declared.machine.Sent.{Sent}
use Rattle.tcp_driver.specs.declared.machine.Timer.{Timer as Which}
use Rattle.tcp_driver.specs.declared.machine.Timer.TheVariants as timers
use Rattle.tcp_driver.specs.declared.machine.Way.{Way}
use Rattle.tcp_driver.specs.Calls as calls
use Rattle.tcp_driver.specs.Calls.{Call, after_call}
use Rattle.tcp_driver.specs.Driver.{Driving, after_taken, after_time_by, at, is_withheld, sent_of, way_of}
use Rattle.tcp_driver.specs.Machine.{Machine}
use Rattle.tcp_driver.specs.Times.{Times, after_expiry, after_segment, expiry}
use Rattle.tcp_conn.specs.Arrival.{after_arrival}
use Rattle.tcp_conn.specs.Guard.{after_intake, keeps_out}
use Rattle.tcp_conn.specs.State.{State}
use Rattle.tcp_conn.proofs.Unguarded.{same-after}
use Rattle.tcp_end.specs.declared.wired.Wired.{Wired}
use Rattle.tcp_end.specs.Wired.{machine}
use Rattle.tcp_replay.specs.declared.event.Side.{Side}
use Rattle.tcp_replay.specs.declared.event.Side.TheVariants.{A, B}
use Rattle.tcp_replay.specs.declared.outcome.StepError.{StepError}
use Rattle.tcp_replay.specs.World.{PartyState, bytes_with_damage, other}
use Rattle.tcp_replay.proofs.run.Passing.{passes}
use Rattle.tcp_ends.specs.Pair as pairs
use Rattle.tcp_ends.specs.Pair.{HasNoGuards, Member, Pair, PairCall, damage_refusal_in, end_of, guard_of, member_after_abort, member_after_acknowledge, member_after_arrival}
use Rattle.tcp_ends.specs.Pair.{member_after_close, member_after_emission, member_after_receive, member_after_resend, member_after_resend_first, member_after_send, member_after_time}
use Rattle.tcp_ends.specs.Pair.{member_after_patience, member_after_user_timeout, member_of, pair_after, party_in, refusal_in, segment_in, unless_refused, with_member}

-- ---- A GUARD STAYS, at each call of a driver,
arrive-keeps : {S : Type 0} (m : Machine S) (d : Driving S) (now : ℕ) (src dst bytes : List ℕ) (way : Way) (lost : Bool)
    → (if lost then d else after_taken m d now src dst bytes way).times.limits.guard ≡ d.times.limits.guard
arrive-keeps m d now src dst bytes way true = refl
arrive-keeps m d now src dst bytes way false = refl

segment-keeps : (sent : Option Sent) (t : Times) (now : ℕ) → (after_segment sent t now).limits.guard ≡ t.limits.guard
segment-keeps None t now = refl
segment-keeps (Some sent) t now = refl

expiry-keeps : (t : Times) (timer : Which) → (after_expiry t timer).limits.guard ≡ t.limits.guard
expiry-keeps t timers.Retransmit = refl
expiry-keeps t timers.Reorder = refl
expiry-keeps t timers.TimeWait = refl
expiry-keeps t timers.User = refl

time-keeps : {S : Type 0} (m : Machine S) (d : Driving S) (now : ℕ) (timer : Option Which)
    → (after_time_by m d timer now).times.limits.guard ≡ d.times.limits.guard
time-keeps m d now None = refl
time-keeps m d now (Some timer) = expiry-keeps d.times timer

call-keeps : {S : Type 0} (m : Machine S) (d : Driving S) (call : Call S) → (after_call m d call).times.limits.guard ≡ d.times.limits.guard
call-keeps m d (calls.Arrives now src dst bytes vouched) =
    arrive-keeps m d (at d now) src dst bytes (way_of d vouched) (d.times.bursting || is_withheld m d.core bytes)
call-keeps m d (calls.Emits now window) = segment-keeps (sent_of m d.core window) d.times (at d now)
call-keeps m d (calls.Expires now) = time-keeps m d (at d now) (expiry d.times (at d now))
call-keeps m d (calls.Uses now does) = refl
call-keeps m d (calls.SetsUserTimeout limit) = refl
call-keeps m d (calls.SetsPatience patient) = refl

-- and of two of them
pub with-guards : {H : Type 0} (p : Pair H) (here : Side) (m : Member H) → guard_of m ≡ guard_of (member_of p here) → (side : Side)
    → guard_of (member_of (with_member p here m) side) ≡ guard_of (member_of p side)
with-guards p A m e A = e
with-guards p A m e B = refl
with-guards p B m e A = refl
with-guards p B m e B = e

unless-guards : {H : Type 0} (p : Pair H) (refusal : Option StepError) (here : Side) (m : Member H) → guard_of m ≡ guard_of (member_of p here) → (side : Side)
    → guard_of (member_of (unless_refused refusal p (with_member p here m)) side) ≡ guard_of (member_of p side)
unless-guards p None here m e side = with-guards p here m e side
unless-guards p (Some error) here m e side = refl

pub drive-keeps : {H : Type 0} (m : Member H) (call : Call (Wired H)) → (after_call machine m.driving call).times.limits.guard ≡ guard_of m
drive-keeps m call = call-keeps machine m.driving call

pub guards-stay : {H : Type 0} (p : Pair H) (call : PairCall) (side : Side) → guard_of (member_of (pair_after p call) side) ≡ guard_of (member_of p side)
unfolding pair_after member_after_emission
guards-stay p (pairs.Arrives from k now) side =
    let m = member_of p (other from) in
    let bytes = segment_in p from k in
    unless-guards p (refusal_in p from k) (other from) (member_after_arrival m (member_of p from) now bytes)
    (drive-keeps m (calls.Arrives now (end_of (member_of p from)).config.addr.0 (end_of m).config.addr.0 bytes false)) side
guards-stay p (pairs.ArrivesDamaged from k place value now) side =
    let m = member_of p (other from) in
    let bytes = bytes_with_damage (segment_in p from k) place value in
    unless-guards p (damage_refusal_in p from k place value) (other from) (member_after_arrival m (member_of p from) now bytes)
    (drive-keeps m (calls.Arrives now (end_of (member_of p from)).config.addr.0 (end_of m).config.addr.0 bytes false)) side
guards-stay p (pairs.Emits here now window out) side =
    with-guards p here (member_after_emission (member_of p here) now window out) (drive-keeps (member_of p here) (calls.Emits now window)) side
guards-stay p (pairs.Expires here now) side =
    with-guards p here (member_after_time (member_of p here) now) (drive-keeps (member_of p here) (calls.Expires now)) side
guards-stay p (pairs.Sends here now text) side = with-guards p here (member_after_send (member_of p here) now text) refl side
guards-stay p (pairs.Receives here now out) side = with-guards p here (member_after_receive (member_of p here) now out) refl side
guards-stay p (pairs.Acknowledges here now) side = with-guards p here (member_after_acknowledge (member_of p here) now) refl side
guards-stay p (pairs.Closes here now) side = with-guards p here (member_after_close (member_of p here) now) refl side
guards-stay p (pairs.Aborts here now) side = with-guards p here (member_after_abort (member_of p here) now) refl side
guards-stay p (pairs.ResendsFirst here now) side = with-guards p here (member_after_resend_first (member_of p here) now) refl side
guards-stay p (pairs.Resends here now from to) side = with-guards p here (member_after_resend (member_of p here) now from to) refl side
guards-stay p (pairs.SetsUserTimeout here limit) side = with-guards p here (member_after_user_timeout (member_of p here) limit) refl side
guards-stay p (pairs.SetsPatience here patient) side = with-guards p here (member_after_patience (member_of p here) patient) refl side

-- the party of a member whose end is this
abbrev pub with_end : {H : Type 0} → Member H → State → PartyState
with_end m s = record (party_in m) { endpoint = s }

-- ---- LET IN past the guard of an end, if it has one
abbrev pub IsLetIn : {H : Type 0} → Member H → List ℕ → List ℕ → List ℕ → Type 0
IsLetIn m src dst bytes = IfSome (guard_of m) (λ reach. keeps_out reach (end_of m) src dst bytes ≡ false)

pub comes-as : (guard : Option ℕ) (s : State) (src dst bytes : List ℕ) → IfSome guard (λ reach. keeps_out reach s src dst bytes ≡ false)
    → after_intake (record { is_vouched = false; guard = guard }) s src dst bytes ≡ after_arrival s src dst bytes
comes-as None s src dst bytes h = same-after false s src dst bytes
comes-as (Some reach) s src dst bytes h = passes reach s src dst bytes h

-- A CALL PASSES: what it delivers is let in
abbrev pub DeliveryPasses : {H : Type 0} → Pair H → Side → List ℕ → Type 0
DeliveryPasses p from bytes =
    IsLetIn (member_of p (other from)) (end_of (member_of p from)).config.addr.0 (end_of (member_of p (other from))).config.addr.0 bytes

abbrev pub CallPasses : {H : Type 0} → Pair H → PairCall → Type 0
CallPasses p (pairs.Arrives from k now) = refusal_in p from k ≡ None → DeliveryPasses p from (segment_in p from k)
CallPasses p (pairs.ArrivesDamaged from k place value now) =
    damage_refusal_in p from k place value ≡ None → DeliveryPasses p from (bytes_with_damage (segment_in p from k) place value)
CallPasses p other = Unit {0}

unfoldable pub CallsPass : {H : Type 0} → Pair H → List PairCall → Type 0
CallsPass p [] = Unit {0}
CallsPass p (call ∷ list) = CallPasses p call × CallsPass (pair_after p call) list

-- ---- WITHOUT GUARDS all is let in
none-lets : {H : Type 0} (m : Member H) (src dst bytes : List ℕ) → guard_of m ≡ None → IsLetIn m src dst bytes
none-lets m src dst bytes e = subst (λ g. IfSome g (λ reach. keeps_out reach (end_of m) src dst bytes ≡ false)) (sym e) tt

unguarded-passes : {H : Type 0} (p : Pair H) (call : PairCall) → HasNoGuards p → CallPasses p call
unguarded-passes p (pairs.Arrives from k now) none = λ e. none-lets (member_of p (other from)) _ _ _ (none (other from))
unguarded-passes p (pairs.ArrivesDamaged from k place value now) none = λ e. none-lets (member_of p (other from)) _ _ _ (none (other from))
unguarded-passes p (pairs.Emits side now window out) none = tt
unguarded-passes p (pairs.Expires side now) none = tt
unguarded-passes p (pairs.Sends side now text) none = tt
unguarded-passes p (pairs.Receives side now out) none = tt
unguarded-passes p (pairs.Acknowledges side now) none = tt
unguarded-passes p (pairs.Closes side now) none = tt
unguarded-passes p (pairs.Aborts side now) none = tt
unguarded-passes p (pairs.ResendsFirst side now) none = tt
unguarded-passes p (pairs.Resends side now from to) none = tt
unguarded-passes p (pairs.SetsUserTimeout side limit) none = tt
unguarded-passes p (pairs.SetsPatience side patient) none = tt

pub unguarded-pass : {H : Type 0} (p : Pair H) (list : List PairCall) → HasNoGuards p → CallsPass p list
unfolding CallsPass
unguarded-pass p [] none = tt
unguarded-pass p (call ∷ list) none =
    (unguarded-passes p call none, unguarded-pass (pair_after p call) list (λ side. guards-stay p call side ∙ none side))
