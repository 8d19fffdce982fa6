-- EACH CALL IS AN EVENT, or none.
use Rattle.std.proofs.Common.{◌≡◌, ℕ, Bool, true, false, List, [], ◌∷◌, length, Option, Some, None, refl, ap, sym, ◌∙◌, IfSome}
use Rattle.std.specs.List.{AllByRecursion}
use Rattle.tcp_driver.specs.declared.machine.Timer.{Timer as Which}
use Rattle.tcp_driver.specs.declared.machine.Timer.TheVariants as timers
use Rattle.tcp_driver.specs.Driver.{Driving, after_taken, after_time_by, at, holds, way_of}
use Rattle.tcp_driver.specs.Times.{expiry}
use Rattle.tcp_conn.specs.Arrival.{after_arrival}
use Rattle.tcp_conn.specs.Emission.{emitted_bytes, after_emission}
use Rattle.tcp_conn.specs.Guard.{after_intake}
use Rattle.tcp_conn.specs.State.{State}
use Rattle.tcp_conn.specs.declared.phase.Timer.TheVariants.{Retransmit, Reorder, TimeWait}
use Rattle.tcp_end.specs.declared.wired.Wired.{Wired}
use Rattle.tcp_end.specs.Wired.{machine}
use Rattle.tcp_replay.specs.declared.event.Side.{Side}
use Rattle.tcp_replay.specs.Emissions.{due_for}
use Rattle.tcp_replay.specs.Events.{EventContent, HasBytes, Send, Receive, Acknowledge, Close, Abort, Timer, Emit, EmitAcknowledgement, Resend, ResendFirst, Deliver, Damage}
use Rattle.tcp_replay.specs.World.{WorldState, bytes_with_damage, effect_of, other, party_after_abort, party_after_ack_alone, party_after_arrival, party_after_close, party_after_emission}
use Rattle.tcp_replay.specs.World.{party_after_acknowledge, party_after_resend, party_after_resend_first, party_after_send, party_after_timer, party_out, world_after, world_after_all}
use Rattle.tcp_ends.specs.Pair as pairs
use Rattle.tcp_ends.specs.Pair.{CallHasBytes, Member, Pair, PairCall, damage_refusal_in, end_of, member_after_abort, member_after_acknowledge, member_after_close, member_after_emission, member_after_receive, member_after_resend, member_after_resend_first, member_after_send}
use Rattle.tcp_ends.specs.Pair.{guard_of, member_of, pair_after, pair_after_all, party_in, refusal_in, segment_in, with_member, world_in}
use Rattle.tcp_ends.specs.Events.{emission_event, event_of, events_of, expiry_event, is_lost, unless_lost, with_event}
use Rattle.tcp_ends.specs.Laws.{CallsAreEvents}
use Rattle.tcp_ends.proofs.Guards.{CallPasses, CallsPass, IsLetIn, comes-as, unguarded-pass, with_end}
use Rattle.tcp_ends.proofs.Members.{member-out, member-received}
use Rattle.tcp_ends.proofs.Steps.{after_maybe, step-here, step-nowhere, step-there}

-- AN EMISSION
emission : {H : Type 0} (p : Pair H) (side : Side) (m : Member H) (h : Bool) → party_in m ≡ party_out (party_in (member_of p side)) (due_for h (end_of (member_of p side)))
    → world_in (with_member p side m) ≡ world_after (world_in p) (emission_event side h)
unfolding effect_of party_after_emission party_after_ack_alone emitted_bytes after_emission
emission p side m true e = step-here p m (EmitAcknowledgement side) (record { refusal_is = refl; here_is = sym e; there_is = λ _. refl })
emission p side m false e = step-here p m (Emit side) (record { refusal_is = refl; here_is = sym e; there_is = λ _. refl })

-- AN EXPIRY
abbrev timed : {H : Type 0} → Member H → Option Which → ℕ → Member H
timed m timer now = record m { driving = after_time_by machine m.driving timer now }

expires : {H : Type 0} (p : Pair H) (side : Side) (timer : Option Which) (now : ℕ)
    → world_in (with_member p side (timed (member_of p side) timer now)) ≡ after_maybe (world_in p) (expiry_event side timer)
unfolding effect_of party_after_timer party_after_abort
expires p side None now = step-nowhere side p (timed (member_of p side) None now) refl
expires p side (Some timers.Retransmit) now =
    step-here p (timed (member_of p side) (Some timers.Retransmit) now) (Timer side Retransmit) (record { refusal_is = refl; here_is = refl; there_is = λ _. refl })
expires p side (Some timers.Reorder) now =
    step-here p (timed (member_of p side) (Some timers.Reorder) now) (Timer side Reorder) (record { refusal_is = refl; here_is = refl; there_is = λ _. refl })
expires p side (Some timers.TimeWait) now =
    step-here p (timed (member_of p side) (Some timers.TimeWait) now) (Timer side TimeWait) (record { refusal_is = refl; here_is = refl; there_is = λ _. refl })
expires p side (Some timers.User) now =
    step-here p (timed (member_of p side) (Some timers.User) now) (Abort side) (record { refusal_is = refl; here_is = refl; there_is = λ _. refl })

-- AN ARRIVAL passes the guard, and so comes as without one
abbrev taken_by : {H : Type 0} → Member H → Member H → ℕ → List ℕ → Driving (Wired H)
taken_by m from now bytes =
    after_taken machine m.driving (at m.driving now) (end_of from).config.addr.0 (end_of m).config.addr.0 bytes (way_of m.driving false)

arrives-as : {H : Type 0} (m from : Member H) (bytes : List ℕ) → IsLetIn m (end_of from).config.addr.0 (end_of m).config.addr.0 bytes
    → with_end m (after_arrival (end_of m) (end_of from).config.addr.0 (end_of m).config.addr.0 bytes)
    ≡ with_end m (after_intake (record { is_vouched = false; guard = guard_of m }) (end_of m) (end_of from).config.addr.0 (end_of m).config.addr.0 bytes)
arrives-as m from bytes h =
    ap (λ (s : State). with_end m s)
    (sym (comes-as (guard_of m) (end_of m) (end_of from).config.addr.0 (end_of m).config.addr.0 bytes h))

-- ONE CALL
pub call-is_event : {H : Type 0} (p : Pair H) (call : PairCall) → CallPasses p call → world_in (pair_after p call) ≡ after_maybe (world_in p) (event_of p call)
unfolding pair_after event_of effect_of party_after_arrival party_after_send party_after_acknowledge party_after_close party_after_abort party_after_resend party_after_resend_first
call-is_event p (pairs.Arrives from k now) passes =
    step-there p (Deliver from k) (refusal_in p from k) (is_lost (member_of p (other from)) (segment_in p from k))
    (taken_by (member_of p (other from)) (member_of p from) now (segment_in p from k)) (record {
      refusal_is = refl;
      here_is = refl;
      there_is = λ e. arrives-as (member_of p (other from)) (member_of p from) (segment_in p from k) (passes e);
    })
call-is_event p (pairs.ArrivesDamaged from k place value now) passes =
    let bytes = bytes_with_damage (segment_in p from k) place value in
    step-there p (Damage from k place value) (damage_refusal_in p from k place value) (is_lost (member_of p (other from)) bytes)
    (taken_by (member_of p (other from)) (member_of p from) now bytes) (record {
      refusal_is = refl;
      here_is = refl;
      there_is = λ e. arrives-as (member_of p (other from)) (member_of p from) bytes (passes e);
    })
call-is_event p (pairs.Emits side now window out) passes =
    let m = member_of p side in
    emission p side (member_after_emission m now window out) (holds machine m.driving.core window) (member-out m now window out)
call-is_event p (pairs.Expires side now) passes = expires p side (expiry (member_of p side).driving.times (at (member_of p side).driving now)) (at (member_of p side).driving now)
call-is_event p (pairs.Sends side now text) passes =
    step-here p (member_after_send (member_of p side) now text) (Send side text) (record { refusal_is = refl; here_is = refl; there_is = λ _. refl })
call-is_event p (pairs.Receives side now out) passes =
    step-here p (member_after_receive (member_of p side) now out) (Receive side (length out))
    (record { refusal_is = refl; here_is = sym (member-received (member_of p side) now out); there_is = λ _. refl })
call-is_event p (pairs.Acknowledges side now) passes =
    step-here p (member_after_acknowledge (member_of p side) now) (Acknowledge side) (record { refusal_is = refl; here_is = refl; there_is = λ _. refl })
call-is_event p (pairs.Closes side now) passes =
    step-here p (member_after_close (member_of p side) now) (Close side) (record { refusal_is = refl; here_is = refl; there_is = λ _. refl })
call-is_event p (pairs.Aborts side now) passes =
    step-here p (member_after_abort (member_of p side) now) (Abort side) (record { refusal_is = refl; here_is = refl; there_is = λ _. refl })
call-is_event p (pairs.ResendsFirst side now) passes =
    step-here p (member_after_resend_first (member_of p side) now) (ResendFirst side) (record { refusal_is = refl; here_is = refl; there_is = λ _. refl })
call-is_event p (pairs.Resends side now from to) passes =
    step-here p (member_after_resend (member_of p side) now from to) (Resend side from to) (record { refusal_is = refl; here_is = refl; there_is = λ _. refl })
call-is_event p (pairs.SetsUserTimeout side limit) passes = step-nowhere side p _ refl
call-is_event p (pairs.SetsPatience side patient) passes = step-nowhere side p _ refl

-- MANY
more : (w : WorldState) (event : Option EventContent) (list : List EventContent) → world_after_all w (with_event event list) ≡ world_after_all (after_maybe w event) list
unfolding world_after_all
more w None list = refl
more w (Some event) list = refl

pub calls-events : {H : Type 0} (p : Pair H) (list : List PairCall) → CallsPass p list
    → world_in (pair_after_all p list) ≡ world_after_all (world_in p) (events_of p list)
unfolding pair_after_all events_of world_after_all CallsPass
calls-events p [] passes = refl
calls-events p (call ∷ list) passes =
    calls-events (pair_after p call) list passes.1
    ∙ ap (λ w. world_after_all w (events_of (pair_after p call) list)) (call-is_event p call passes.0)
    ∙ sym (more (world_in p) (event_of p call) (events_of (pair_after p call) list))

-- THEIR BYTES
lost-bytes : (lost : Bool) (event : EventContent) → HasBytes event → IfSome (unless_lost lost event) HasBytes
lost-bytes true event h = tt
lost-bytes false event h = h

emission-bytes : (side : Side) (h : Bool) → HasBytes (emission_event side h)
emission-bytes side true = tt
emission-bytes side false = tt

expiry-bytes : (side : Side) (timer : Option Which) → IfSome (expiry_event side timer) HasBytes
expiry-bytes side None = tt
expiry-bytes side (Some timers.Retransmit) = tt
expiry-bytes side (Some timers.Reorder) = tt
expiry-bytes side (Some timers.TimeWait) = tt
expiry-bytes side (Some timers.User) = tt

pub call-bytes : {H : Type 0} (p : Pair H) (call : PairCall) → CallHasBytes call → IfSome (event_of p call) HasBytes
unfolding event_of
call-bytes p (pairs.Arrives from k now) h = lost-bytes (is_lost (member_of p (other from)) (segment_in p from k)) (Deliver from k) tt
call-bytes p (pairs.ArrivesDamaged from k place value now) h =
    lost-bytes (is_lost (member_of p (other from)) (bytes_with_damage (segment_in p from k) place value)) (Damage from k place value) h
call-bytes p (pairs.Emits side now window out) h = emission-bytes side (holds machine (member_of p side).driving.core window)
call-bytes p (pairs.Expires side now) h = expiry-bytes side (expiry (member_of p side).driving.times (at (member_of p side).driving now))
call-bytes p (pairs.Sends side now text) h = h
call-bytes p (pairs.Receives side now out) h = tt
call-bytes p (pairs.Acknowledges side now) h = tt
call-bytes p (pairs.Closes side now) h = tt
call-bytes p (pairs.Aborts side now) h = tt
call-bytes p (pairs.ResendsFirst side now) h = tt
call-bytes p (pairs.Resends side now from to) h = tt
call-bytes p (pairs.SetsUserTimeout side limit) h = tt
call-bytes p (pairs.SetsPatience side patient) h = tt

with-bytes : (event : Option EventContent) (list : List EventContent) → IfSome event HasBytes → AllByRecursion HasBytes list → AllByRecursion HasBytes (with_event event list)
with-bytes None list h rest = rest
with-bytes (Some event) list h rest = (h, rest)

pub calls-bytes : {H : Type 0} (p : Pair H) (list : List PairCall) → AllByRecursion CallHasBytes list → AllByRecursion HasBytes (events_of p list)
unfolding events_of
calls-bytes p [] all = tt
calls-bytes p (call ∷ list) all =
    with-bytes (event_of p call) (events_of (pair_after p call) list) (call-bytes p call all.0) (calls-bytes (pair_after p call) list all.1)

pub calls_are_events_lem : (H : Type 0) → CallsAreEvents H
calls_are_events_lem H p list none all = (calls-bytes p list all, calls-events p list (unguarded-pass p list none))
