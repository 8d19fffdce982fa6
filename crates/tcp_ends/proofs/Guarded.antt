-- WHAT HAPPENS TO TWO ENDS WITH GUARDS happens in a world of two guarded ends, whatever the ends are.
use Rattle.std.proofs.Common.{◌≡◌, ℕ, Bool, true, false, if◌then◌else◌, List, [], ◌∷◌, Option, Some, None, IfSome, option_map, refl, ap, sym, subst, ◌∙◌}
use Rattle.tcp_driver.specs.declared.machine.Timer.{Timer as Which}
use Rattle.tcp_driver.specs.declared.machine.Timer.TheVariants as timers
use Rattle.tcp_driver.specs.Driver.{Driving, after_taken, at, holds, way_of}
use Rattle.tcp_driver.specs.Times.{expiry}
use Rattle.tcp_conn.specs.declared.phase.Timer.TheVariants.{Retransmit}
use Rattle.tcp_conn.specs.Guard.{after_intake}
use Rattle.tcp_conn.specs.Timers.{timer_answer}
use Rattle.tcp_end.specs.declared.wired.Wired.{Wired}
use Rattle.tcp_end.specs.Wired.{machine}
use Rattle.tcp_replay.specs.declared.event.Side.{Side}
use Rattle.tcp_replay.specs.declared.event.Side.TheVariants.{A, B}
use Rattle.tcp_replay.specs.declared.outcome.StepError.{StepError}
use Rattle.tcp_replay.specs.Among.{Happening, Happens, Injection}
use Rattle.tcp_replay.specs.Events.{EventContent, HasBytes, Acknowledge, Abort, Close, Connect, Damage, Deliver, Emit, EmitAcknowledgement, Listen, Receive, Resend, ResendFirst, Send, Timer, side_of}
use Rattle.tcp_replay.specs.Guarded.{AreFairToGuard as AreFairInWorld, IsBlindToGuard, IsFairToGuard as IsFairInWorld, after_all_guarded, after_guarded, by_guard, guarded_after, there_guarded}
use Rattle.tcp_replay.specs.Safe.{FindsDamage, HintsAreTrue, IsSafe}
use Rattle.tcp_replay.specs.World.{WorldState, both, bytes_with_damage, effect_of, other, world_after, world_with_runs}
use Rattle.tcp_progress.proofs.laws.Guarded.{guarded-is-safe}
use Rattle.tcp_ends.specs.Pair as pairs
use Rattle.tcp_ends.specs.Pair.{CallHasBytes, Connects, Listens, Member, Opening, Pair, PairCall, damage_refusal_in, end_of, guard_of, member_of, new_member, pair_after, pair_of}
use Rattle.tcp_ends.specs.Pair.{party_in, refusal_in, segment_in, unless_refused, with_member, world_in}
use Rattle.tcp_ends.specs.Events.{emission_event, event_of, expiry_event, is_lost, opening_event, unless_lost}
use Rattle.tcp_ends.specs.Among.{Calls, Incident, Injects, Rests, happening_of, happenings_of, happens, injected_unless, pair_after_incident, pair_after_incidents, rests_unless}
use Rattle.tcp_ends.specs.Guarded.{AreFairToGuard, AreGuarded, IncidentsHappenToGuarded, IsFairToGuard, TwoGuardedEndsAreSafe}
use Rattle.tcp_ends.proofs.Beginnings.{begins, guard-is}
use Rattle.tcp_ends.proofs.Guards.{with_end}
use Rattle.tcp_ends.proofs.Projections.{call-bytes, call-is_event}
use Rattle.tcp_ends.proofs.Reached.{incident-guards}
use Rattle.tcp_ends.proofs.Safety.{opening-bytes}
use Rattle.tcp_ends.proofs.Steps.{Does, after_maybe, same-there, there-by}
use Rattle.tcp_ends.proofs.Strangers.{happened, rests}

-- the guarded world after an event or none, and after what happens or nothing
abbrev guarded_maybe : ℕ → WorldState → Option EventContent → WorldState
guarded_maybe reach w None = w
guarded_maybe reach w (Some event) = guarded_after reach w event

abbrev pub guarded_happened : ℕ → WorldState → Option Happening → WorldState
guarded_happened reach w None = w
guarded_happened reach w (Some happening) = after_guarded reach w happening

of-event : (reach : ℕ) (w : WorldState) (event : Option EventContent) → guarded_maybe reach w event ≡ guarded_happened reach w (option_map Happens event)
of-event reach w None = refl
of-event reach w (Some event) = refl

-- ---- WHAT DELIVERS NOTHING is as without guards
abbrev IsPlain : EventContent → Type 0
IsPlain (Deliver from k) = ⊥
IsPlain (Damage from k place value) = ⊥
IsPlain other = Unit {0}

plain-event : (reach : ℕ) (w : WorldState) (event : EventContent) → IsPlain event → world_after w event ≡ guarded_after reach w event
plain-event reach w (Connect side) h = refl
plain-event reach w (Listen side) h = refl
plain-event reach w (Send side text) h = refl
plain-event reach w (Receive side room) h = refl
plain-event reach w (Acknowledge side) h = refl
plain-event reach w (Close side) h = refl
plain-event reach w (Abort side) h = refl
plain-event reach w (Timer side which) h = refl
plain-event reach w (Emit side) h = refl
plain-event reach w (EmitAcknowledgement side) h = refl
plain-event reach w (ResendFirst side) h = refl
plain-event reach w (Resend side from to) h = refl
plain-event reach w (Deliver from k) h = absurd h
plain-event reach w (Damage from k place value) h = absurd h

plain-maybe : (reach : ℕ) (w : WorldState) (event : Option EventContent) → IfSome event IsPlain → after_maybe w event ≡ guarded_maybe reach w event
plain-maybe reach w None h = refl
plain-maybe reach w (Some event) h = plain-event reach w event h

emission-plain : (side : Side) (h : Bool) → IsPlain (emission_event side h)
emission-plain side true = tt
emission-plain side false = tt

expiry-plain : (side : Side) (timer : Option Which) → IfSome (expiry_event side timer) IsPlain
expiry-plain side None = tt
expiry-plain side (Some timers.Retransmit) = tt
expiry-plain side (Some timers.Reorder) = tt
expiry-plain side (Some timers.TimeWait) = tt
expiry-plain side (Some timers.User) = tt

opening-plain : (side : Side) (opening : Opening) → IsPlain (opening_event side opening)
opening-plain side (Connects rules limits now) = tt
opening-plain side (Listens rules limits now) = tt

-- ---- AN ARRIVAL past the guard, which is lost or taken
abbrev taken_by : {H : Type 0} → Member H → Member H → ℕ → List ℕ → Driving (Wired H)
taken_by m from now bytes =
    after_taken machine m.driving (at m.driving now) (end_of from).config.addr.0 (end_of m).config.addr.0 bytes (way_of m.driving false)

arrives-guarded : {H : Type 0} (reach : ℕ) (m from : Member H) (bytes : List ℕ) → guard_of m ≡ Some reach
    → with_end m (after_intake (by_guard reach) (end_of m) (end_of from).config.addr.0 (end_of m).config.addr.0 bytes)
    ≡ with_end m (after_intake (record { is_vouched = false; guard = guard_of m }) (end_of m) (end_of from).config.addr.0 (end_of m).config.addr.0 bytes)
arrives-guarded reach m from bytes e =
    ap (λ (g : Option ℕ). with_end m (after_intake (record { is_vouched = false; guard = g }) (end_of m) (end_of from).config.addr.0 (end_of m).config.addr.0 bytes))
    (sym e)

guarded-there : {H : Type 0} (reach : ℕ) (p : Pair H) (event : EventContent) (refusal : Option StepError) (lost : Bool) (taken : Driving (Wired H))
    → Does (record (effect_of p.life (party_in (member_of p (side_of event))) (party_in (member_of p (other (side_of event)))) event) {
      there = there_guarded reach p.life (party_in (member_of p (side_of event))) (party_in (member_of p (other (side_of event)))) event;
    }) refusal (party_in (member_of p (side_of event))) (party_in (record (member_of p (other (side_of event))) { driving = taken }))
    → world_in (unless_refused refusal p (with_member p (other (side_of event)) (record (member_of p (other (side_of event))) {
      driving = if lost then (member_of p (other (side_of event))).driving else taken;
    })))
    ≡ guarded_maybe reach (world_in p) (unless_lost lost event)
guarded-there reach p event refusal true taken h = same-there (other (side_of event)) p refusal
guarded-there reach p event refusal false taken h =
    there-by (side_of event) p (record (member_of p (other (side_of event))) { driving = taken }) refusal
    (λ x y. record (effect_of p.life x y event) { there = there_guarded reach p.life x y event }) h

-- ---- ONE CALL
guarded-call : {H : Type 0} (reach : ℕ) (p : Pair H) (call : PairCall) → AreGuarded reach p
    → world_in (pair_after p call) ≡ guarded_maybe reach (world_in p) (event_of p call)
unfolding pair_after event_of effect_of
guarded-call reach p (pairs.Arrives from k now) guards =
    guarded-there reach p (Deliver from k) (refusal_in p from k) (is_lost (member_of p (other from)) (segment_in p from k))
    (taken_by (member_of p (other from)) (member_of p from) now (segment_in p from k)) (record {
      refusal_is = refl;
      here_is = refl;
      there_is = λ _. arrives-guarded reach (member_of p (other from)) (member_of p from) (segment_in p from k) (guards (other from));
    })
guarded-call reach p (pairs.ArrivesDamaged from k place value now) guards =
    let bytes = bytes_with_damage (segment_in p from k) place value in
    guarded-there reach p (Damage from k place value) (damage_refusal_in p from k place value) (is_lost (member_of p (other from)) bytes)
    (taken_by (member_of p (other from)) (member_of p from) now bytes) (record {
      refusal_is = refl;
      here_is = refl;
      there_is = λ _. arrives-guarded reach (member_of p (other from)) (member_of p from) bytes (guards (other from));
    })
guarded-call reach p (pairs.Emits side now window out) guards =
    call-is_event p (pairs.Emits side now window out) tt
    ∙ plain-maybe reach (world_in p) (event_of p (pairs.Emits side now window out)) (emission-plain side (holds machine (member_of p side).driving.core window))
guarded-call reach p (pairs.Expires side now) guards =
    call-is_event p (pairs.Expires side now) tt
    ∙ plain-maybe reach (world_in p) (event_of p (pairs.Expires side now)) (expiry-plain side (expiry (member_of p side).driving.times (at (member_of p side).driving now)))
guarded-call reach p (pairs.Sends side now text) guards = call-is_event p (pairs.Sends side now text) tt ∙ plain-event reach (world_in p) (Send side text) tt
guarded-call reach p (pairs.Receives side now out) guards = call-is_event p (pairs.Receives side now out) tt ∙ plain-event reach (world_in p) (Receive side _) tt
guarded-call reach p (pairs.Acknowledges side now) guards = call-is_event p (pairs.Acknowledges side now) tt ∙ plain-event reach (world_in p) (Acknowledge side) tt
guarded-call reach p (pairs.Closes side now) guards = call-is_event p (pairs.Closes side now) tt ∙ plain-event reach (world_in p) (Close side) tt
guarded-call reach p (pairs.Aborts side now) guards = call-is_event p (pairs.Aborts side now) tt ∙ plain-event reach (world_in p) (Abort side) tt
guarded-call reach p (pairs.ResendsFirst side now) guards = call-is_event p (pairs.ResendsFirst side now) tt ∙ plain-event reach (world_in p) (ResendFirst side) tt
guarded-call reach p (pairs.Resends side now from to) guards = call-is_event p (pairs.Resends side now from to) tt ∙ plain-event reach (world_in p) (Resend side from to) tt
guarded-call reach p (pairs.SetsUserTimeout side limit) guards = call-is_event p (pairs.SetsUserTimeout side limit) tt
guarded-call reach p (pairs.SetsPatience side patient) guards = call-is_event p (pairs.SetsPatience side patient) tt

-- ---- AN INJECTION
guarded-injected : {H : Type 0} (reach : ℕ) (p : Pair H) (side : Side) (i : Injection) (lost : Bool) (now : ℕ) → guard_of (member_of p side) ≡ Some reach
    → world_in (with_member p side (record (member_of p side) {
      driving =
          if lost then (member_of p side).driving
          else after_taken machine (member_of p side).driving now i.src i.dst i.bytes (way_of (member_of p side).driving false);
    }))
    ≡ guarded_happened reach (world_in p) (injected_unless lost side i)
guarded-injected reach p A i true now e = refl
guarded-injected reach p B i true now e = refl
guarded-injected reach p A i false now e =
    ap (λ (g : Option ℕ). both p.life (with_end p.a (after_intake (record { is_vouched = false; guard = g }) (end_of p.a) i.src i.dst i.bytes)) (party_in p.b)) e
guarded-injected reach p B i false now e =
    ap (λ (g : Option ℕ). both p.life (party_in p.a) (with_end p.b (after_intake (record { is_vouched = false; guard = g }) (end_of p.b) i.src i.dst i.bytes))) e

-- A REST
rest-guarded : (reach : ℕ) (w : WorldState) (side : Side) (wanted : Bool) → happened w (rests_unless wanted side) ≡ guarded_happened reach w (rests_unless wanted side)
rest-guarded reach w side true = refl
rest-guarded reach w side false = plain-event reach w (Timer side Retransmit) tt

pub guarded-incident : {H : Type 0} (reach : ℕ) (p : Pair H) (incident : Incident) → AreGuarded reach p
    → world_in (pair_after_incident p incident) ≡ guarded_happened reach (world_in p) (happening_of p incident)
unfolding pair_after_incident happening_of
guarded-incident reach p (Calls call) guards = guarded-call reach p call guards ∙ of-event reach (world_in p) (event_of p call)
guarded-incident reach p (Injects side now i) guards =
    guarded-injected reach p side i (is_lost (member_of p side) i.bytes) (at (member_of p side).driving now) (guards side)
guarded-incident reach p (Rests side) guards =
    rests p side (timer_answer (end_of (member_of p side)) Retransmit) refl ∙ rest-guarded reach (world_in p) side (timer_answer (end_of (member_of p side)) Retransmit)

-- ---- MANY
pub more : (reach : ℕ) (w : WorldState) (o : Option Happening) (list : List Happening)
    → after_all_guarded reach w (happens o list) ≡ after_all_guarded reach (guarded_happened reach w o) list
unfolding after_all_guarded
more reach w None list = refl
more reach w (Some happening) list = refl

pub still-guarded : {H : Type 0} (reach : ℕ) (p : Pair H) (incident : Incident) → AreGuarded reach p → AreGuarded reach (pair_after_incident p incident)
still-guarded reach p incident guards = λ side. incident-guards p incident side ∙ guards side

pub incidents-guarded : {H : Type 0} (reach : ℕ) (p : Pair H) (list : List Incident) → AreGuarded reach p
    → world_in (pair_after_incidents p list) ≡ after_all_guarded reach (world_in p) (happenings_of p list)
unfolding pair_after_incidents happenings_of after_all_guarded
incidents-guarded reach p [] guards = refl
incidents-guarded reach p (incident ∷ list) guards =
    incidents-guarded reach (pair_after_incident p incident) list (still-guarded reach p incident guards)
    ∙ ap (λ w. after_all_guarded reach w (happenings_of (pair_after_incident p incident) list)) (guarded-incident reach p incident guards)
    ∙ sym (more reach (world_in p) (happening_of p incident) (happenings_of (pair_after_incident p incident) list))

pub incidents_guarded_lem : (H : Type 0) → IncidentsHappenToGuarded H
incidents_guarded_lem H reach p list guards = incidents-guarded reach p list guards

-- ---- FAIR
fair-event : (reach : ℕ) (w : WorldState) (event : Option EventContent) → IfSome event HasBytes → IfSome (option_map Happens event) (IsFairInWorld reach w)
fair-event reach w None h = tt
fair-event reach w (Some event) h = h

fair-injection : {H : Type 0} (reach : ℕ) (p : Pair H) (side : Side) (i : Injection) (lost : Bool)
    → (lost ≡ false → IsBlindToGuard reach (party_in (member_of p side)) (party_in (member_of p (other side))) i)
    → IfSome (injected_unless lost side i) (IsFairInWorld reach (world_in p))
fair-injection reach p side i true h = tt
fair-injection reach p A i false h = h refl
fair-injection reach p B i false h = h refl

fair-rest : (reach : ℕ) (w : WorldState) (wanted : Bool) (side : Side) → IfSome (rests_unless wanted side) (IsFairInWorld reach w)
fair-rest reach w true side = tt
fair-rest reach w false side = tt

pub fair-incident : {H : Type 0} (reach : ℕ) (p : Pair H) (incident : Incident) → IsFairToGuard reach p incident
    → IfSome (happening_of p incident) (IsFairInWorld reach (world_in p))
unfolding happening_of
fair-incident reach p (Calls call) h = fair-event reach (world_in p) (event_of p call) (call-bytes p call h)
fair-incident reach p (Injects side now i) h = fair-injection reach p side i (is_lost (member_of p side) i.bytes) h
fair-incident reach p (Rests side) h = fair-rest reach (world_in p) (timer_answer (end_of (member_of p side)) Retransmit) side

pub fair-more : (reach : ℕ) (w : WorldState) (o : Option Happening) (list : List Happening) → IfSome o (IsFairInWorld reach w)
    → AreFairInWorld reach (guarded_happened reach w o) list → AreFairInWorld reach w (happens o list)
unfolding AreFairInWorld
fair-more reach w None list h rest = rest
fair-more reach w (Some happening) list h rest = (h, rest)

fair-incidents : {H : Type 0} (reach : ℕ) (p : Pair H) (list : List Incident) → AreGuarded reach p → AreFairToGuard reach p list
    → AreFairInWorld reach (world_in p) (happenings_of p list)
unfolding AreFairToGuard happenings_of AreFairInWorld
fair-incidents reach p [] guards fair = tt
fair-incidents reach p (incident ∷ list) guards fair =
    let after = pair_after_incident p incident in
    fair-more reach (world_in p) (happening_of p incident) (happenings_of after list) (fair-incident reach p incident fair.0)
    (subst (λ w. AreFairInWorld reach w (happenings_of after list)) (guarded-incident reach p incident guards)
    (fair-incidents reach after list (still-guarded reach p incident guards) fair.1))

-- ---- FROM THE OPENINGS ON
after-two : (reach : ℕ) (w : WorldState) (first second : EventContent) (list : List Happening)
    → after_all_guarded reach w (Happens first ∷ Happens second ∷ list)
    ≡ after_all_guarded reach (guarded_after reach (guarded_after reach w first) second) list
unfolding after_all_guarded
after-two reach w first second list = refl

fair-two : (reach : ℕ) (w : WorldState) (first second : EventContent) (list : List Happening) → HasBytes first → HasBytes second
    → AreFairInWorld reach (guarded_after reach (guarded_after reach w first) second) list
    → AreFairInWorld reach w (Happens first ∷ Happens second ∷ list)
unfolding AreFairInWorld
fair-two reach w first second list one two rest = (one, (two, rest))

pub both-plain : (reach : ℕ) (w : WorldState) (opening_a opening_b : Opening)
    → world_after (world_after w (opening_event A opening_a)) (opening_event B opening_b)
    ≡ guarded_after reach (guarded_after reach w (opening_event A opening_a)) (opening_event B opening_b)
both-plain reach w opening_a opening_b =
    plain-event reach (world_after w (opening_event A opening_a)) (opening_event B opening_b) (opening-plain B opening_b)
    ∙ ap (λ v. guarded_after reach v (opening_event B opening_b)) (plain-event reach w (opening_event A opening_a) (opening-plain A opening_a))

pub begun-guarded : {H : Type 0} (life reach : ℕ) (x y : Driving (Wired H)) → guard_of (new_member x) ≡ Some reach → guard_of (new_member y) ≡ Some reach
    → AreGuarded reach (pair_of life (new_member x) (new_member y))
begun-guarded life reach x y e f A = e
begun-guarded life reach x y e f B = f

pub two_guarded_lem : (H : Type 0) → TwoGuardedEndsAreSafe H
two_guarded_lem H life reach a b runs_a runs_b opening_a opening_b x y list least most one two has_a has_b e f fair =
    let p = pair_of life (new_member x) (new_member y) in
    let new = world_with_runs life a b runs_a runs_b in
    let guards : AreGuarded reach p =
    begun-guarded life reach x y (guard-is a runs_a (pairs.peer_at b) opening_a x e ∙ has_a) (guard-is b runs_b (pairs.peer_at a) opening_b y f ∙ has_b) in
    let first = opening_event A opening_a in
    let second = opening_event B opening_b in
    let start : world_in p ≡ guarded_after reach (guarded_after reach new first) second =
    begins life a b runs_a runs_b opening_a opening_b x y e f ∙ both-plain reach new opening_a opening_b in
    let all : List Happening = Happens first ∷ Happens second ∷ happenings_of p list in
    let fits : AreFairInWorld reach new all = fair-two reach new first second (happenings_of p list) (opening-bytes A opening_a) (opening-bytes B opening_b)
    (subst (λ w. AreFairInWorld reach w (happenings_of p list)) start (fair-incidents reach p list guards fair)) in
    let is : after_all_guarded reach new all ≡ world_in (pair_after_incidents p list) =
    after-two reach new first second (happenings_of p list) ∙ ap (λ w. after_all_guarded reach w (happenings_of p list)) (sym start)
    ∙ sym (incidents-guarded reach p list guards) in (
      subst (λ w. IsSafe w) is (guarded-is-safe.safe life reach a b runs_a runs_b all least most one two fits),
      subst (λ w. HintsAreTrue w) is (guarded-is-safe.hints life reach a b runs_a runs_b all least most one two fits),
      subst (λ w. FindsDamage w) is (guarded-is-safe.damage life reach a b runs_a runs_b all least most one two fits),
    )
