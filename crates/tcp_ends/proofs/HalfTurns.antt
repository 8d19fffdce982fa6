-- The calls that make half turns make those of the ends inside.
use Rattle.std.proofs.Common.{◌≡◌, ℕ, zero, suc, Bool, true, false, if◌then◌else◌, List, [], ◌∷◌, ◌++◌, length, Option, Some, None, option_map, refl, ap, sym, subst, ◌∙◌, IfSome, inl, inr}
use Rattle.tcp_driver.specs.declared.machine.Sent.{Sent}
use Rattle.tcp_driver.specs.declared.machine.Timer.{Timer as Which}
use Rattle.tcp_driver.specs.declared.machine.Timer.TheVariants as timers
use Rattle.tcp_driver.specs.Driver.{holds}
use Rattle.tcp_conn.specs.declared.emit.due.Due.{Due}
use Rattle.tcp_conn.specs.declared.phase.Timer.TheVariants.{Retransmit}
use Rattle.tcp_conn.specs.Due.{ack_alone, due_of, start_of}
use Rattle.tcp_conn.specs.State.{State}
use Rattle.tcp_conn.specs.Timers.{after_timer}
use Rattle.tcp_conn.specs.Transmission.{transmit_ack_alone, transmit_due, transmit_of}
use Rattle.tcp_end.specs.Wired as wired
use Rattle.tcp_end.specs.Wired.{machine}
use Rattle.tcp_reasm.specs.Reassembly.{default_runs}
use Rattle.tcp_replay.specs.declared.event.Side.{Side}
use Rattle.tcp_replay.specs.declared.event.Side.TheVariants.{A, B}
use Rattle.tcp_replay.specs.Among.{Happening, Happens, Injection, IsBlind, after_happening, after_happenings}
use Rattle.tcp_replay.specs.Events.{Damage, Deliver, Emit, EventContent, Timer}
use Rattle.tcp_replay.specs.World.{WorldState, bytes_with_damage, other}
use Rattle.tcp_progress.specs.Fair.{GotThrough, IsCalm, NoneDiscarded}
use Rattle.tcp_progress.specs.Half.{AnswerArrives, AreCalm, Arrives, GetsThroughByHalves, HasBothHalves, HasHalfTurn, HasHalves, HasReadAll, IsCalmNow, SegmentIsAnswered, SendsAt, count_sent, endpoint_at, timeout}
use Rattle.tcp_progress.specs.Measure.{left_in}
use Rattle.tcp_ends.specs.Pair as pairs
use Rattle.tcp_ends.specs.Pair.{Pair, PairCall, end_of, member_of, new_member, pair_of, party_in, segment_in, world_in}
use Rattle.tcp_ends.specs.Events.{emission_event, event_of, expiry_event, is_lost, unless_lost}
use Rattle.tcp_ends.specs.Among.{AreFairIncidents, Calls, Incident, Injects, IsFairIncident, happening_of, happenings_of, happens, injected_unless, pair_after_incident, pair_after_incidents}
use Rattle.tcp_ends.specs.Among.{Rests, rests_unless}
use Rattle.tcp_conn.specs.Timers.{timer_answer}
use Rattle.tcp_ends.specs.Halves.{AnswerIsBrought, AreCalmIncidents, Comes, IsAnswered, IsBrought, IsCalmCall, IsCalmExpiry, IsCalmIncident, MakeBothHalves, MakeHalves, MakesHalfTurn, TwoEndsGetThroughByHalves, TwoEndsGetThroughByHalvesWithRuns, expiry_at}
use Rattle.tcp_progress.proofs.turn.BothHalves.{halved-kept}
use Rattle.tcp_ends.proofs.Reached.{Reached, all-at, began, calls-at, kept-at}
use Rattle.tcp_ends.proofs.Strangers.{IncidentPasses, IncidentsPass, happened, incident-is, incidents-are, parties, pass-one, pass-split}

-- LISTS, one after another
happens-more : (o : Option Happening) (xs ys : List Happening) → happens o (xs ++ ys) ≡ happens o xs ++ ys
happens-more None xs ys = refl
happens-more (Some h) xs ys = refl

happenings-append : {H : Type 0} (p : Pair H) (xs ys : List Incident) → happenings_of p (xs ++ ys) ≡ happenings_of p xs ++ happenings_of (pair_after_incidents p xs) ys
unfolding happenings_of pair_after_incidents
happenings-append p [] ys = refl
happenings-append p (x ∷ xs) ys =
    ap (λ l. happens (happening_of p x) l) (happenings-append (pair_after_incident p x) xs ys)
    ∙ happens-more (happening_of p x) (happenings_of (pair_after_incident p x) xs) (happenings_of (pair_after_incidents (pair_after_incident p x) xs) ys)

after-append : (w : WorldState) (xs ys : List Happening) → after_happenings w (xs ++ ys) ≡ after_happenings (after_happenings w xs) ys
unfolding after_happenings
after-append w [] ys = refl
after-append w (x ∷ xs) ys = after-append (after_happening w x) xs ys

after-one : (w : WorldState) (h : Happening) → after_happenings w (h ∷ []) ≡ after_happening w h
unfolding after_happenings
after-one w h = refl

-- the world after a list and one thing more
world-at : {H : Type 0} (p : Pair H) (before : List Incident) (incident : Incident) (h : Happening)
    → happening_of (pair_after_incidents p before) incident ≡ Some h → IncidentsPass p before → IncidentPasses (pair_after_incidents p before) incident
    → after_happenings (world_in p) (happenings_of p before ++ (h ∷ [])) ≡ world_in (pair_after_incident (pair_after_incidents p before) incident)
world-at p before incident h e pass passes =
    let q = pair_after_incidents p before in
    after-append (world_in p) (happenings_of p before) (h ∷ []) ∙ ap (λ w. after_happenings w (h ∷ [])) (sym (incidents-are p before pass))
    ∙ after-one (world_in q) h ∙ ap (λ o. happened (world_in q) o) (sym e) ∙ sym (incident-is q incident passes)

-- an end and the count of its segments
pub end-in : {H : Type 0} (p : Pair H) (side : Side) → endpoint_at (world_in p) side ≡ end_of (member_of p side)
end-in p A = refl
end-in p B = refl

count-in : {H : Type 0} (p : Pair H) (side : Side) → count_sent (world_in p) side ≡ length (member_of p side).sent
count-in p A = refl
count-in p B = refl

end-at : {H : Type 0} (p : Pair H) (before : List Incident) (side : Side) → IncidentsPass p before
    → endpoint_at (after_happenings (world_in p) (happenings_of p before)) side ≡ end_of (member_of (pair_after_incidents p before) side)
end-at p before side pass = ap (λ w. endpoint_at w side) (sym (incidents-are p before pass)) ∙ end-in (pair_after_incidents p before) side

count-at : {H : Type 0} (p : Pair H) (before : List Incident) (side : Side) → IncidentsPass p before
    → count_sent (after_happenings (world_in p) (happenings_of p before)) side ≡ length (member_of (pair_after_incidents p before) side).sent
count-at p before side pass = ap (λ w. count_sent w side) (sym (incidents-are p before pass)) ∙ count-in (pair_after_incidents p before) side

-- WHAT COMES ARRIVES
taken-happens : {H : Type 0} (p : Pair H) (side : Side) (k now : ℕ) → is_lost (member_of p (other side)) (segment_in p side k) ≡ false
    → happening_of p (Calls (pairs.Arrives side k now)) ≡ Some (Happens (Deliver side k))
unfolding happening_of event_of
taken-happens p side k now e = ap (λ lost. option_map Happens (unless_lost lost (Deliver side k))) e

one-arrives : (side : Side) (k : ℕ) (o : Option Happening) (list : List Happening) → o ≡ Some (Happens (Deliver side k)) → Arrives side k (happens o list)
one-arrives side k None list e = absurd (cc)
one-arrives side k (Some h) list e = inl (cc)

later-arrives : (side : Side) (k : ℕ) (o : Option Happening) (list : List Happening) → Arrives side k list → Arrives side k (happens o list)
later-arrives side k None list h = h
later-arrives side k (Some x) list h = inr h

comes-arrives : {H : Type 0} (p : Pair H) (side : Side) (k : ℕ) (incident : Incident) → Comes p side k incident
    → happening_of p incident ≡ Some (Happens (Deliver side k))
comes-arrives p side k incident c = ap (λ i. happening_of p i) c.is ∙ taken-happens p side k c.now c.taken

brought : {H : Type 0} (p : Pair H) (side : Side) (k : ℕ) (list : List Incident) → IsBrought p side k list → Arrives side k (happenings_of p list)
unfolding IsBrought happenings_of
brought p side k [] h = h
brought p side k (incident ∷ list) (inl c) = one-arrives side k (happening_of p incident) (happenings_of (pair_after_incident p incident) list) (comes-arrives p side k incident c)
brought p side k (incident ∷ list) (inr later) =
    later-arrives side k (happening_of p incident) (happenings_of (pair_after_incident p incident) list) (brought (pair_after_incident p incident) side k list later)

-- WHAT THE DRIVER EMITS is what is due, or the acknowledgement alone
record GoesAs (s : State) (d : Option Due) (sent : Sent) : Type 0 where
  due : Due
  is : d ≡ Some due
  start : sent.start ≡ start_of s.sending due

goes-as : (s : State) (d : Option Due) (sent : Sent) → option_map wired.sent_by (option_map (transmit_of s) d) ≡ Some sent → GoesAs s d sent
goes-as s None sent e = absurd (cc)
goes-as s (Some due) sent e =
    let same : wired.sent_by (transmit_of s due) ≡ sent = cc in
    record { due = due; is = refl; start = ap (λ (x : Sent). x.start) (sym same) }

abbrev due_held : Bool → State → Option Due
due_held h s = if h then ack_alone s else due_of s

emits-as : (s : State) (h : Bool) (sent : Sent) → (if h then option_map wired.sent_by (transmit_ack_alone s) else option_map wired.sent_by (transmit_due s)) ≡ Some sent
    → GoesAs s (due_held h s) sent
unfolding transmit_ack_alone transmit_due
emits-as s true sent e = goes-as s (ack_alone s) sent e
emits-as s false sent e = goes-as s (due_of s) sent e

sends-at : (w : WorldState) (side : Side) (s : State) (h : Bool) (due : Due) → endpoint_at w side ≡ s → due_held h s ≡ Some due → SendsAt w side (emission_event side h) due
sends-at w side s true due e f = inr (refl, ap ack_alone e ∙ f)
sends-at w side s false due e f = inl (refl, ap due_of e ∙ f)

-- an emission is an event in any case
emission-first : {H : Type 0} (p : Pair H) (side : Side) (now window : ℕ) (out : List ℕ) (list : List Incident)
    → happenings_of p (Calls (pairs.Emits side now window out) ∷ list)
    ≡ Happens (emission_event side (holds machine (member_of p side).driving.core window)) ∷ happenings_of (pair_after_incident p (Calls (pairs.Emits side now window out))) list
unfolding happenings_of happening_of event_of
emission-first p side now window out list = refl

-- AN ANSWER
answer : {H : Type 0} (side : Side) (p : Pair H) (list : List Incident) → IncidentsPass p list → AnswerIsBrought side p list
    → AnswerArrives side (world_in p) (happenings_of p list)
answer side p list pass r =
    let q = pair_after_incidents p r.before in
    let front = (pass-split p r.before _ (subst (λ l. IncidentsPass p l) r.form pass)).0 in
    let s = end_of (member_of q side) in
    let h = holds machine (member_of q side).driving.core r.window in
    let g : GoesAs s (due_held h s) r.sent = emits-as s h r.sent r.goes in
    let after = happenings_of (pair_after_incident q (Calls (pairs.Emits side r.now r.window r.out))) r.after in
    let w = after_happenings (world_in p) (happenings_of p r.before) in
    record {
      before = happenings_of p r.before;
      answer = emission_event side h;
      after = after;
      form = ap (λ l. happenings_of p l) r.form ∙ happenings-append p r.before _
          ∙ ap (λ l. happenings_of p r.before ++ l) (emission-first q side r.now r.window r.out r.after);
      due = g.due;
      sends = sends-at w side s h g.due (end-at p r.before side front) g.is;
      at = ap (λ (x : State). start_of x.sending g.due) (end-at p r.before side front) ∙ sym g.start ∙ r.at_next
          ∙ ap (λ (x : State). x.sending.snd_nxt) (sym (end-at p r.before side front));
      arrives = subst (λ k. Arrives side k after) (sym (count-at p r.before side front)) (brought _ side _ r.after r.comes);
    }

-- A SEGMENT
first-happens : {H : Type 0} (p : Pair H) (incident : Incident) (h : Happening) (list : List Incident) → happening_of p incident ≡ Some h
    → happenings_of p (incident ∷ list) ≡ h ∷ happenings_of (pair_after_incident p incident) list
unfolding happenings_of
first-happens p incident h list e = ap (λ o. happens o (happenings_of (pair_after_incident p incident) list)) e

pub segment-answered : {H : Type 0} (side : Side) (k : ℕ) (p : Pair H) (list : List Incident) → IncidentsPass p list → IsAnswered side k p list
    → SegmentIsAnswered side k (world_in p) (happenings_of p list)
segment-answered side k p list pass r =
    let q = pair_after_incidents p r.before in
    let call = Calls (pairs.Arrives side k r.now) in
    let parts = pass-split p r.before (call ∷ r.after) (subst (λ l. IncidentsPass p l) r.form pass) in
    let rest = pass-one q call r.after parts.1 in
    let e = taken-happens q side k r.now r.taken in
    let at = world-at p r.before call (Happens (Deliver side k)) e parts.0 rest.0 in
    record {
      before = happenings_of p r.before;
      after = happenings_of (pair_after_incident q call) r.after;
      form = ap (λ l. happenings_of p l) r.form ∙ happenings-append p r.before _
          ∙ ap (λ l. happenings_of p r.before ++ l) (first-happens q call (Happens (Deliver side k)) r.after e);
      answered = λ pending. subst (λ w. AnswerArrives (other side) w (happenings_of (pair_after_incident q call) r.after)) (sym at)
          (answer (other side) (pair_after_incident q call) r.after rest.1
          (r.answered (ap (λ (s : State). s.pending.ack) (sym (ap (λ w. endpoint_at w (other side)) at ∙ end-in (pair_after_incident q call) (other side))) ∙ pending)));
    }

-- A HALF TURN
pub if-some : {P Q : Type 0} (o : Option Due) → (P → Q) → IfSome o (λ _. P) → IfSome o (λ _. Q)
if-some None f h = tt
if-some (Some due) f h = f h

emits-happens : {H : Type 0} (p : Pair H) (side : Side) (now window : ℕ) (out : List ℕ) → holds machine (member_of p side).driving.core window ≡ false
    → happening_of p (Calls (pairs.Emits side now window out)) ≡ Some (Happens (Emit side))
unfolding happening_of event_of
emits-happens p side now window out e = ap (λ h. Some (Happens (emission_event side h))) e

after-two : (w : WorldState) (g h : Happening) → after_happenings w (g ∷ h ∷ []) ≡ after_happening (after_happening w g) h
unfolding after_happenings
after-two w g h = refl

two-happen : {H : Type 0} (p : Pair H) (side : Side) (first : Incident) (now window : ℕ) (out : List ℕ)
    → happening_of p first ≡ Some (Happens (Timer side Retransmit)) → holds machine (member_of (pair_after_incident p first) side).driving.core window ≡ false
    → IncidentPasses p first
    → after_happenings (world_in p) (timeout side) ≡ world_in (pair_after_incident (pair_after_incident p first) (Calls (pairs.Emits side now window out)))
two-happen p side first now window out e f passes =
    let q = pair_after_incident p first in
    let one : after_happening (world_in p) (Happens (Timer side Retransmit)) ≡ world_in q =
    ap (λ o. happened (world_in p) o) (sym e) ∙ sym (incident-is p first passes) in
    after-two (world_in p) (Happens (Timer side Retransmit)) (Happens (Emit side)) ∙ ap (λ w. after_happening w (Happens (Emit side))) one
    ∙ ap (λ o. happened (world_in q) o) (sym (emits-happens q side now window out f)) ∙ sym (incident-is q (Calls (pairs.Emits side now window out)) tt)

half-first : {H : Type 0} (p : Pair H) (side : Side) (first : Incident) (now window : ℕ) (out : List ℕ) (list : List Incident)
    → happening_of p first ≡ Some (Happens (Timer side Retransmit)) → holds machine (member_of (pair_after_incident p first) side).driving.core window ≡ false
    → happenings_of p (first ∷ Calls (pairs.Emits side now window out) ∷ list)
    ≡ timeout side ++ happenings_of (pair_after_incident (pair_after_incident p first) (Calls (pairs.Emits side now window out))) list
half-first p side first now window out list e f =
    let q = pair_after_incident p first in
    first-happens p first (Happens (Timer side Retransmit)) (Calls (pairs.Emits side now window out) ∷ list) e
    ∙ ap (λ l. Happens (Timer side Retransmit) ∷ l) (emission-first q side now window out list)
    ∙ ap (λ h. Happens (Timer side Retransmit) ∷ Happens (emission_event side h) ∷ happenings_of (pair_after_incident q (Calls (pairs.Emits side now window out))) list) f

half : {H : Type 0} (side : Side) (p : Pair H) (list : List Incident) → IncidentsPass p list → MakesHalfTurn side p list
    → HasHalfTurn side (world_in p) (happenings_of p list)
half side p list pass r =
    let q = pair_after_incidents p r.before in
    let first = r.first in
    let second = Calls (pairs.Emits side r.emits_at r.window r.out) in
    let q1 = pair_after_incident q first in
    let q2 = pair_after_incident q1 second in
    let parts = pass-split p r.before (first ∷ second ∷ r.after) (subst (λ l. IncidentsPass p l) r.form pass) in
    let rest = pass-one q first (second ∷ r.after) parts.1 in
    let rest2 = pass-one q1 second r.after rest.1 in
    let after = happenings_of q2 r.after in
    let w = after_happenings (world_in p) (happenings_of p r.before) in
    let is_end : endpoint_at w side ≡ end_of (member_of q side) = end-at p r.before side parts.0 in
    let is_world : after_happenings (world_in p) (happenings_of p r.before ++ timeout side) ≡ world_in q2 =
    after-append (world_in p) (happenings_of p r.before) (timeout side) ∙ ap (λ v. after_happenings v (timeout side)) (sym (incidents-are p r.before parts.0))
    ∙ two-happen q side r.first r.emits_at r.window r.out r.begins r.goes rest.0 in
    let mine = if-some (due_of (after_timer (end_of (member_of q side)) Retransmit)) (λ a. segment-answered side (length (member_of q side).sent) q2 r.after rest2.1 a) r.answered in
    let at_world = subst (λ v. IfSome (due_of (after_timer (end_of (member_of q side)) Retransmit)) (λ _. SegmentIsAnswered side (length (member_of q side).sent) v after))
    (sym is_world) mine in
    let at_count = subst (λ k. IfSome (due_of (after_timer (end_of (member_of q side)) Retransmit)) (λ _. SegmentIsAnswered side k (after_happenings (world_in p) (happenings_of p r.before ++ timeout side)) after))
    (sym (count-at p r.before side parts.0)) at_world in
    record {
      before = happenings_of p r.before;
      after = after;
      form = ap (λ l. happenings_of p l) r.form ∙ happenings-append p r.before _
          ∙ ap (λ l. happenings_of p r.before ++ l) (half-first q side r.first r.emits_at r.window r.out r.after r.begins r.goes);
      no_reset = ap (λ (s : State). s.pending.reset) is_end ∙ r.no_reset;
      answered = subst (λ (s : State). IfSome (due_of (after_timer s Retransmit)) (λ _. SegmentIsAnswered side (count_sent w side)
          (after_happenings (world_in p) (happenings_of p r.before ++ timeout side)) after)) (sym is_end) at_count;
    }

-- CALM
expiry-calm : (w : WorldState) (side : Side) (timer : Option Which) → IsCalmExpiry timer → IfSome (option_map Happens (expiry_event side timer)) (IsCalmNow w)
expiry-calm w side None h = tt
expiry-calm w side (Some timers.Retransmit) h = tt
expiry-calm w side (Some timers.Reorder) h = tt
expiry-calm w side (Some timers.TimeWait) h = absurd h
expiry-calm w side (Some timers.User) h = absurd h

lost-calm : (w : WorldState) (lost : Bool) (event : EventContent) → IsCalm event → IfSome (option_map Happens (unless_lost lost event)) (IsCalmNow w)
lost-calm w true event h = tt
lost-calm w false event h = h

emission-calm : (w : WorldState) (side : Side) (h : Bool) → IsCalmNow w (Happens (emission_event side h))
emission-calm w side true = tt
emission-calm w side false = tt

injection-calm : {H : Type 0} (p : Pair H) (side : Side) (i : Injection) (lost : Bool)
    → (lost ≡ false → IsBlind (party_in (member_of p side)) (party_in (member_of p (other side))) i) → IfSome (injected_unless lost side i) (IsCalmNow (world_in p))
injection-calm p side i true h = tt
injection-calm p A i false h = h refl
injection-calm p B i false h = h refl

calm-rest : (w : WorldState) (wanted : Bool) (side : Side) → IfSome (rests_unless wanted side) (IsCalmNow w)
calm-rest w true side = tt
calm-rest w false side = tt

incident-calm : {H : Type 0} (p : Pair H) (incident : Incident) → IsCalmIncident p incident → IfSome (happening_of p incident) (IsCalmNow (world_in p))
unfolding happening_of event_of
incident-calm p (Calls (pairs.Arrives from k now)) h = lost-calm (world_in p) (is_lost (member_of p (other from)) (segment_in p from k)) (Deliver from k) tt
incident-calm p (Calls (pairs.ArrivesDamaged from k place value now)) h =
    lost-calm (world_in p) (is_lost (member_of p (other from)) (bytes_with_damage (segment_in p from k) place value)) (Damage from k place value) h
incident-calm p (Calls (pairs.Emits side now window out)) h = emission-calm (world_in p) side (holds machine (member_of p side).driving.core window)
incident-calm p (Calls (pairs.Expires side now)) h = expiry-calm (world_in p) side (expiry_at p side now) h
incident-calm p (Calls (pairs.Sends side now text)) h = absurd h
incident-calm p (Calls (pairs.Receives side now out)) h = tt
incident-calm p (Calls (pairs.Acknowledges side now)) h = tt
incident-calm p (Calls (pairs.Closes side now)) h = absurd h
incident-calm p (Calls (pairs.Aborts side now)) h = absurd h
incident-calm p (Calls (pairs.ResendsFirst side now)) h = tt
incident-calm p (Calls (pairs.Resends side now from to)) h = tt
incident-calm p (Calls (pairs.SetsUserTimeout side limit)) h = tt
incident-calm p (Calls (pairs.SetsPatience side patient)) h = tt
incident-calm p (Injects side now i) h = injection-calm p side i (is_lost (member_of p side) i.bytes) h
incident-calm p (Rests side) h = calm-rest (world_in p) (timer_answer (end_of (member_of p side)) Retransmit) side

calm-more : (w : WorldState) (o : Option Happening) (list : List Happening) → IfSome o (IsCalmNow w) → AreCalm (happened w o) list → AreCalm w (happens o list)
calm-more w None list h rest = rest
calm-more w (Some x) list h rest = (h, rest)

pub calm : {H : Type 0} (p : Pair H) (list : List Incident) → IncidentsPass p list → AreCalmIncidents p list → AreCalm (world_in p) (happenings_of p list)
unfolding IncidentsPass AreCalmIncidents happenings_of
calm p [] pass h = tt
calm p (incident ∷ list) pass h =
    calm-more (world_in p) (happening_of p incident) (happenings_of (pair_after_incident p incident) list) (incident-calm p incident h.0)
    (subst (λ w. AreCalm w (happenings_of (pair_after_incident p incident) list)) (incident-is p incident pass.0)
    (calm (pair_after_incident p incident) list pass.1 h.1))

-- what is calm is fair
fair-call : {H : Type 0} (p : Pair H) (call : PairCall) → IsCalmCall p call → pairs.CallHasBytes call
fair-call p (pairs.Arrives from k now) h = tt
fair-call p (pairs.ArrivesDamaged from k place value now) h = h
fair-call p (pairs.Emits side now window out) h = tt
fair-call p (pairs.Expires side now) h = tt
fair-call p (pairs.Sends side now text) h = absurd h
fair-call p (pairs.Receives side now out) h = tt
fair-call p (pairs.Acknowledges side now) h = tt
fair-call p (pairs.Closes side now) h = tt
fair-call p (pairs.Aborts side now) h = tt
fair-call p (pairs.ResendsFirst side now) h = tt
fair-call p (pairs.Resends side now from to) h = tt
fair-call p (pairs.SetsUserTimeout side limit) h = tt
fair-call p (pairs.SetsPatience side patient) h = tt

fair-calm : {H : Type 0} (p : Pair H) (incident : Incident) → IsCalmIncident p incident → IsFairIncident p incident
fair-calm p (Calls call) h = fair-call p call h
fair-calm p (Injects side now i) h = h
fair-calm p (Rests side) h = tt

pub calm-fair : {H : Type 0} (p : Pair H) (list : List Incident) → AreCalmIncidents p list → AreFairIncidents p list
unfolding AreCalmIncidents AreFairIncidents
calm-fair p [] h = tt
calm-fair p (incident ∷ list) h = (fair-calm p incident h.0, calm-fair (pair_after_incident p incident) list h.1)

pub fair-append : {H : Type 0} (p : Pair H) (xs ys : List Incident) → AreFairIncidents p xs → AreFairIncidents (pair_after_incidents p xs) ys
    → AreFairIncidents p (xs ++ ys)
unfolding AreFairIncidents pair_after_incidents
fair-append p [] ys f g = g
fair-append p (x ∷ xs) ys f g = (f.0, fair-append (pair_after_incident p x) xs ys f.1 g)

halves-fair : {H : Type 0} (n : ℕ) (p : Pair H) (list : List Incident) → MakeHalves n p list → AreFairIncidents p list
halves-fair zero p list h = calm-fair p list h
halves-fair (suc n) p list h =
    let q = pair_after_incidents p h.0 in
    subst (λ l. AreFairIncidents p l) (sym h.3) (fair-append p h.0 (h.1 ++ h.2) (calm-fair p h.0 h.4)
    (fair-append q h.1 h.2 (calm-fair q h.1 h.5.calm) (halves-fair n (pair_after_incidents q h.1) h.2 h.6)))

-- PAIRS OF HALVES
both-halves : {H : Type 0} (p : Pair H) (list : List Incident) → IncidentsPass p list → MakeBothHalves p list → HasBothHalves (world_in p) (happenings_of p list)
both-halves p list pass r = record {
  calm = calm p list pass r.calm;
  read = λ side. subst (λ x. HasReadAll x) (sym (parties p side)) (r.read side);
  half = λ side. half side p list pass (r.half side);
}

halves : {H : Type 0} (n : ℕ) (p : Pair H) (list : List Incident) → IncidentsPass p list → MakeHalves n p list → HasHalves n (world_in p) (happenings_of p list)
halves zero p list pass h = calm p list pass h
halves (suc n) p list pass h =
    let before = h.0 in
    let pair = h.1 in
    let after = h.2 in
    let q = pair_after_incidents p before in
    let r = pair_after_incidents q pair in
    let parts = pass-split p before (pair ++ after) (subst (λ l. IncidentsPass p l) h.3 pass) in
    let rest = pass-split q pair after parts.1 in
    let is_q = incidents-are p before parts.0 in
    let is_r : world_in r ≡ after_happenings (after_happenings (world_in p) (happenings_of p before)) (happenings_of q pair) =
    incidents-are q pair rest.0 ∙ ap (λ w. after_happenings w (happenings_of q pair)) is_q in (
      happenings_of p before,
      happenings_of q pair,
      happenings_of r after,
      ap (λ l. happenings_of p l) h.3 ∙ happenings-append p before (pair ++ after) ∙ ap (λ l. happenings_of p before ++ l) (happenings-append q pair after),
      calm p before parts.0 h.4,
      subst (λ w. HasBothHalves w (happenings_of q pair)) is_q (both-halves q pair rest.0 h.5),
      subst (λ w. HasHalves n w (happenings_of r after)) is_r (halves n r after rest.1 h.6),
    )

-- THE LAW
pub halves_with_runs_lem : (H : Type 0) → TwoEndsGetThroughByHalvesWithRuns H
halves_with_runs_lem H life a b runs_a runs_b opening_a opening_b x y calls p list least most one two e f lets_a lets_b bytes is live_a live_b room makes stays =
    let start = pair_of life (new_member x) (new_member y) in
    let begun = began life a b runs_a runs_b most one two x y opening_a opening_b lets_a lets_b e f in
    let reached = subst (λ q. Reached life a b runs_a runs_b q) (sym is) (calls-at life a b runs_a runs_b most one two start calls begun bytes).1 in
    let pass = (all-at life a b runs_a runs_b most one two p list reached (halves-fair (suc (suc (left_in (world_in p)))) p list makes)).0 in
    let here : GetsThroughByHalves (world_in p) = halved-kept (world_in p) (kept-at life a b runs_a runs_b most one two p reached least) in
    let end = incidents-are p list pass in
    subst (λ w. GotThrough (world_in p) w) (sym end)
    (here live_a live_b room (happenings_of p list) (halves (suc (suc (left_in (world_in p)))) p list pass makes) (subst (λ w. NoneDiscarded w) end stays))

pub by_halves_lem : (H : Type 0) → TwoEndsGetThroughByHalves H
by_halves_lem H life a b opening_a opening_b x y calls p list = halves_with_runs_lem H life a b default_runs default_runs opening_a opening_b x y calls p list
