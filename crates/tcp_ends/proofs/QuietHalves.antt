-- Half turns of callers that emit until nothing is left are half turns: in a kept world the driver's rules give what those ask.
use Rattle.std.proofs.Common.{◌≡◌, ℕ, zero, suc, false, List, [], ◌∷◌, ◌++◌, length, Some, ap, sym, subst, ◌∙◌}
use Rattle.tcp_driver.specs.Driver.{holds}
use Rattle.tcp_conn.specs.declared.phase.Timer.TheVariants.{Retransmit}
use Rattle.tcp_conn.specs.Due.{due_of}
use Rattle.tcp_conn.specs.State.{State}
use Rattle.tcp_conn.specs.Timers.{after_retransmit, after_timer}
use Rattle.tcp_end.specs.Wired.{machine}
use Rattle.tcp_reasm.specs.Reassembly.{default_runs}
use Rattle.tcp_replay.specs.declared.event.Side.{Side}
use Rattle.tcp_replay.specs.declared.event.Side.TheVariants.{A, B}
use Rattle.tcp_replay.specs.Among.{Happens}
use Rattle.tcp_replay.specs.Events.{Timer}
use Rattle.tcp_replay.specs.World.{other}
use Rattle.tcp_progress.specs.Half.{endpoint_at}
use Rattle.tcp_progress.specs.Measure.{left_in}
use Rattle.tcp_progress.specs.Steady.{IsSteadyPair}
use Rattle.tcp_progress.proofs.Lemmas.{IsKept, side-pair, timer-endpoint}
use Rattle.tcp_progress.proofs.turn.Happened.{steps-happenings}
use Rattle.tcp_ends.specs.Pair as pairs
use Rattle.tcp_ends.specs.Pair.{Pair, end_of, member_of, new_member, pair_of, party_in, world_in}
use Rattle.tcp_ends.specs.Among.{AreFairIncidents, Calls, Incident, happening_of, happenings_of, pair_after_incident, pair_after_incidents}
use Rattle.tcp_ends.specs.Halves.{AnswerIsBrought, AreCalmIncidents, IsAnswered, IsCalmIncident, MakeBothHalves, MakeHalves, MakesHalfTurn}
use Rattle.tcp_ends.specs.Quiet.{AcknowledgementIsBrought, IsAcknowledged, MakeQuietHalves, MakesQuietHalfTurn, TwoEndsGetThroughByQuietHalves}
use Rattle.tcp_ends.specs.Quiet.{TwoEndsGetThroughByQuietHalvesWithRuns}
use Rattle.tcp_ends.proofs.Reached.{Reached, all-at, began, calls-at, kept-at}
use Rattle.tcp_ends.proofs.Strangers.{IncidentPasses, IncidentsPass, happened, incident-is, incidents-are, pass-one, pass-split}
use Rattle.tcp_ends.proofs.HalfTurns.{calm, calm-fair, end-in, fair-append, halves_with_runs_lem, if-some}
use Rattle.tcp_ends.proofs.Quietly.{goes_lem, next_lem}

-- A KEPT WORLD is steady, and stays kept while all is calm
steady-at : {H : Type 0} (p : Pair H) (side : Side) → IsKept (world_in p) → IsSteadyPair (party_in (member_of p side)) (party_in (member_of p (other side)))
steady-at p A h = side-pair (world_in p) A h
steady-at p B h = side-pair (world_in p) B h

kept-along : {H : Type 0} (p : Pair H) (list : List Incident) → IncidentsPass p list → AreCalmIncidents p list → IsKept (world_in p)
    → IsKept (world_in (pair_after_incidents p list))
kept-along p list pass c h =
    subst (λ w. IsKept w) (sym (incidents-are p list pass)) (steps-happenings (world_in p) (happenings_of p list) (calm p list pass c) h).kept

kept-one : {H : Type 0} (p : Pair H) (incident : Incident) → IncidentPasses p incident → IsCalmIncident p incident → IsKept (world_in p)
    → IsKept (world_in (pair_after_incident p incident))
unfolding IncidentsPass AreCalmIncidents pair_after_incidents
kept-one p incident passes c h = kept-along p (incident ∷ []) (passes, tt) (c, tt) h

calm-split : {H : Type 0} (p : Pair H) (xs ys : List Incident) → AreCalmIncidents p (xs ++ ys)
    → AreCalmIncidents p xs × AreCalmIncidents (pair_after_incidents p xs) ys
unfolding AreCalmIncidents pair_after_incidents
calm-split p [] ys c = (tt, c)
calm-split p (x ∷ xs) ys c = let more = calm-split (pair_after_incident p x) xs ys c.1 in ((c.0, more.0), more.1)

calm-one : {H : Type 0} (p : Pair H) (x : Incident) (ys : List Incident) → AreCalmIncidents p (x ∷ ys) → IsCalmIncident p x × AreCalmIncidents (pair_after_incident p x) ys
unfolding AreCalmIncidents
calm-one p x ys c = (c.0, c.1)

-- AN ANSWER
answer-made : {H : Type 0} (side : Side) (p : Pair H) (list : List Incident) → IsKept (world_in p) → IncidentsPass p list → AreCalmIncidents p list
    → AcknowledgementIsBrought side p list → AnswerIsBrought side p list
answer-made side p list h pass c r =
    let q = pair_after_incidents p r.before in
    let front = (calm-split p r.before _ (subst (λ l. AreCalmIncidents p l) r.form c)).0 in
    let ways = (pass-split p r.before _ (subst (λ l. IncidentsPass p l) r.form pass)).0 in
    let steady = steady-at q side (kept-along p r.before ways front h) in
    let at = next_lem _ (member_of q side) (member_of q (other side)) r.window steady r.no_reset r.no_syn r.has_ack in
    record {
      before = r.before;
      now = r.now;
      window = r.window;
      out = r.out;
      after = r.after;
      form = r.form;
      sent = at.sent;
      goes = at.goes;
      at_next = at.at_next;
      comes = r.comes;
    }

-- A SEGMENT
answered-made : {H : Type 0} (side : Side) (k : ℕ) (p : Pair H) (list : List Incident) → IsKept (world_in p) → IncidentsPass p list
    → AreCalmIncidents p list → IsAcknowledged side k p list → IsAnswered side k p list
answered-made side k p list h pass c r =
    let q = pair_after_incidents p r.before in
    let call = Calls (pairs.Arrives side k r.now) in
    let parts = calm-split p r.before (call ∷ r.after) (subst (λ l. AreCalmIncidents p l) r.form c) in
    let rest = calm-one q call r.after parts.1 in
    let ways = pass-split p r.before (call ∷ r.after) (subst (λ l. IncidentsPass p l) r.form pass) in
    let others = pass-one q call r.after ways.1 in
    let kept = kept-one q call others.0 rest.0 (kept-along p r.before ways.0 parts.0 h) in
    record {
      before = r.before;
      now = r.now;
      after = r.after;
      form = r.form;
      taken = r.taken;
      answered = λ pending. answer-made (other side) (pair_after_incident q call) r.after kept others.1 rest.1 (r.answered pending);
    }

-- A HALF TURN
expired-in : {H : Type 0} (q : Pair H) (side : Side) (first : Incident) → happening_of q first ≡ Some (Happens (Timer side Retransmit))
    → IncidentPasses q first → end_of (member_of (pair_after_incident q first) side) ≡ after_retransmit (end_of (member_of q side))
expired-in q side first e passes =
    let is = incident-is q first passes ∙ ap (λ o. happened (world_in q) o) e in
    sym (end-in (pair_after_incident q first) side) ∙ ap (λ w. endpoint_at w side) is ∙ timer-endpoint (world_in q) side ∙ ap (λ (s : State). after_retransmit s) (end-in q side)

half-made : {H : Type 0} (side : Side) (p : Pair H) (list : List Incident) → IsKept (world_in p) → IncidentsPass p list → AreCalmIncidents p list
    → MakesQuietHalfTurn side p list → MakesHalfTurn side p list
half-made {H = H} side p list h pass c r =
    let q = pair_after_incidents p r.before in
    let emits = Calls (pairs.Emits side r.emits_at r.window r.out) in
    let q1 = pair_after_incident q r.first in
    let q2 = pair_after_incident q1 emits in
    let parts = calm-split p r.before (r.first ∷ emits ∷ r.after) (subst (λ l. AreCalmIncidents p l) r.form c) in
    let ways = pass-split p r.before (r.first ∷ emits ∷ r.after) (subst (λ l. IncidentsPass p l) r.form pass) in
    let kept = kept-along p r.before ways.0 parts.0 h in
    let one = calm-one q r.first (emits ∷ r.after) parts.1 in
    let two = calm-one q1 emits r.after one.1 in
    let first = pass-one q r.first (emits ∷ r.after) ways.1 in
    let second = pass-one q1 emits r.after first.1 in
    let kept2 = kept-one q1 emits second.0 two.0 (kept-one q r.first first.0 one.0 kept) in
    let free = goes_lem _ (member_of q side) (member_of q (other side)) r.window (steady-at q side kept) r.quiet.no_reset r.quiet.no_ack in
    record {
      before = r.before;
      first = r.first;
      emits_at = r.emits_at;
      window = r.window;
      out = r.out;
      after = r.after;
      form = r.form;
      begins = r.begins;
      no_reset = r.quiet.no_reset;
      goes = subst (λ (s : State). holds (machine {A = H}) (record { end = s }) r.window ≡ false) (sym (expired-in q side r.first r.begins first.0)) free;
      answered = if-some (due_of (after_timer (end_of (member_of q side)) Retransmit)) (λ a. answered-made side (length (member_of q side).sent) q2 r.after kept2 second.1 two.1 a)
          r.answered;
    }

-- PAIRS
halves-made : {H : Type 0} (n : ℕ) (p : Pair H) (list : List Incident) → IsKept (world_in p) → IncidentsPass p list → MakeQuietHalves n p list → MakeHalves n p list
halves-made zero p list h pass made = made
halves-made (suc n) p list h pass made =
    let q = pair_after_incidents p made.0 in
    let both = made.5 in
    let parts = pass-split p made.0 (made.1 ++ made.2) (subst (λ l. IncidentsPass p l) made.3 pass) in
    let rest = pass-split q made.1 made.2 parts.1 in
    let kept = kept-along p made.0 parts.0 made.4 h in
    let pair : MakeBothHalves q made.1 = record { calm = both.calm; read = both.read; half = λ side. half-made side q made.1 kept rest.0 both.calm (both.half side) } in (
      made.0,
      made.1,
      made.2,
      made.3,
      made.4,
      pair,
      halves-made n (pair_after_incidents q made.1) made.2 (kept-along q made.1 rest.0 both.calm kept) rest.1 made.6,
    )

quiet-fair : {H : Type 0} (n : ℕ) (p : Pair H) (list : List Incident) → MakeQuietHalves n p list → AreFairIncidents p list
quiet-fair zero p list h = calm-fair p list h
quiet-fair (suc n) p list h =
    let q = pair_after_incidents p h.0 in
    subst (λ l. AreFairIncidents p l) (sym h.3) (fair-append p h.0 (h.1 ++ h.2) (calm-fair p h.0 h.4)
    (fair-append q h.1 h.2 (calm-fair q h.1 h.5.calm) (quiet-fair n (pair_after_incidents q h.1) h.2 h.6)))

-- THE LAW
pub quiet_with_runs_lem : (H : Type 0) → TwoEndsGetThroughByQuietHalvesWithRuns H
quiet_with_runs_lem H life a b runs_a runs_b opening_a opening_b x y calls p list least most one two e f lets_a lets_b bytes is live_a live_b room makes stays =
    let start = pair_of life (new_member x) (new_member y) in
    let begun = began life a b runs_a runs_b most one two x y opening_a opening_b lets_a lets_b e f in
    let reached = subst (λ q. Reached life a b runs_a runs_b q) (sym is) (calls-at life a b runs_a runs_b most one two start calls begun bytes).1 in
    let pass = (all-at life a b runs_a runs_b most one two p list reached (quiet-fair (suc (suc (left_in (world_in p)))) p list makes)).0 in
    let kept : IsKept (world_in p) = kept-at life a b runs_a runs_b most one two p reached least in
    halves_with_runs_lem H life a b runs_a runs_b opening_a opening_b x y calls p list least most one two e f lets_a lets_b bytes is live_a live_b room
    (halves-made (suc (suc (left_in (world_in p)))) p list kept pass makes) stays

pub quiet_halves_lem : (H : Type 0) → TwoEndsGetThroughByQuietHalves H
quiet_halves_lem H life a b opening_a opening_b x y calls p list = quiet_with_runs_lem H life a b default_runs default_runs opening_a opening_b x y calls p list
