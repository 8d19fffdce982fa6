-- WHERE AN END HAS ENDED IN ORDER, and the other's FIN is acknowledged to it, nothing is left: each has taken all of the other, and all of it is
-- acknowledged.
use Rattle.tcp_replay.proofs.Words.{◌++◌, [], AllByRecursion, ap, arith, cases_Bool, discards, Ending, EventContent, false, false≢true, has_discarded, inl}
use Rattle.tcp_replay.proofs.Words.{inr, List, None, NotEnded, Option, Orderly, PartyState, refl, refusal_of, Sends, Some, stay_or, subst, suc, sym, true}
use Rattle.tcp_replay.proofs.Words.{world_after, world_after_all, world_with_effect, WorldState, ◌∙◌, ◌∷◌, ◌≡◌, ◌⊎◌}
use Rattle.tcp_progress.proofs.Words.{AreOpening, CanReach, CanSettle, GotThrough, HasEndedInOrder, HasStreamsOf, IsNotStuck, IsQuiet, IsSettled}
use Rattle.tcp_progress.proofs.Words.{IsSteadyPair, left_in, left_of_both, NoneDiscarded, NoWorldIsStuck, StepError, time_waits}
use Rattle.tcp_progress.proofs.Lemmas.{after-append, all-append, both-live, GoOn, got-through, in-every-world, IsKept, kept-steady, own_fin-acked, says-over}
use Rattle.tcp_progress.proofs.Lemmas.{steady-back, swapped, up-stays, waits-streams}
use Rattle.tcp_replay.proofs.Lemmas.{discards-not_ended, one_if, one_if-most}
use Rattle.tcp_progress.proofs.{turn.Live.reach-here, turn.Live.reach-step, turn.TurnsHad.have-turns, handshake.SynTaken.answering, handshake.SynTaken.opening, handshake.SynTaken.unopened-listen}
use Rattle.tcp_progress.proofs.{turn.Lowering.lowers_lem, handshake.BothOpen.opens-and}

-- who was neither reset nor aborted goes on, or has ended in order
kept-ending : (ending : Ending) → discards ending ≡ false → (ending ≡ NotEnded) ⊎ (ending ≡ Orderly)
kept-ending ending e = grind (arith, e)

-- NOTHING IS LEFT
pub ended-on : (x y : PartyState) → IsSteadyPair x y → HasEndedInOrder x y → GoOn x y
ended-on x y h ended =
    let s = x.endpoint in
    let alone = h.pair.there.alone in
    let says = says-over s s.phase ended.over alone.progress h.there.stage in
    let sends : Sends s.sending x.accepted x.closed false = rw (ap discards ended.over) at alone.sends in
    let back : Sends y.endpoint.sending y.accepted y.closed false = rw ended.stays at h.pair.back.alone.sends in
    let acked = own_fin-acked s.sending x.accepted x.closed sends says.acked in
    let all = own_fin-acked y.endpoint.sending y.accepted y.closed back ended.fin_acked in
    let taken = h.pair.there.takes.fin says.finished in
    let none : left_of_both x y ≡ 0 = omega (arith, acked, all, taken.1, h.pair.there.between, one_if-most x.closed, one_if-most y.closed) in
    let had : s.receiving.opened ≡ true = elim (cases_Bool s.receiving.opened) [
      | inl took ↦ took
      | inr never ↦ absurd (false≢true (sym (h.pair.there.takes.unopened never).2 ∙ says.finished))
    ] in
    let has : y.endpoint.receiving.opened ≡ true = elim (cases_Bool y.endpoint.receiving.opened) [
      | inl took ↦ took
      | inr never ↦
          let unopened = h.pair.back.takes.unopened never in
          absurd (let no_fin : one_if y.endpoint.receiving.finished ≡ 0 = ap one_if unopened.2 in omega
          (arith, unopened.1, no_fin, acked, h.pair.there.between))
    ] in
    record {
      there = record { opened = had; kept = inr ended.over };
      back = record { opened = has; kept = kept-ending y.endpoint.ending ended.stays };
      live = λ some. absurd (omega (arith, some, none));
    }

-- ---- No world is stuck: turns can be had in which no end is reset, and as many as something is left, and one more, deliver all; then TIME-WAIT expires.
-- All that happens in them is quiet, and what is refused of it changes nothing.
-- ---- WHAT QUIET EVENTS LEAD TO, refused or not, those of them lead to that aren't refused
unless-refused : {P : WorldState → Type 0} (w : WorldState) (event : EventContent) (refusal : Option StepError) → IsQuiet event → refusal_of w event ≡ refusal
    → CanReach P (stay_or refusal w (world_with_effect w event)) → CanReach P w
unless-refused w event None quiet goes way = reach-step event quiet goes way
unless-refused w event (Some error) quiet refused way = way

after-quiet : {P : WorldState → Type 0} (w : WorldState) (events : List EventContent) → AllByRecursion IsQuiet events → P (world_after_all w events)
    → CanReach P w
unfolding world_after_all
after-quiet w [] quiet h = reach-here h
after-quiet w (event ∷ events) quiet h = unless-refused w event (refusal_of w event) quiet.0 refl (after-quiet (world_after w event) events quiet.1 h)

-- TIME-WAIT expires behind them
then-waits : (w : WorldState) (events : List EventContent) → AllByRecursion IsQuiet events → GotThrough w (world_after_all w events) → CanSettle w
then-waits w events quiet got =
    let v = world_after_all w events in
    after-quiet w (events ++ time_waits) (all-append IsQuiet events time_waits quiet (tt, (tt, tt)))
    (subst (λ (u : WorldState). IsSettled u × HasStreamsOf w u) (sym (after-append w events time_waits)) (got.settles, waits-streams w v got.streams))

-- ---- BOTH GO ON: turns lead to the end
on-settles : (w : WorldState) → IsKept w → GoOn w.a w.b → CanSettle w
on-settles w h on =
    let up : NoneDiscarded w = (up-stays w.a.endpoint.ending on.there.kept, up-stays w.b.endpoint.ending on.back.kept) in
    let had = have-turns (suc (left_in w)) w (record { kept = h; up = up }) in
    let t = had.turns in
    then-waits w t.events had.quiet (got-through lowers_lem (left_in w) w t.events (omega arith) h on t.turns t.stays)

-- ---- OPENING: no end was reset or aborted, and turns open the connection
opening-up : (p q : PartyState) → IsSteadyPair p q → AreOpening p q → (has_discarded p ≡ false) × (has_discarded q ≡ false)
opening-up p q h opens = (
  discards-not_ended p.endpoint.ending (opening p q h opens.calls).0,
  discards-not_ended q.endpoint.ending (elim opens.answers [
    | inl listens ↦ (unopened-listen q p (steady-back q p h) listens).0
    | inr received ↦ (answering q p (steady-back q p h) received).0
  ]),
)

pub either-up : (w : WorldState) → IsKept w → AreOpening w.a w.b ⊎ AreOpening w.b w.a → NoneDiscarded w
either-up w h (inl opens) = opening-up w.a w.b (kept-steady w h).ends opens
either-up w h (inr opens) = let up = opening-up w.b w.a (steady-back w.b w.a (kept-steady w h).ends) opens in (up.1, up.0)

opening-settles : (w : WorldState) → IsKept w → AreOpening w.a w.b ⊎ AreOpening w.b w.a → CanSettle w
opening-settles w h opens =
    let had = have-turns (suc (suc (suc (left_in w)))) w (record { kept = h; up = either-up w h opens }) in
    let t = had.turns in
    then-waits w t.events had.quiet (opens-and w h opens t.events t.turns t.stays).1

-- ---- ENDED IN ORDER, either
ended-settles : (w : WorldState) → IsKept w → HasEndedInOrder w.a w.b ⊎ HasEndedInOrder w.b w.a → CanSettle w
ended-settles w h (inl ended) = on-settles w h (ended-on w.a w.b (kept-steady w h).ends ended)
ended-settles w h (inr ended) = on-settles w h (swapped w.a w.b (ended-on w.b w.a (steady-back w.b w.a (kept-steady w h).ends) ended))

-- ---- IN EVERY WORLD
pub not_stuck-kept : (w : WorldState) → IsKept w → IsNotStuck w
not_stuck-kept w h =
    record { live = λ a b. on-settles w h (both-live w.a w.b a b); opening = opening-settles w h; ended = ended-settles w h }

pub not_stuck_lem : NoWorldIsStuck
not_stuck_lem = in-every-world IsNotStuck not_stuck-kept
