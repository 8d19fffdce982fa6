-- CALM EVENTS in a world: over them both ends are only brought on, what is left never grows, and both go on while no end is reset.
use Rattle.tcp_replay.proofs.Words.{◌+◌, ◌<◌, [], Acknowledge, AllByRecursion, ap, arith, Closed, Damage, Deliver, discards, effect_of, Emit}
use Rattle.tcp_replay.proofs.Words.{EmitAcknowledgement, EventContent, false, FitsPhase, has_discarded, HasBytes, inl, inr, IsSoundPair, LastAck, length}
use Rattle.tcp_replay.proofs.Words.{length-append, List, max_life, None, NotEnded, Orderly, other, party_after_acknowledge, party_after_receive, party_of}
use Rattle.tcp_replay.proofs.Words.{PartyState, Phase, rcv_position_of, Receive, refl, refusal_of, ResendFirst, Send, Sends, side_of, State, subst, sym}
use Rattle.tcp_replay.proofs.Words.{Timer, true, world_after, world_after_all, world_with_effect, WorldState, ℕ, ◌∙◌, ◌∷◌, ◌≡◌, ◌≤◌, ◌⊎◌}
use Rattle.tcp_replay.specs.Events.{Resend}
use Rattle.tcp_replay.proofs.Lemmas.{Both, both-swapped, discards-not_ended, finds-damage, one_if, one_if-most, pair-swapped}
use Rattle.tcp_progress.proofs.Words.{A, B, HasStreamsOf, IsCalm, IsLive, IsSteadyPair, left_in, left_of_both, NeverGrows, NoneDiscarded, Says}
use Rattle.tcp_progress.proofs.Words.{SaysByPhase, Side, WhatIsLeftNeverGrows}
use Rattle.tcp_progress.proofs.steady.AlwaysSteady.{in-every-world, IsKept, kept-after, kept-steady, side-pair, side-sent}
use Rattle.tcp_progress.proofs.turn.Calm.{ends-plainly, Grows, grows-then, IsMoved, moves-ack_alone, moves-arrival, moves-emission, moves-resend, moves-resend_first}
use Rattle.tcp_progress.proofs.turn.Calm.{moves-same, moves-still, moves-timer, not-both}
use Rattle.tcp_progress.proofs.{steady.OnlySent.KeepsSent, steady.Table.own_fin-acked, turn.Delivered.nothing-left, turn.Live.GoOn, turn.Live.steady-back}
use Rattle.tcp_progress.proofs.{turn.Live.still-acknowledging, turn.Live.still-reading, turn.Live.swapped, turn.Sides.after-either, turn.Sides.at-event}
use Rattle.tcp_progress.proofs.{turn.Sides.on-both}

-- ---- ONE OF TWO PARTIES MOVES
abbrev pub OneMoves : PartyState → PartyState → PartyState → PartyState → Type 0
OneMoves p q p' q' = (IsMoved p p' × (q' ≡ q)) ⊎ ((p' ≡ p) × IsMoved q q')

one-swapped : (p q p' q' : PartyState) → OneMoves p q p' q' → OneMoves q p q' p'
one-swapped p q p' q' (inl here) = inr (here.1, here.0)
one-swapped p q p' q' (inr there) = inl (there.1, there.0)

calm-effect : (life : ℕ) (p q : PartyState) (event : EventContent) → IsCalm event → life ≤ max_life → (effect_of life p q event).refusal ≡ None
    → IsSoundPair p q → Both KeepsSent p q → OneMoves p q (effect_of life p q event).here (effect_of life p q event).there
unfolding effect_of party_after_receive party_after_acknowledge
calm-effect life p q (Receive side room) calm most e pair h =
    inl (moves-still p (party_after_receive p room) (still-reading p room) (λ k g e. e) (omega (arith, length-append p.delivered)) (λ e. rw e refl), refl)
calm-effect life p q (Acknowledge side) calm most e pair h =
    inl (moves-still p (party_after_acknowledge p) (still-acknowledging p) (λ k g e. e) (omega arith) (λ e. e), refl)
calm-effect life p q (Timer side which) calm most e pair h = inl (moves-timer p side which calm, refl)
calm-effect life p q (Emit side) calm most e pair h = inl (moves-emission p, refl)
calm-effect life p q (EmitAcknowledgement side) calm most e pair h = inl (moves-ack_alone p, refl)
calm-effect life p q (ResendFirst side) calm most e pair h = inl (moves-resend_first p, refl)
calm-effect life p q (Resend side from to) calm most e pair h = inl (moves-resend p from to, refl)
calm-effect life p q (Deliver from k) calm most e pair h = inr (refl, moves-arrival q p life k most e (pair-swapped _ _ pair) (both-swapped KeepsSent _ _ h))
calm-effect life p q (Damage from k place value) calm most e pair h =
    inr (refl, subst (λ (x : PartyState). IsMoved q x) (sym (finds-damage q p life k place value calm e (pair-swapped _ _ pair)).same) (moves-same q))
calm-effect life p q other calm most e pair h = absurd calm

-- a calm event, refused or not, moves one of them, seen from either side
pub calm-event : (w : WorldState) (event : EventContent) (side : Side) → IsCalm event → IsKept w
    → OneMoves (party_of w side) (party_of w (other side)) (party_of (world_after w event) side) (party_of (world_after w event) (other side))
calm-event w event side calm h =
    let s = side_of event in
    let moves = λ (e : refusal_of w event ≡ None).
    calm-effect w.life (party_of w s) (party_of w (other s)) event calm h.sound.life e (side-pair w s h).pair (side-sent w s h) in
    at-event OneMoves w event side (inl (moves-same (party_of w side), refl)) (λ e _. moves e) (λ e. one-swapped _ _ _ _ (moves e))

-- the first of two parties of which one moves
moved-first : (p q p' q' : PartyState) → OneMoves p q p' q' → IsMoved p p'
moved-first p q p' q' (inl here) = here.0
moved-first p q p' q' (inr there) = subst (IsMoved p) (sym there.0) (moves-same p)

-- each is brought on
pub moves-event : (w : WorldState) (event : EventContent) (side : Side) → IsCalm event → IsKept w
    → IsMoved (party_of w side) (party_of (world_after w event) side)
moves-event w event side calm h = moved-first _ _ _ _ (calm-event w event side calm h)

-- ---- WHO WAS RESET OR ABORTED STAYS SO
pub moves-stays : (p p' : PartyState) → IsMoved p p' → has_discarded p' ≡ false → has_discarded p ≡ false
moves-stays p p' h e =
    elim h.ending [ inl same ↦ ap discards (sym same) ∙ e | inr goes ↦ discards-not_ended p.endpoint.ending goes.0 ]

-- ---- BOTH GO ON, while no end is reset
pub says-over : (s : State) (phase : Phase) → s.ending ≡ Orderly → FitsPhase phase s.ending s.sending.snd_una s.sending.snd_nxt s.receiving.opened s.receiving.finished
    → SaysByPhase phase s → Says true true true s
says-over s Closed over fits says = says over
says-over s other over fits says = absurd (not-both s.ending fits.0 over)

-- who ends in order from LAST-ACK leaves nothing behind
over-nothing : (p p' q : PartyState) → IsMoved p p' → IsSteadyPair p q → IsSteadyPair p' q → p'.endpoint.ending ≡ Orderly → p.endpoint.phase ≡ LastAck
    → left_of_both p' q ≡ 0
over-nothing p p' q h before after over last =
    let s = p'.endpoint in
    let says = says-over s s.phase over after.pair.there.alone.progress after.there.stage in
    let sends = subst (Sends s.sending p'.accepted p'.closed) (ap discards over) after.pair.there.alone.sends in
    let all = own_fin-acked s.sending p'.accepted p'.closed sends says.acked in
    let have = ap length h.grows.accepted in
    let least : 2 + length p.accepted ≤ rcv_position_of q = omega (arith, all, have, after.pair.there.between) in
    let most : rcv_position_of q ≤ 2 + length p.accepted = omega (arith, before.pair.back.takes.order, one_if-most q.endpoint.receiving.finished) in
    let snd_una : s.sending.snd_una ≡ rcv_position_of q = omega (arith, all, have, most, after.pair.there.between) in
    let none : left_of_both q p' ≡ 0 = nothing-left q p p' (steady-back q p before) h.grows.accepted h.grows.closed snd_una h.grows.next least last in
    omega (arith, none)

on-moved : (p p' q : PartyState) → IsMoved p p' → IsSteadyPair p q → IsSteadyPair p' q → GoOn p q → has_discarded p' ≡ false → GoOn p' q
on-moved p p' q h before after on stays =
    let lived : 0 < left_of_both p' q → IsLive p × IsLive q = λ some. on.live
    (omega (arith, some, h.grows.snd_una, h.grows.next, ap length h.grows.accepted, ap one_if h.grows.closed)) in
    let goes : p.endpoint.ending ≡ NotEnded → (p'.endpoint.ending ≡ NotEnded) ⊎ ((p'.endpoint.ending ≡ Orderly) × (left_of_both p' q ≡ 0)) = λ e.
    elim (ends-plainly p p' h e stays) [ inl goes ↦ inl goes | inr done ↦ inr (done.0, over-nothing p p' q h before after done.0 done.1) ] in
    let over : p.endpoint.ending ≡ Orderly → p'.endpoint.ending ≡ Orderly = λ e.
    elim h.ending [ inl same ↦ same ∙ e | inr ends ↦ absurd (not-both p.endpoint.ending ends.0 e) ] in
    let kept : (p'.endpoint.ending ≡ NotEnded) ⊎ (p'.endpoint.ending ≡ Orderly) = elim on.there.kept [
      | inl e ↦ elim (goes e) [ inl e' ↦ inl e' | inr done ↦ inr done.0 ]
      | inr e ↦ inr (over e)
    ] in
    record {
      there = record { opened = h.grows.opened on.there.opened; kept = kept };
      back = on.back;
      live = λ some.
          let live = lived some in
          let goes_on : p'.endpoint.ending ≡ NotEnded = elim (goes live.0.goes_on) [ inl e ↦ e | inr done ↦ absurd (omega (arith, some, done.1)) ] in
          (record { opened = h.grows.opened live.0.opened; goes_on = goes_on }, live.1);
    }

on-one : (p q p' q' : PartyState) → OneMoves p q p' q' → IsSteadyPair p q → IsSteadyPair p' q' → GoOn p q → has_discarded p' ≡ false → has_discarded q' ≡ false
    → GoOn p' q'
on-one p q p' q' (inl here) before after on one two =
    subst (λ (x : PartyState). GoOn p' x) (sym here.1) (on-moved p p' q here.0 before (subst (λ (x : PartyState). IsSteadyPair p' x) here.1 after) on one)
on-one p q p' q' (inr there) before after on one two =
    let after' : IsSteadyPair p q' = subst (λ (x : PartyState). IsSteadyPair x q') there.0 after in
    subst (λ (x : PartyState). GoOn x q') (sym there.0)
    (swapped p q' (on-moved q q' p there.1 (steady-back q p before) (steady-back q' p after') (swapped q p on) two))

-- BOTH PARTIES over events
pub record Steps (w v : WorldState) : Type 0 where
  pub kept : IsKept v
  pub grows : (side : Side) → Grows (party_of w side) (party_of v side)
  pub stays : NoneDiscarded v → NoneDiscarded w
  -- they go on
  pub on : GoOn w.a w.b → NoneDiscarded v → GoOn v.a v.b

-- nothing happens
pub steps-none : (w : WorldState) → IsKept w → Steps w w
steps-none w h = record { kept = h; grows = λ side. (moves-same (party_of w side)).grows; stays = λ up. up; on = λ on _. on }

-- events after events
pub steps-then : (u v w : WorldState) → Steps u v → Steps v w → Steps u w
steps-then u v w one two = record {
  kept = two.kept;
  grows = λ side. grows-then _ _ _ (one.grows side) (two.grows side);
  stays = λ up. one.stays (two.stays up);
  on = λ on up. two.on (one.on on (two.stays up)) up;
}

-- one of both parties moves
pub steps-one : (w v : WorldState) → OneMoves w.a w.b v.a v.b → IsKept w → IsKept v → Steps w v
steps-one w v one h h' =
    let there = moved-first w.a w.b v.a v.b one in
    let back = moved-first w.b w.a v.b v.a (one-swapped w.a w.b v.a v.b one) in
    record {
      kept = h';
      grows = on-both (λ side. Grows (party_of w side) (party_of v side)) there.grows back.grows;
      stays = λ up. (moves-stays w.a v.a there up.0, moves-stays w.b v.b back up.1);
      on = λ on up. on-one w.a w.b v.a v.b one (kept-steady w h).ends (kept-steady v h').ends on up.0 up.1;
    }

-- a calm event has bytes alone
pub calm-bytes : (event : EventContent) → IsCalm event → HasBytes event
calm-bytes (Damage from k place value) calm = calm
calm-bytes (Send side text) calm = absurd calm
calm-bytes other calm = tt

-- a calm event, refused or not
pub steps-event : (w : WorldState) (event : EventContent) → IsCalm event → IsKept w → Steps w (world_after w event)
steps-event w event calm h =
    steps-one w (world_after w event) (calm-event w event A calm h) h
    (after-either IsKept (refusal_of w event) w (world_with_effect w event) h (λ e. kept-after w event (calm-bytes event calm) e h))

-- any calm events
pub steps-all : (w : WorldState) (events : List EventContent) → AllByRecursion IsCalm events → IsKept w → Steps w (world_after_all w events)
unfolding world_after_all
steps-all w [] calm h = steps-none w h
steps-all w (event ∷ events) calm h =
    let one = steps-event w event calm.0 h in
    steps-then w (world_after w event) (world_after_all (world_after w event) events) one (steps-all (world_after w event) events calm.1 one.kept)

-- less is left, or as much
pub steps-left : (w v : WorldState) → Steps w v → left_in v ≤ left_in w
steps-left w v h =
    let a = h.grows A in
    let b = h.grows B in
    omega (arith, a.snd_una, a.next, b.snd_una, b.next, ap length a.accepted, ap one_if a.closed, ap length b.accepted, ap one_if b.closed)

-- of the same streams
pub steps-streams : (w v : WorldState) → Steps w v → HasStreamsOf w v
steps-streams w v h =
    let a = h.grows A in
    let b = h.grows B in
    record { accepted_of_a = a.accepted; accepted_of_b = b.accepted; closed_of_a = a.closed; closed_of_b = b.closed }

-- in every world
pub left-kept : (w : WorldState) → IsKept w → NeverGrows w
left-kept w h events calm =
    let steps = steps-all w events calm h in
    (steps-left w (world_after_all w events) steps, steps-streams w (world_after_all w events) steps)

pub left_lem : WhatIsLeftNeverGrows
left_lem = in-every-world NeverGrows left-kept
