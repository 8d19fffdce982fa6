-- OVER CALM EVENTS two ends that are opening the connection go on to do so, or both are open, while no end is reset (RFC 9293, 3.10.7.2 to 3.10.7.4).
use Rattle.tcp_replay.proofs.Words.{[], ack, Acknowledge, after_judgement, after_peer_opens, AllByRecursion, arith, Bool, cases_Bool, Closed}
use Rattle.tcp_replay.proofs.Words.{Content, Damage, Deliver, discards, effect_of, Emit, EmitAcknowledgement, Ending, EventContent, false, false≢true}
use Rattle.tcp_replay.proofs.Words.{FitsPhase, has, has_discarded, inl, inr, is_syn_sent, IsSoundPair, Judgement, judgement, List, Listen, max_life, None}
use Rattle.tcp_replay.proofs.Words.{NotEnded, other, party_of, PartyState, PeerAccepts, PeerOpens, Phase, Receive, refl, ResendFirst, rst, side_of, State}
use Rattle.tcp_replay.proofs.Words.{subst, sym, SynReceived, SynSent, Taken, TakenShut, Timer, true, world_after, world_after_all, WorldState, ℕ, ◌∙◌, ◌∷◌}
use Rattle.tcp_replay.proofs.Words.{◌≡◌, ◌≤◌, ◌⊎◌}
use Rattle.tcp_replay.specs.Events.{Resend}
use Rattle.tcp_progress.proofs.Lemmas.{at-event, both-live, delivered, ends-plainly, GoOn, IsKept, IsMoved, moves-event, side-pair, steady-back, steps-all}
use Rattle.tcp_progress.proofs.Lemmas.{steps-event, still-ack_alone, still-acknowledging, still-emission, still-resend, still-resend_first, still-reading, still-reorder}
use Rattle.tcp_progress.proofs.Lemmas.{still-retransmit}
use Rattle.tcp_replay.proofs.{Lemmas.finds-damage, Lemmas.IsAckOnly, Lemmas.IsAfterSyn, Lemmas.judged, Lemmas.pair-swapped, one_end.Judgements.IsSyn, one_end.Judgements.IsTaken}
use Rattle.tcp_progress.proofs.Words.{A, AreOpen, B, IsCalm, IsLive, NoneDiscarded, Side}
use Rattle.tcp_progress.proofs.handshake.SynTaken.{answering, opening, unopened-listen}
use Rattle.tcp_conn.specs.declared.phase.Timer.TheVariants as timers

-- ---- WHO ANSWERS is in LISTEN, or in SYN-RECEIVED
abbrev pub IsPassive : Phase → Type 0
IsPassive phase = (phase ≡ Listen) ⊎ (phase ≡ SynReceived)

not-syn_sent : (phase : Phase) → IsPassive phase → is_syn_sent phase ≡ true → ⊥
not-syn_sent phase answers e = grind (arith, answers, e)

-- it is still after a segment without RST that acknowledges nothing; or it was a reset
abbrev ComesOn : State → Type 0
ComesOn s = IsPassive s.phase ⊎ (discards s.ending ≡ true)

comes-on : (s : State) (src dst : List ℕ) (v : Content) → IsPassive s.phase → (has rst v.flags ≡ false → has ack v.flags ≡ true → ⊥)
    → ComesOn (after_judgement (judgement s src dst v) s src v)
unfolding after_peer_opens
comes-on s src dst v answers none =
    let P : Judgement → Type 0 = λ j. ComesOn (after_judgement j s src v) in
    let stays : ComesOn s = inl answers in
    let opens : P PeerOpens = inl (inr refl) in
    let resets : IsPassive Closed ⊎ (true ≡ true) = inr refl in
    let accepts : is_syn_sent s.phase ≡ true → IsSyn v → P PeerAccepts = λ sent _. absurd (not-syn_sent s.phase answers sent) in
    let taken : IsAfterSyn s → IsTaken s v → P Taken = λ _ is. absurd (none is.ack_only.plain is.ack_only.is_ack) in
    let shut : IsAfterSyn s → IsAckOnly v → P TakenShut = λ _ told. absurd (none told.plain told.is_ack) in
    judged s v P (assumption) src dst

-- ---- AN EVENT at who answers leaves its phase; after one at the other it answers still
here-phase : (life : ℕ) (p q : PartyState) (event : EventContent) → IsCalm event → (effect_of life p q event).here.endpoint.phase ≡ p.endpoint.phase
unfolding effect_of
here-phase life p q (Receive side room) calm = (still-reading p room).phase
here-phase life p q (Acknowledge side) calm = (still-acknowledging p).phase
here-phase life p q (Timer side timers.Retransmit) calm = (still-retransmit p).phase
here-phase life p q (Timer side timers.Reorder) calm = (still-reorder p).phase
here-phase life p q (Emit side) calm = (still-emission p).phase
here-phase life p q (EmitAcknowledgement side) calm = (still-ack_alone p).phase
here-phase life p q (ResendFirst side) calm = (still-resend_first p).phase
here-phase life p q (Resend side from to) calm = (still-resend p from to).phase
here-phase life p q (Deliver from k) calm = refl
here-phase life p q (Damage from k place value) calm = refl
here-phase life p q other calm = absurd calm

there-on : (life : ℕ) (p q : PartyState) (event : EventContent) → IsCalm event → life ≤ max_life → (effect_of life p q event).refusal ≡ None → IsSoundPair p q
    → p.endpoint.receiving.opened ≡ false → IsPassive q.endpoint.phase → ComesOn (effect_of life p q event).there.endpoint
unfolding effect_of
there-on life p q (Deliver from k) calm most e pair unopened answers =
    let d = delivered p q life k most e (pair-swapped p q pair) in
    rw d.same (comes-on q.endpoint p.endpoint.config.addr.0 q.endpoint.config.addr.0 d.content answers
    (λ plain told. false≢true (sym unopened ∙ ((d.comes.comes.truthful plain).truth.has_ack told).opened)))
there-on life p q (Damage from k place value) calm most e pair unopened answers =
    subst (λ (x : PartyState). ComesOn x.endpoint) (sym (finds-damage q p life k place value calm e (pair-swapped _ _ pair)).same) (inl answers)
there-on life p q other calm most e pair unopened answers = inl answers

-- no end was reset or aborted, on either side
pub side-up : (w : WorldState) (side : Side) → NoneDiscarded w → has_discarded (party_of w side) ≡ false
side-up w A up = up.0
side-up w B up = up.1

-- ---- WHO CALLS stays in SYN-SENT until it is open
caller-phase : (phase : Phase) (ending : Ending) (snd_una snd_nxt : ℕ) (opened finished : Bool) → opened ≡ false → ending ≡ NotEnded → 1 ≤ snd_nxt
    → FitsPhase phase ending snd_una snd_nxt opened finished → phase ≡ SynSent
caller-phase phase ending snd_una snd_nxt opened finished e goes sent h = grind (arith, e, goes, sent, h)

caller-goes : (p p' : PartyState) → p.endpoint.phase ≡ SynSent → p.endpoint.ending ≡ NotEnded → IsMoved p p' → has_discarded p' ≡ false
    → p'.endpoint.ending ≡ NotEnded
caller-goes p p' calls going moved up =
    elim (ends-plainly p p' moved going up) [ inl goes ↦ goes | inr over ↦ absurd (cc (calls, over.1)) ]

-- ---- OPENING, from one side
pub record IsShaking (w : WorldState) (side : Side) : Type 0 where
  pub kept : IsKept w
  pub calls : (party_of w side).endpoint.phase ≡ SynSent
  pub answers : IsPassive (party_of w (other side)).endpoint.phase

-- who calls lives, has no SYN yet, and has sent its own alone
pub caller : (w : WorldState) (side : Side) → IsShaking w side
    → ((party_of w side).endpoint.ending ≡ NotEnded) × ((party_of w side).endpoint.receiving.opened ≡ false) × ((party_of w side).endpoint.sending.snd_nxt ≡ 1)
caller w side h = let is = opening (party_of w side) (party_of w (other side)) (side-pair w side h.kept) h.calls in (is.0, is.1.not_opened, is.1.snd_nxt_is)

-- who is in SYN-RECEIVED is open
pub answerer : (w : WorldState) (side : Side) → IsKept w → (party_of w (other side)).endpoint.phase ≡ SynReceived → IsLive (party_of w (other side))
answerer w side h received =
    let is = answering (party_of w (other side)) (party_of w side) (steady-back (party_of w (other side)) (party_of w side) (side-pair w side h)) received in
    record { opened = is.1.is_opened; goes_on = is.0 }

-- both, from either side
pub both-open : (w : WorldState) (side : Side) → IsLive (party_of w side) → IsLive (party_of w (other side)) → AreOpen w
both-open w A one two = record { a = one; b = two }
both-open w B one two = record { a = two; b = one }

-- who is open has taken the SYN of the other, which isn't in LISTEN then
opened-both : (w : WorldState) (side : Side) → IsKept w → IsLive (party_of w side) → IsPassive (party_of w (other side)).endpoint.phase → AreOpen w
opened-both w side h live (inr received) = both-open w side live (answerer w side h received)
opened-both w side h live (inl listens) =
    let p = party_of w side in
    let q = party_of w (other side) in
    let pair = side-pair w side h in
    let unused = (unopened-listen q p (steady-back q p pair) listens).1 in
    absurd (omega (arith, pair.back.sent.taken live.opened, unused))

-- ONE EVENT
abbrev ShakesOn : WorldState → Side → Type 0
ShakesOn v side = AreOpen v ⊎ IsShaking v side

shakes-on : (w v : WorldState) (side : Side) → IsShaking w side → IsKept v → IsMoved (party_of w side) (party_of v side)
    → ComesOn (party_of v (other side)).endpoint → NoneDiscarded v → ShakesOn v side
shakes-on w v side h kept moved on up =
    let p = party_of w side in
    let p' = party_of v side in
    let s = p'.endpoint in
    let was = caller w side h in
    let goes = caller-goes p p' h.calls was.0 moved (side-up v side up) in
    elim on [
      | inr gone ↦ absurd (false≢true (sym (side-up v (other side) up) ∙ gone))
      | inl answers ↦
          elim (cases_Bool s.receiving.opened) [
            | inl opened ↦ inl (opened-both v side kept (record { opened = opened; goes_on = goes }) answers)
            | inr unopened ↦
                let fits = (side-pair v side kept).pair.there.alone.progress in
                let calls = caller-phase s.phase s.ending s.sending.snd_una s.sending.snd_nxt s.receiving.opened s.receiving.finished unopened goes
                (omega (arith, moved.grows.snd_nxt, was.2)) fits in
                inr (record { kept = kept; calls = calls; answers = answers })
          ]
    ]

-- whatever is calm, refused or not
shakes-event : (w : WorldState) (event : EventContent) (side : Side) → IsCalm event → IsShaking w side → NoneDiscarded (world_after w event)
    → ShakesOn (world_after w event) side
shakes-event w event side calm h up =
    let s = side_of event in
    let On : PartyState → PartyState → PartyState → PartyState → Type 0 = λ p q p' q'.
    p.endpoint.receiving.opened ≡ false → IsPassive q.endpoint.phase → ComesOn q'.endpoint in
    let on = at-event On w event side (λ _ answers. inl answers)
    (λ e _. there-on w.life (party_of w s) (party_of w (other s)) event calm h.kept.sound.life e (side-pair w s h.kept).pair)
    (λ _ _ answers. inl (subst IsPassive (sym (here-phase w.life (party_of w s) (party_of w (other s)) event calm)) answers)) in
    shakes-on w (world_after w event) side h (steps-event w event calm h.kept).kept (moves-event w event side calm h.kept) (on (caller w side h).1 h.answers) up

-- ---- BOTH GO ON, or one calls and the other answers
abbrev pub IsOn : Side → WorldState → Type 0
IsOn caller w = GoOn w.a w.b ⊎ IsShaking w caller

pub on-event : (w : WorldState) (event : EventContent) (caller : Side) → IsCalm event → IsKept w → IsOn caller w → NoneDiscarded (world_after w event)
    → IsOn caller (world_after w event)
on-event w event caller calm h (inl on) up = inl ((steps-event w event calm h).on on up)
on-event w event caller calm h (inr shakes) up =
    elim (shakes-event w event caller calm shakes up) [ inl both ↦ inl (both-live _ _ both.a both.b) | inr still ↦ inr still ]

-- over so many events
pub on-all : (w : WorldState) (events : List EventContent) (caller : Side) → AllByRecursion IsCalm events → IsKept w → IsOn caller w
    → NoneDiscarded (world_after_all w events) → IsOn caller (world_after_all w events)
unfolding world_after_all
on-all w [] caller calm h on up = on
on-all w (event ∷ events) caller calm h on up =
    let v = world_after w event in
    let kept = (steps-event w event calm.0 h).kept in
    on-all v events caller calm.1 kept (on-event w event caller calm.0 h on ((steps-all v events calm.1 kept).stays up)) up
