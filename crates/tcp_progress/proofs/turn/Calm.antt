-- CALM EVENTS only bring both ends on: SND.UNA, SND.NXT and RCV.NXT don't go back, nothing more is accepted, and no end that lives comes to
-- an end but by a reset, or in order and with nothing left.
use Rattle.tcp_replay.proofs.Words.{after_acked_text, after_its_ack, after_judgement, after_own_syn, after_peer_accepts, after_peer_opens, after_taking}
use Rattle.tcp_replay.proofs.Words.{after_taking_shut, after_window_and_blocks, arith, Bool, cases_Bool, closed_judgement, cond_both, Content}
use Rattle.tcp_replay.proofs.Words.{delivery_refusal, discards, Ending, false, false≢true, Foreign, has, has_discarded, if◌then◌else◌, inl, inr, is_closed}
use Rattle.tcp_replay.proofs.Words.{is_foreign, is_listening, IsAlone, IsSoundPair, Judgement, judgement, LastAck, length, List, max_life, None, NotEnded}
use Rattle.tcp_replay.proofs.Words.{Orderly, party_after_ack_alone, party_after_arrival, party_after_emission, party_after_resend, party_after_resend_first, party_after_timer}
use Rattle.tcp_replay.proofs.Words.{PartyState, PeerRefuses, PeerResets, Phase, phase_judgement, rcv_position_of, refl, ResetIgnored, rst, segment_at}
use Rattle.tcp_replay.proofs.Words.{SentSegment, slice_get, Some, State, Stray, subst, sym, Taken, TakenShut, Timer, true, ℕ, ◌∙◌, ◌≡◌, ◌≤◌, ◌⊎◌}
use Rattle.tcp_replay.proofs.Lemmas.{after_segment, at-listen, Both, fair-judgement, judged, kept-same, not-closed-ended, slice_get-before}
use Rattle.tcp_progress.proofs.turn.Delivered.{last-before, own_fin-ends, same-ending, same-phase, shut-as, taken-as}
use Rattle.tcp_conn.specs.declared.phase.Timer.{Timer as Which}
use Rattle.tcp_progress.proofs.{Words.IsCalm, Words.Side, turn.Emitted.delivered, turn.Emitted.IsOnItsWay, steady.OnlySent.KeepsSent, steady.OnlySent.reaches-arrive, turn.Live.IsStill}
use Rattle.tcp_progress.proofs.{turn.Live.still-ack_alone, turn.Live.still-resend, turn.Live.still-resend_first, turn.Live.still-emission, turn.Live.still-next, turn.Live.still-reorder}
use Rattle.tcp_progress.proofs.{turn.Live.still-retransmit, turn.Live.still-same, turn.Answering.its_ack-range}
use Rattle.tcp_replay.proofs.one_end.Judgements.{IsSyn}
use Rattle.tcp_conn.specs.declared.phase.Timer.TheVariants as timers

-- ---- HOW AN END MAY COME TO ITS END: in order from LAST-ACK, or by a reset
abbrev pub EndsPlainly : Ending → Phase → Type 0
EndsPlainly ending phase = (ending ≡ NotEnded) ⊎ ((ending ≡ Orderly) × (phase ≡ LastAck))

-- or by a reset
abbrev pub EndsAs : State → State → Type 0
EndsAs s t = (discards t.ending ≡ true) ⊎ EndsPlainly t.ending s.phase

-- only who lives
abbrev pub MayEnd : State → State → Type 0
MayEnd s t = (t.ending ≡ s.ending) ⊎ ((s.ending ≡ NotEnded) × EndsAs s t)

-- BROUGHT ON: p became p'
pub record Grows (p p' : PartyState) : Type 0 where
  pub config : p'.endpoint.config ≡ p.endpoint.config
  pub snd_una : p.endpoint.sending.snd_una ≤ p'.endpoint.sending.snd_una
  pub snd_nxt : p.endpoint.sending.snd_nxt ≤ p'.endpoint.sending.snd_nxt
  pub next : rcv_position_of p ≤ rcv_position_of p'
  pub opened : p.endpoint.receiving.opened ≡ true → p'.endpoint.receiving.opened ≡ true
  pub accepted : p'.accepted ≡ p.accepted
  pub closed : p'.closed ≡ p.closed
  pub sent : (k : ℕ) (g : SentSegment) → slice_get p.sent k ≡ Some g → slice_get p'.sent k ≡ Some g
  pub delivery : length p.delivered ≤ length p'.delivered
  pub ended : p.ended ≡ true → p'.ended ≡ true

-- step by step
pub grows-then : (p p' p'' : PartyState) → Grows p p' → Grows p' p'' → Grows p p''
grows-then p p' p'' one two = record {
  config = two.config ∙ one.config;
  snd_una = omega (arith, one.snd_una, two.snd_una);
  snd_nxt = omega (arith, one.snd_nxt, two.snd_nxt);
  next = omega (arith, one.next, two.next);
  opened = λ e. two.opened (one.opened e);
  accepted = two.accepted ∙ one.accepted;
  closed = two.closed ∙ one.closed;
  sent = λ k g is. two.sent k g (one.sent k g is);
  delivery = omega (arith, one.delivery, two.delivery);
  ended = λ e. two.ended (one.ended e);
}

-- at one event
pub record IsMoved (p p' : PartyState) : Type 0 where
  pub grows : Grows p p'
  pub ending : MayEnd p.endpoint p'.endpoint

-- who lives comes to its end plainly, unless it is reset or aborted
pub ends-plainly : (p p' : PartyState) → IsMoved p p' → p.endpoint.ending ≡ NotEnded → has_discarded p' ≡ false → EndsPlainly p'.endpoint.ending p.endpoint.phase
ends-plainly p p' h goes up =
    elim h.ending [
      | inl same ↦ inl (same ∙ goes)
      | inr ends ↦ elim ends.1 [ inl gone ↦ absurd (false≢true (sym up ∙ gone)) | inr plain ↦ plain ]
    ]

-- what an end does by itself
pub moves-still : (p p' : PartyState) → IsStill p p' → ((k : ℕ) (g : SentSegment) → slice_get p.sent k ≡ Some g → slice_get p'.sent k ≡ Some g)
    → length p.delivered ≤ length p'.delivered → (p.ended ≡ true → p'.ended ≡ true) → IsMoved p p'
moves-still p p' h sent delivery ended =
    let snd_una : p.endpoint.sending.snd_una ≤ p'.endpoint.sending.snd_una = omega (arith, h.snd_una) in
    let next : rcv_position_of p ≤ rcv_position_of p' = omega (arith, still-next p p' h) in
    let opened : p.endpoint.receiving.opened ≡ true → p'.endpoint.receiving.opened ≡ true = λ e. h.opened ∙ e in
    record { grows = assumption; ending = inl h.ending }

-- nothing happens
pub moves-same : (p : PartyState) → IsMoved p p
moves-same p = moves-still p p (still-same p) (λ k g e. e) (omega arith) (λ e. e)

-- a timer expires
pub moves-timer : (p : PartyState) (side : Side) (which : Which) → IsCalm (Timer side which) → IsMoved p (party_after_timer p which)
unfolding party_after_timer
moves-timer p side timers.Retransmit calm =
    moves-still p (party_after_timer p timers.Retransmit) (still-retransmit p) (λ k g e. e) (omega arith) (λ e. e)
moves-timer p side timers.Reorder calm = moves-still p (party_after_timer p timers.Reorder) (still-reorder p) (λ k g e. e) (omega arith) (λ e. e)
moves-timer p side timers.TimeWait calm = absurd calm

-- it emits
pub moves-emission : (p : PartyState) → IsMoved p (party_after_emission p)
unfolding party_after_emission
moves-emission p = moves-still p (party_after_emission p) (still-emission p) (slice_get-before p.sent _) (omega arith) (λ e. e)

-- an acknowledgement alone
pub moves-ack_alone : (p : PartyState) → IsMoved p (party_after_ack_alone p)
unfolding party_after_ack_alone
moves-ack_alone p = moves-still p (party_after_ack_alone p) (still-ack_alone p) (slice_get-before p.sent _) (omega arith) (λ e. e)

-- the first segment is to go out again, or what lies between two positions
pub moves-resend_first : (p : PartyState) → IsMoved p (party_after_resend_first p)
unfolding party_after_resend_first
moves-resend_first p = moves-still p (party_after_resend_first p) (still-resend_first p) (λ k g e. e) (omega arith) (λ e. e)

pub moves-resend : (p : PartyState) (from to : ℕ) → IsMoved p (party_after_resend p from to)
unfolding party_after_resend
moves-resend p from to = moves-still p (party_after_resend p from to) (still-resend p from to) (λ k g e. e) (omega arith) (λ e. e)

una-judgement : (s : State) (src dst : List ℕ) (v : Content) (accepted : List ℕ) (closed : Bool) → IsAlone s accepted closed
    → s.sending.snd_una ≤ (after_judgement (judgement s src dst v) s src v).sending.snd_una
unfolding after_peer_opens after_peer_accepts
una-judgement s src dst v accepted closed alone =
    let d = s.sending in
    let r = s.receiving in
    let order : d.snd_una ≤ d.snd_nxt = alone.sends.order in
    let same : d.snd_una ≤ d.snd_una = omega arith in
    let opens : is_listening s.phase ≡ true → IsSyn v → d.snd_una ≤ (after_peer_opens s src v).sending.snd_una = λ listening _.
    omega (arith, (at-listen s.phase s.ending d.snd_una d.snd_nxt r.opened r.finished listening alone.progress).1.snd_nxt_is, order) in
    let taken : d.snd_una ≤ (after_taking s v).sending.snd_una = omega (arith, (its_ack-range s v order).snd_una, (taken-as s v).snd_una) in
    let shut : d.snd_una ≤ (after_taking_shut s v).sending.snd_una = omega (arith, (its_ack-range s v order).snd_una, (shut-as s v).snd_una) in
    let P : Judgement → Type 0 = λ j. d.snd_una ≤ (after_judgement j s src v).sending.snd_una in
    judged s v P (assumption) src dst

-- and an end that lives comes to its end in order, or by a reset
its_ack-ends : (s : State) (v : Content) → s.ending ≡ NotEnded → EndsPlainly (after_its_ack s v).ending s.phase
unfolding after_its_ack
its_ack-ends s v goes =
    let three = after_window_and_blocks (after_acked_text (after_own_syn s v) v) v in
    elim (own_fin-ends three (same-ending s v ∙ goes)) [
      | inl on ↦ inl on
      | inr over ↦ inr (over.0, last-before s.phase s.closing (same-phase s v over.2))
    ]

-- what a reset alone brings
abbrev pub Resets : Judgement → Type 0
Resets PeerRefuses = Unit {0}
Resets PeerResets = Unit {0}
Resets other = ⊥

-- an end that lives comes to its end plainly, unless a reset does it
pub how-ends : (s : State) (src dst : List ℕ) (v : Content) → s.ending ≡ NotEnded
    → Resets (judgement s src dst v) ⊎ EndsPlainly (after_judgement (judgement s src dst v) s src v).ending s.phase
unfolding after_peer_opens after_peer_accepts
how-ends s src dst v goes =
    let P : Judgement → Type 0 = λ j. Resets j ⊎ EndsPlainly (after_judgement j s src v).ending s.phase in
    let resets : P PeerResets = inl tt in
    let stays : ⊥ ⊎ EndsPlainly s.ending s.phase = inr (inl goes) in
    let ends = its_ack-ends s v goes in
    let taken : P Taken = inr (subst (λ (e : Ending). EndsPlainly e s.phase) (sym (taken-as s v).ending) ends) in
    let shut : P TakenShut = inr (subst (λ (e : Ending). EndsPlainly e s.phase) (sym (shut-as s v).ending) ends) in
    judged s v P (assumption) src dst

resets-gone : (s : State) (src : List ℕ) (v : Content) (j : Judgement) → Resets j → discards (after_judgement j s src v).ending ≡ true
resets-gone s src v PeerRefuses h = refl
resets-gone s src v PeerResets h = refl
resets-gone s src v other h = absurd h

-- in CLOSED nothing ends
pub closed-ending : (s : State) (src dst : List ℕ) (v : Content) → is_closed s.phase ≡ true
    → (after_judgement (judgement s src dst v) s src v).ending ≡ s.ending
unfolding judgement phase_judgement closed_judgement
closed-ending s src dst v shut =
    let P : Judgement → Type 0 = λ j. (after_judgement j s src v).ending ≡ s.ending in
    rw shut (cond_both (is_foreign s src dst v) Foreign (if has rst v.flags then ResetIgnored else Stray) P (λ _. refl)
    (λ _. cond_both (has rst v.flags) ResetIgnored Stray P (λ _. refl) (λ _. refl)))

-- an end that lives hasn't ended in order
pub not-both : (ending : Ending) → ending ≡ NotEnded → ending ≡ Orderly → ⊥
not-both ending goes over = grind (arith, goes, over)

may_end-judgement : (s : State) (src dst : List ℕ) (v : Content) (accepted : List ℕ) (closed : Bool) → IsAlone s accepted closed
    → MayEnd s (after_judgement (judgement s src dst v) s src v)
may_end-judgement s src dst v accepted closed alone =
    elim (cases_Bool (is_closed s.phase)) [
      | inl shut ↦ inl (closed-ending s src dst v shut)
      | inr here ↦
          let goes = not-closed-ended s.phase s.ending s.sending.snd_una s.sending.snd_nxt s.receiving.opened s.receiving.finished here alone.progress in
          inr (
            goes,
            elim (how-ends s src dst v goes) [
              | inl reset ↦ inl (resets-gone s src v (judgement s src dst v) reset)
              | inr plain ↦ inr plain
            ],
          )
    ]

-- a segment of q arrives
pub moves-arrival : (p q : PartyState) (life k : ℕ) → life ≤ max_life → delivery_refusal life q p k ≡ None → IsSoundPair p q → Both KeepsSent p q
    → IsMoved p (party_after_arrival p q (segment_at q k))
moves-arrival p q life k most e pair h =
    let s = p.endpoint in
    let src = q.endpoint.config.addr.0 in
    let d = delivered q p life k most e pair in
    let c = d.comes in
    let fair = fair-judgement p q s s.config.addr.0 d.content d.g.position d.g.wanted c.comes (kept-same p q pair) in
    let reaches = reaches-arrive p q d.g d.content pair c (h.back.emitted c.place d.g d.content c.sent c.read) h.there.taken in
    let moved : IsMoved p (record p { endpoint = after_segment p q d.content }) = record {
      grows = record {
        config = fair.config;
        snd_una = una-judgement s src s.config.addr.0 d.content p.accepted p.closed pair.there.alone;
        snd_nxt = reaches.0;
        next = fair.grows.next;
        opened = fair.grows.opened;
        accepted = refl;
        closed = refl;
        sent = λ k g is. is;
        delivery = omega arith;
        ended = λ e. e;
      };
      ending = may_end-judgement s src s.config.addr.0 d.content p.accepted p.closed pair.there.alone;
    } in
    subst (IsMoved p) (sym d.same) moved

-- what is on its way still is
pub way-later : (p q p' q' : PartyState) (k : ℕ) (g : SentSegment) (v : Content) → Grows p p' → Grows q q' → IsOnItsWay p q k g v → IsOnItsWay p' q' k g v
way-later p q p' q' k g v gp gq way = record { sent = gp.sent k g way.sent; read = rw (gp.config, gq.config) way.read; no_rst = way.no_rst }
