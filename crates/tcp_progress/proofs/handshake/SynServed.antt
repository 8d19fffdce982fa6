-- WHO IS SERVED IN THE HANDSHAKE has its SYN due, which goes out; and when that comes, the other has it.
use Rattle.tcp_replay.proofs.Words.{◌++◌, [], AllByRecursion, ap, arith, Bool, cases_Bool, Config, Deliver, due_of, Emit, EventContent, false, false≢true}
use Rattle.tcp_replay.proofs.Words.{inl, inr, is_handshake, length, List, Listen, number, other, party_after_emission, party_of, PartyState, rcv_position_of}
use Rattle.tcp_replay.proofs.Words.{refl, Retransmit, Some, State, subst, suc, sym, Syn, SynReceived, SynSent, Timer, true, world_after, world_after_all}
use Rattle.tcp_replay.proofs.Words.{WorldState, zero, ℕ, ◌∙◌, ◌∷◌, ◌≡◌, ◌≤◌}
use Rattle.tcp_progress.proofs.Words.{A, after_emissions, AllCome, B, Delivers, emissions, IsCalm, IsIdle, IsLive, IsSteadyPair, NoneDiscarded}
use Rattle.tcp_progress.proofs.Words.{served, Side}
use Rattle.tcp_progress.proofs.Lemmas.{calm-emissions, calm-append, deliver-at, emit-at, emit-endpoint, Grows, IsKept, IsStill, IsSyn, kept-steady, side-on}
use Rattle.tcp_progress.proofs.Lemmas.{side-pair, steady-back, steps-all, steps-event, syn-emitted, timer-endpoint, way-later}
use Rattle.tcp_progress.proofs.handshake.KeepsOpening.{IsOn, IsPassive, on-event}
use Rattle.tcp_replay.proofs.Lemmas.{none-some}
use Rattle.tcp_progress.proofs.handshake.SynTaken.{answering, answering-first, listen-takes, opening, syn_sent-takes, unopened-first, unopened-listen}
use Rattle.tcp_progress.proofs.{turn.Asking.syn-after, turn.Serving.comes-due, turn.Serving.idle-stays}

-- ---- A SYN that went out is there later
syn-later : (p q p' q' : PartyState) (k : ℕ) (told : Bool) → Grows p p' → Grows q q' → IsSyn p q k told → IsSyn p' q' k told
syn-later p q p' q' k told gp gq f = record {
  content = f.content;
  g = f.g;
  way = way-later p q p' q' k f.g f.content gp gq f.way;
  starts = f.starts;
  wanted = f.wanted;
  has_syn = f.has_syn;
  has_ack = f.has_ack;
  acks = λ e. f.acks e ∙ ap (λ (c : Config). number c.isn.0 1) (sym gq.config);
  src = f.src ∙ ap (λ (c : Config). c.port) (sym gp.config);
  dst = f.dst ∙ ap (λ (c : Config). c.port) (sym gq.config);
}

-- ---- WHOSE SYN IS WANTED: who calls, by who listens; or who answers, by who calls, and its SYN acknowledges the other's
abbrev pub Speaks : Bool → PartyState → PartyState → Type 0
Speaks false p q = (p.endpoint.phase ≡ SynSent) × (q.endpoint.phase ≡ Listen)
Speaks true p q = (p.endpoint.phase ≡ SynReceived) × (q.endpoint.phase ≡ SynSent)

-- where one calls, whether a side answers
abbrev pub answers_to : Side → Side → Bool
answers_to A A = false
answers_to A B = true
answers_to B A = true
answers_to B B = false

calls-speaks : (p q : PartyState) → IsSteadyPair p q → p.endpoint.phase ≡ SynSent → IsPassive q.endpoint.phase → q.endpoint.receiving.opened ≡ false
    → Speaks false p q
calls-speaks p q h calls (inl listens) unopened = (calls, listens)
calls-speaks p q h calls (inr received) unopened = absurd (false≢true (sym unopened ∙ (answering q p (steady-back q p h) received).1.is_opened))

answers-speaks : (p q : PartyState) → IsSteadyPair p q → q.endpoint.phase ≡ SynSent → IsPassive p.endpoint.phase → 1 ≤ p.endpoint.sending.snd_nxt
    → Speaks true p q
answers-speaks p q h calls (inl listens) sent = absurd (omega (arith, sent, (unopened-listen p q h listens).1.snd_nxt_is))
answers-speaks p q h calls (inr received) sent = (received, calls)

-- who has sent its SYN to who has none
speaks : (w : WorldState) (caller side : Side) → IsOn caller w → (party_of w (other side)).endpoint.receiving.opened ≡ false
    → 1 ≤ (party_of w side).endpoint.sending.snd_nxt → Speaks (answers_to caller side) (party_of w side) (party_of w (other side))
speaks w caller side (inl on) unopened sent = absurd (false≢true (sym unopened ∙ (side-on w side on).back.opened))
speaks w A A (inr h) unopened sent = calls-speaks w.a w.b (side-pair w A h.kept) h.calls h.answers unopened
speaks w B B (inr h) unopened sent = calls-speaks w.b w.a (side-pair w B h.kept) h.calls h.answers unopened
speaks w A B (inr h) unopened sent = answers-speaks w.b w.a (side-pair w B h.kept) h.calls h.answers sent
speaks w B A (inr h) unopened sent = answers-speaks w.a w.b (side-pair w A h.kept) h.calls h.answers sent

-- it has taken nothing but a SYN
pub speaker-is : (told : Bool) (p q : PartyState) → IsSteadyPair p q → Speaks told p q
    → (is_handshake p.endpoint.phase ≡ true) × (rcv_position_of p ≡ 1) × (p.endpoint.receiving.opened ≡ told)
speaker-is false p q h is =
    let calls = opening p q h is.0 in
    (ap is_handshake is.0, unopened-first p q h calls.1.not_opened, calls.1.not_opened)
speaker-is true p q h is = (ap is_handshake is.0, answering-first p q h is.0 is.1, (answering p q h is.0).1.is_opened)

-- but for what is pending it stays as it is
pub speaks-still : (told : Bool) (p p' q : PartyState) → IsStill p p' → Speaks told p q → Speaks told p' q
speaks-still false p p' q still is = (still.phase ∙ is.0, is.1)
speaks-still true p p' q still is = (still.phase ∙ is.0, is.1)

-- ---- ITS SYN, where it is due, goes out
pub syn-goes : (told : Bool) (w : WorldState) (side : Side) → IsKept w → Speaks told (party_of w side) (party_of w (other side))
    → due_of (party_of w side).endpoint ≡ Some Syn
    → IsSyn (party_of (world_after w (Emit side)) side) (party_of (world_after w (Emit side)) (other side)) (length (party_of w side).sent) told
syn-goes told w side h speaks due =
    let p = party_of w side in
    let q = party_of w (other side) in
    let pair = side-pair w side h in
    let is = speaker-is told p q pair speaks in
    emit-at (λ x y. IsSyn x y (length p.sent) told) w side (subst (IsSyn (party_after_emission p) q (length p.sent)) is.2 (syn-emitted p q pair is.0 is.1 due))

-- HEARD: LISTEN has become SYN-RECEIVED, or who called is open
abbrev pub Heard : Bool → PartyState → Type 0
Heard false q = q.endpoint.phase ≡ SynReceived
Heard true q = IsLive q

-- so it is when the SYN comes, which leaves its sender as it was
pub syn-heard : (told : Bool) (w : WorldState) (side : Side) (k : ℕ) → IsKept w → Speaks told (party_of w side) (party_of w (other side))
    → IsSyn (party_of w side) (party_of w (other side)) k told → let v = world_after w (Deliver side k) in
    (party_of v side ≡ party_of w side) × Heard told (party_of v (other side))
syn-heard false w side k h is f =
    let takes = listen-takes (party_of w side) (party_of w (other side)) w.life k (kept-steady w h).least (side-pair w side h) is.1 f in
    deliver-at (λ x y. (x ≡ party_of w side) × (y.endpoint.phase ≡ SynReceived)) w side k takes.0 (refl, takes.1)
syn-heard true w side k h is f =
    let takes = syn_sent-takes (party_of w side) (party_of w (other side)) w.life k (kept-steady w h).least (side-pair w side h) is.1 f in
    deliver-at (λ x y. (x ≡ party_of w side) × IsLive y) w side k takes.0 (refl, takes.1)

-- who has heard has the SYN
heard-opened : (told : Bool) (p q : PartyState) → IsSteadyPair p q → Heard told q → q.endpoint.receiving.opened ≡ true
heard-opened false p q h received = (answering q p (steady-back q p h) received).1.is_opened
heard-opened true p q h live = live.opened

-- ---- ONE SIDE'S SYN IS TAKEN, in the end
abbrev pub IsHeard : WorldState → Side → Type 0
IsHeard w side = (party_of w (other side)).endpoint.receiving.opened ≡ true

-- it is, or a side speaks
heard-or : (w : WorldState) (caller side : Side) → IsOn caller w → 1 ≤ (party_of w side).endpoint.sending.snd_nxt → (P : Type 0) → (IsHeard w side → P)
    → (Speaks (answers_to caller side) (party_of w side) (party_of w (other side)) → P) → P
heard-or w caller side on sent P heard spoken =
    elim (cases_Bool (party_of w (other side)).endpoint.receiving.opened) [
      | inl had ↦ heard had
      | inr unopened ↦ spoken (speaks w caller side on unopened sent)
    ]

-- and stays so
heard-all : (w : WorldState) (events : List EventContent) (side : Side) → AllByRecursion IsCalm events → IsKept w → IsHeard w side
    → IsHeard (world_after_all w events) side
heard-all w events side calm h heard = ((steps-all w events calm h).grows (other side)).opened heard

-- where it comes among some events
syn-comes : (w : WorldState) (caller side : Side) (k : ℕ) (events : List EventContent) → AllByRecursion IsCalm events → IsKept w → IsOn caller w
    → 1 ≤ (party_of w side).endpoint.sending.snd_nxt → IsSyn (party_of w side) (party_of w (other side)) k (answers_to caller side)
    → Delivers side k events → NoneDiscarded (world_after_all w events) → IsHeard (world_after_all w events) side
unfolding world_after_all
syn-comes w caller side k [] calm h on sent f comes up = absurd comes
syn-comes w caller side k (event ∷ events) calm h on sent f comes up =
    let told = answers_to caller side in
    let v = world_after w event in
    let steps = steps-event w event calm.0 h in
    heard-or w caller side on sent _ (heard-all w (event ∷ events) side calm h) (λ is. elim comes [
      | inl now ↦
          let v' = world_after w (Deliver side k) in
          let pair = side-pair v' side (steps-event w (Deliver side k) tt h).kept in
          let heard = heard-opened told (party_of v' side) (party_of v' (other side)) pair (syn-heard told w side k h is f).1 in
          heard-all v events side calm.1 steps.kept (subst (λ (e : EventContent). IsHeard (world_after w e) side) (sym now) heard)
      | inr later ↦
          let on' = on-event w event caller calm.0 h on ((steps-all v events calm.1 steps.kept).stays up) in
          let f' = syn-later _ _ _ _ k told (steps.grows side) (steps.grows (other side)) f in
          syn-comes v caller side k events calm.1 steps.kept on' (omega (arith, sent, (steps.grows side).snd_nxt)) f' later up
    ])

-- where it is due after so many emissions, and these go on until nothing is
emissions-heard : (n count : ℕ) (w : WorldState) (caller side : Side) (later : List EventContent) → AllByRecursion IsCalm later → IsKept w → IsOn caller w
    → 1 ≤ (party_of w side).endpoint.sending.snd_nxt → due_of (after_emissions count (party_of w side).endpoint) ≡ Some Syn
    → IsIdle (world_after_all w (emissions side n)) side → AllCome w (emissions side n) later → NoneDiscarded (world_after_all w (emissions side n ++ later))
    → IsHeard (world_after_all w (emissions side n ++ later)) side
unfolding world_after_all
emissions-heard zero count w caller side later calm h on sent due idle come up =
    absurd (none-some Syn (sym idle ∙ ap due_of (sym (idle-stays count (party_of w side).endpoint idle)) ∙ due))
emissions-heard (suc n) zero w caller side later calm h on sent due idle come up =
    let v = world_after w (Emit side) in
    let events = emissions side n ++ later in
    let calm' = calm-append (emissions side n) later (calm-emissions side n) calm in
    let steps = steps-event w (Emit side) tt h in
    let on' = on-event w (Emit side) caller tt h on ((steps-all v events calm' steps.kept).stays up) in
    heard-or w caller side on sent _ (heard-all w (Emit side ∷ events) side (tt, calm') h) (λ is.
    syn-comes v caller side (length (party_of w side).sent) events calm' steps.kept on' (omega (arith, sent, (steps.grows side).snd_nxt))
    (syn-goes (answers_to caller side) w side h is due) (comes-due w side events Syn due refl come.0) up)
emissions-heard (suc n) (suc count) w caller side later calm h on sent due idle come up =
    let v = world_after w (Emit side) in
    let calm' = calm-append (emissions side n) later (calm-emissions side n) calm in
    let steps = steps-event w (Emit side) tt h in
    let on' = on-event w (Emit side) caller tt h on ((steps-all v (emissions side n ++ later) calm' steps.kept).stays up) in
    let due' = ap (λ (t : State). due_of (after_emissions count t)) (emit-endpoint w side) ∙ due in
    emissions-heard n count v caller side later calm steps.kept on' (omega (arith, sent, (steps.grows side).snd_nxt)) due' idle come.1 up

-- WHO IS SERVED, and has sent its SYN
pub served-heard : (n : ℕ) (w : WorldState) (caller side : Side) (later : List EventContent) → AllByRecursion IsCalm later → IsKept w → IsOn caller w
    → 1 ≤ (party_of w side).endpoint.sending.snd_nxt → IsIdle (world_after_all w (served side n)) side → AllCome w (served side n) later
    → NoneDiscarded (world_after_all w (served side n ++ later)) → IsHeard (world_after_all w (served side n ++ later)) side
unfolding world_after_all
served-heard n w caller side later calm h on sent idle come up =
    let p = party_of w side in
    let v = world_after w (Timer side Retransmit) in
    let events = emissions side n ++ later in
    let calm' = calm-append (emissions side n) later (calm-emissions side n) calm in
    let steps = steps-event w (Timer side Retransmit) tt h in
    let on' = on-event w (Timer side Retransmit) caller tt h on ((steps-all v events calm' steps.kept).stays up) in
    heard-or w caller side on sent _ (heard-all w (Timer side Retransmit ∷ events) side (tt, calm') h) (λ is.
    let out = syn-after p.endpoint (speaker-is (answers_to caller side) p (party_of w (other side)) (side-pair w side h) is).0 in
    let due = ap (λ (t : State). due_of (after_emissions out.0 t)) (timer-endpoint w side) ∙ out.2 in
    emissions-heard n out.0 v caller side later calm steps.kept on' (omega (arith, sent, (steps.grows side).snd_nxt)) due idle come.1 up)
