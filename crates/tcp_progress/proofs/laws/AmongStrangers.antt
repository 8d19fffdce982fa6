-- EACH LAW OF EVERY WORLD AMONG STRANGERS, by what its proof takes of a world. And a blind injection as a calm event.
use Rattle.tcp_replay.proofs.Words.{◌==◌, ack, Acknowledge, acks_unsent, after_judgement, after_reading, ap, arith, Bool, cond_both, Content}
use Rattle.tcp_replay.proofs.Words.{decode_answer, DecodeError, effect_of, Err, false, has, if◌then◌else◌, inl, inr, is_closed, is_listening}
use Rattle.tcp_replay.proofs.Words.{is_syn_received, is_syn_sent, Judgement, judgement, List, not, Ok, or_right, party_of, phase_judgement, refl, Result}
use Rattle.tcp_replay.proofs.Words.{rst, State, sym, syn, takes_text, true, with_ack_pending, world_after, WorldState, ℕ, ◌∙◌, ◌≡◌, ◌⊎◌}
use Rattle.tcp_conn.specs.declared.arrive.judgement.Judgement.TheVariants.{AcksUnsent, Foreign, HandshakeRefused, HandshakeRefusedShut, NoAck, PeerResets}
use Rattle.tcp_conn.specs.declared.arrive.judgement.Judgement.TheVariants.{ResetElsewhere, ResetIgnored, SynInWindow, Taken, TakenShut, Unacceptable}
use Rattle.tcp_conn.specs.Judgement.{is_acceptable_segment, is_allowed_shut, is_foreign, position_near}
unfoldable use Rattle.tcp_conn.specs.Judgement.{acceptable_judgement, ack_judgement, judgement, judgement_after_syn, phase_judgement, unacceptable_judgement}
unfoldable use Rattle.tcp_conn.specs.Arrival.{after_arrival}
unfoldable use Rattle.tcp_conn.specs.Calls.{after_acknowledge}
unfoldable use Rattle.tcp_replay.specs.World.{effect_of, party_after_acknowledge}
use Rattle.tcp_replay.specs.Among.{Injection, is_reading_let_in, lets_in, world_with_injection}
use Rattle.tcp_progress.specs.Among.{BlindIsCalm, BurstsEndAmongStrangers, HalvesAmongStrangers, HalvesCanBeHadAmongStrangers}
use Rattle.tcp_progress.specs.Among.{NeverGrowsAmongStrangers, NothingIsTakenBeforeItIsSentAmongStrangers, NotStuckAmongStrangers, OpensAmongStrangers}
use Rattle.tcp_progress.specs.Among.{ServedAmongStrangers, ServedOpensAmongStrangers, SteadyAmongStrangers, TurnsCanBeHadAmongStrangers}
use Rattle.tcp_progress.specs.Fair.{BurstEnds, CanHaveTurns, GetsThrough, NeverGrows, NoneDiscarded}
use Rattle.tcp_progress.specs.Half.{CanHaveHalves, GetsThroughByHalves}
use Rattle.tcp_progress.specs.Handshake.{CanOpen, OpensAndGetsThrough}
use Rattle.tcp_progress.specs.Sent.{TakeOnlySent}
use Rattle.tcp_progress.specs.Settled.{IsLive, IsNotStuck}
use Rattle.tcp_progress.specs.Steady.{IsSteady}
use Rattle.tcp_progress.specs.WithRuns.{GoesOnAmongStrangersWithRuns, SteadyAmongStrangersWithRuns}
use Rattle.tcp_progress.proofs.Words.{A, B, Side}
use Rattle.tcp_progress.proofs.{handshake.BothOpen.opens-and, handshake.FinishedInEight.can-open, laws.Injected.among-strangers, laws.Injected.among-strangers-with-runs}
use Rattle.tcp_progress.proofs.{laws.NotStuck.not_stuck-kept, steady.AlwaysSteady.kept-steady, steady.OnlySent.only_sent, turn.BothHalves.halved-kept}
use Rattle.tcp_progress.proofs.{turn.CalmWorlds.left-kept, turn.Draining.bursts-end, turn.HalfTurnsHad.halves_had-kept, turn.Lowering.lowers_lem}
use Rattle.tcp_progress.proofs.{turn.Turning.served-kept, turn.TurnsHad.turns-kept}

pub steady-among : SteadyAmongStrangers
steady-among = among-strangers IsSteady kept-steady

pub sent-among : NothingIsTakenBeforeItIsSentAmongStrangers
sent-among = among-strangers TakeOnlySent (λ w h. only_sent w h.all.sent)

pub not_stuck-among : NotStuckAmongStrangers
not_stuck-among = among-strangers IsNotStuck not_stuck-kept

pub opens-among : OpensAmongStrangers
opens-among = among-strangers CanOpen can-open

pub served-among : ServedAmongStrangers
served-among = among-strangers GetsThrough (served-kept lowers_lem)

pub served_opens-among : ServedOpensAmongStrangers
served_opens-among = among-strangers OpensAndGetsThrough opens-and

pub halves-among : HalvesAmongStrangers
halves-among = among-strangers GetsThroughByHalves halved-kept

pub turns-among : TurnsCanBeHadAmongStrangers
turns-among = among-strangers (λ w. NoneDiscarded w → (n : ℕ) → CanHaveTurns n w) turns-kept

pub halves_had-among : HalvesCanBeHadAmongStrangers
halves_had-among = among-strangers (λ w. IsLive w.a → IsLive w.b → (n : ℕ) → CanHaveHalves n w) halves_had-kept

pub bursts-among : BurstsEndAmongStrangers
bursts-among = among-strangers (λ w. (side : Side) → BurstEnds w side) bursts-end

pub left-among : NeverGrowsAmongStrangers
left-among = among-strangers NeverGrows left-kept

-- ---- EACH OF THEM whatever the numbers of runs
pub steady-with-runs : SteadyAmongStrangersWithRuns
steady-with-runs = record {
  steady = among-strangers-with-runs IsSteady kept-steady;
  taken = among-strangers-with-runs TakeOnlySent (λ w h. only_sent w h.all.sent);
}

pub goes-on-with-runs : GoesOnAmongStrangersWithRuns
goes-on-with-runs = record {
  not_stuck = among-strangers-with-runs IsNotStuck not_stuck-kept;
  opens = among-strangers-with-runs CanOpen can-open;
  served = among-strangers-with-runs GetsThrough (served-kept lowers_lem);
  served_opens = among-strangers-with-runs OpensAndGetsThrough opens-and;
  half_turns = among-strangers-with-runs GetsThroughByHalves halved-kept;
  turns = among-strangers-with-runs (λ w. NoneDiscarded w → (n : ℕ) → CanHaveTurns n w) turns-kept;
  halves = among-strangers-with-runs (λ w. IsLive w.a → IsLive w.b → (n : ℕ) → CanHaveHalves n w) halves_had-kept;
  bursts = among-strangers-with-runs (λ w. (side : Side) → BurstEnds w side) bursts-end;
  left = among-strangers-with-runs NeverGrows left-kept;
}

-- ---- WHERE TEXT IS TAKEN what isn't let in changes nothing, or makes an acknowledgement pending
module _ (s : State) (src : List ℕ) (v : Content) where
  abbrev Calms : Judgement → Type 0
  Calms j = lets_in j ≡ false → (after_judgement j s src v ≡ s) ⊎ (after_judgement j s src v ≡ with_ack_pending s)

  -- the acknowledgement, past SYN-RECEIVED
  ack-calms : (good refused : Judgement) → is_syn_received s.phase ≡ false → Calms good → Calms (ack_judgement s v good refused)
  unfolding ack_judgement
  ack-calms good refused opened h =
      let unsent = acks_unsent s.sending (position_near s v.ack) in
      rw opened (cond_both unsent AcksUnsent good Calms (λ _ _. inr refl) (λ _. h))

  acceptable-calms : is_syn_received s.phase ≡ false → Calms (acceptable_judgement s v)
  unfolding acceptable_judgement
  acceptable-calms opened =
      let acked = ack_judgement s v Taken HandshakeRefused in
      let resets = if v.seq == s.receiving.rcv_nxt then PeerResets else ResetElsewhere in
      let others = if has syn v.flags then SynInWindow else (if not (has ack v.flags) then NoAck else acked) in
      cond_both (has rst v.flags) resets others Calms
      (λ _. cond_both (v.seq == s.receiving.rcv_nxt) PeerResets ResetElsewhere Calms (λ _ e. absurd (cc)) (λ _ _. inr refl))
      (λ _. cond_both (has syn v.flags) SynInWindow (if not (has ack v.flags) then NoAck else acked) Calms (λ _ _. inr refl)
      (λ _. cond_both (not (has ack v.flags)) NoAck acked Calms (λ _ _. inl refl) (λ _. ack-calms Taken HandshakeRefused opened (λ e. absurd (cc)))))

  unacceptable-calms : is_syn_received s.phase ≡ false → Calms (unacceptable_judgement s v)
  unfolding unacceptable_judgement
  unacceptable-calms opened =
      let acked = ack_judgement s v TakenShut HandshakeRefusedShut in
      cond_both (has rst v.flags) ResetIgnored (if is_allowed_shut s v then acked else Unacceptable) Calms (λ _ _. inl refl)
      (λ _. cond_both (is_allowed_shut s v) acked Unacceptable Calms (λ _. ack-calms TakenShut HandshakeRefusedShut opened (λ e. absurd (cc)))
      (λ _ _. inr refl))

  judged-calms : (dst : List ℕ) → takes_text s.phase ≡ true → Calms (judgement s src dst v)
  unfolding judgement phase_judgement judgement_after_syn
  judged-calms dst takes =
      let closed : is_closed s.phase ≡ false = grind (arith, takes) in
      let listening : is_listening s.phase ≡ false = grind (arith, takes) in
      let sent : is_syn_sent s.phase ≡ false = grind (arith, takes) in
      let opened : is_syn_received s.phase ≡ false = grind (arith, takes) in
      rw (closed, listening, sent) (cond_both (is_foreign s src dst v) Foreign
      (if is_acceptable_segment s v then acceptable_judgement s v else unacceptable_judgement s v) Calms (λ _ _. inl refl)
      (λ _. cond_both (is_acceptable_segment s v) (acceptable_judgement s v) (unacceptable_judgement s v) Calms (λ _. acceptable-calms opened)
      (λ _. unacceptable-calms opened)))

reading-calms : (s : State) (src dst : List ℕ) (r : Result Content DecodeError) → takes_text s.phase ≡ true → is_reading_let_in s src dst r ≡ false
    → (after_reading s src dst r ≡ s) ⊎ (after_reading s src dst r ≡ with_ack_pending s)
reading-calms s src dst (Ok v) takes e = judged-calms s src v dst takes e
reading-calms s src dst (Err fault) takes e = inl refl

-- the user's call makes the same pending
pending-as : (s : State) → takes_text s.phase ≡ true → after_acknowledge s ≡ with_ack_pending s
unfolding after_acknowledge
pending-as s takes = ap (λ (b : Bool). record s { pending = record s.pending { ack = b } }) (or_right s.pending.ack (takes_text s.phase) takes)

same-at : (w : WorldState) (side : Side) (i : Injection) (s : State) → after_arrival (party_of w side).endpoint i.src i.dst i.bytes ≡ s
    → s ≡ (party_of w side).endpoint → world_with_injection w side i ≡ w
same-at w A i s is same = ap (λ (s : State). record w { a = record w.a { endpoint = s } }) (is ∙ same)
same-at w B i s is same = ap (λ (s : State). record w { b = record w.b { endpoint = s } }) (is ∙ same)

called-at : (w : WorldState) (side : Side) (i : Injection)
    → after_arrival (party_of w side).endpoint i.src i.dst i.bytes ≡ after_acknowledge (party_of w side).endpoint
    → world_with_injection w side i ≡ world_after w (Acknowledge side)
unfolding effect_of party_after_acknowledge
called-at w A i is = ap (λ (s : State). record w { a = record w.a { endpoint = s } }) is
called-at w B i is = ap (λ (s : State). record w { b = record w.b { endpoint = s } }) is

pub blind-calm : BlindIsCalm
unfolding after_arrival
blind-calm w side i takes blind =
    let s = (party_of w side).endpoint in
    elim (reading-calms s i.src i.dst (decode_answer i.src i.dst i.bytes) takes blind.kept_out) [
      | inl none ↦ inl (same-at w side i _ refl none)
      | inr has_pending ↦ inr (called-at w side i (has_pending ∙ sym (pending-as s takes)))
    ]
