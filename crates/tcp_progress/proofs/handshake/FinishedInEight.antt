-- A HANDSHAKE CAN BE FINISHED (RFC 9293, 3.5) by at most eight events: who calls is served, its SYN comes, who answers is served, and its SYN comes.
-- What is refused of them changes nothing.
use Rattle.tcp_replay.proofs.Words.{◌+◌, ap, arith, Bool, Deliver, due_of, Emit, EventContent, false, inl, inr, length, None, Option, other, party_of, PartyState}
use Rattle.tcp_replay.proofs.Words.{Phase, refl, refusal_of, Retransmit, Some, State, stay_or, suc, Syn, SynReceived, SynSent, Timer, true, world_after}
use Rattle.tcp_replay.proofs.Words.{world_with_effect, WorldState, zero, ℕ, ◌∙◌, ◌≡◌, ◌≤◌}
use Rattle.tcp_progress.proofs.Words.{A, after_emissions, AreOpen, B, CanOpen, CanReachUnaided, HandshakesCanBeFinished, HasStreamsOf, IsQuiet, IsUnaided}
use Rattle.tcp_progress.proofs.Words.{Side, StepError}
use Rattle.tcp_progress.proofs.Lemmas.{emit-at, emit-endpoint, in-every-world, IsKept, side-pair, Steps, steps-event, steps-streams, steps-then}
use Rattle.tcp_progress.proofs.Lemmas.{still-emission, still-retransmit, timer-at, timer-endpoint, twice}
use Rattle.tcp_progress.proofs.handshake.KeepsOpening.{answerer, both-open, IsPassive}
use Rattle.tcp_progress.proofs.handshake.SynServed.{Heard, speaker-is, Speaks, speaks-still, syn-goes, syn-heard}
use Rattle.tcp_progress.proofs.{turn.Asking.syn-after, turn.CalmWorlds.steps-none, turn.Live.reach-here, turn.Live.reach-step}

-- ---- WHAT IS REACHED after an event, refused or not, is reached from before it
unaided-quiet : (event : EventContent) → IsUnaided event → IsQuiet event
unaided-quiet (Timer side Retransmit) h = tt
unaided-quiet (Emit side) h = tt
unaided-quiet (Deliver from k) h = tt
unaided-quiet other h = absurd h

stay-short : {P : WorldState → Type 0} (n m : ℕ) (w : WorldState) (event : EventContent) (refusal : Option StepError) → suc n ≤ m → IsUnaided event
    → refusal_of w event ≡ refusal → CanReachUnaided n P (stay_or refusal w (world_with_effect w event)) → CanReachUnaided m P w
unfolding reach-step
stay-short n m w event None least unaided goes short = record {
  way = reach-step event (unaided-quiet event unaided) goes short.way;
  unaided = (unaided, short.unaided);
  most = omega (arith, least, short.most);
}
stay-short n m w event (Some error) least unaided refused short =
    record { way = short.way; unaided = short.unaided; most = omega (arith, least, short.most) }

then-short : {P : WorldState → Type 0} (n m : ℕ) (w : WorldState) (event : EventContent) → suc n ≤ m → IsUnaided event
    → CanReachUnaided n P (world_after w event) → CanReachUnaided m P w
then-short n m w event least unaided short = stay-short n m w event (refusal_of w event) least unaided refl short

-- ---- ONE SPEAKS: once it is heard, and its phase is what it was, something is reached by so many events more
module _ (P : WorldState → Type 0) (m : ℕ) (told : Bool) (start : WorldState) (side : Side) (phase : Phase)
    (next : (v : WorldState) → Steps start v → (party_of v side).endpoint.phase ≡ phase → Heard told (party_of v (other side)) → CanReachUnaided m P v) where
  -- its SYN is due after so many emissions: it goes out, and comes
  emitted-short : (count : ℕ) (w : WorldState) → Steps start w → (party_of w side).endpoint.phase ≡ phase → Speaks told (party_of w side) (party_of w (other side))
      → due_of (after_emissions count (party_of w side).endpoint) ≡ Some Syn → CanReachUnaided (count + (2 + m)) P w
  emitted-short zero w steps same is due =
      let v = world_after w (Emit side) in
      let k = length (party_of w side).sent in
      let u = world_after v (Deliver side k) in
      let still = still-emission (party_of w side) in
      let is' = emit-at (λ x y. Speaks told x y) w side (speaks-still told _ _ _ still is) in
      let same' = emit-at (λ x _. x.endpoint.phase ≡ phase) w side (still.phase ∙ same) in
      let steps' = steps-then start w v steps (steps-event w (Emit side) tt steps.kept) in
      let steps'' = steps-then start v u steps' (steps-event v (Deliver side k) tt steps'.kept) in
      let had = syn-heard told v side k steps'.kept is' (syn-goes told w side steps.kept is due) in
      let reached = next u steps'' (ap (λ (x : PartyState). x.endpoint.phase) had.0 ∙ same') had.1 in
      then-short (suc m) (zero + (2 + m)) w (Emit side) (omega arith) tt (then-short m (suc m) v (Deliver side k) (omega arith) tt reached)
  emitted-short (suc count) w steps same is due =
      let v = world_after w (Emit side) in
      let still = still-emission (party_of w side) in
      let is' = emit-at (λ x y. Speaks told x y) w side (speaks-still told _ _ _ still is) in
      let same' = emit-at (λ x _. x.endpoint.phase ≡ phase) w side (still.phase ∙ same) in
      let steps' = steps-then start w v steps (steps-event w (Emit side) tt steps.kept) in
      let due' = ap (λ (t : State). due_of (after_emissions count t)) (emit-endpoint w side) ∙ due in
      then-short (count + (2 + m)) (suc count + (2 + m)) w (Emit side) (omega arith) tt (emitted-short count v steps' same' is' due')

  -- so it is after its timeout
  served-short : (w : WorldState) → Steps start w → (party_of w side).endpoint.phase ≡ phase → Speaks told (party_of w side) (party_of w (other side))
      → CanReachUnaided (4 + m) P w
  served-short w steps same is =
      let p = party_of w side in
      let v = world_after w (Timer side Retransmit) in
      let still = still-retransmit p in
      let out = syn-after p.endpoint (speaker-is told p (party_of w (other side)) (side-pair w side steps.kept) is).0 in
      let is' = timer-at (λ x y. Speaks told x y) w side (speaks-still told _ _ _ still is) in
      let same' = timer-at (λ x _. x.endpoint.phase ≡ phase) w side (still.phase ∙ same) in
      let steps' = steps-then start w v steps (steps-event w (Timer side Retransmit) tt steps.kept) in
      let due = ap (λ (t : State). due_of (after_emissions out.0 t)) (timer-endpoint w side) ∙ out.2 in
      then-short (out.0 + (2 + m)) (4 + m) w (Timer side Retransmit) (omega (arith, out.1)) tt (emitted-short out.0 v steps' same' is' due)

-- ---- BOTH ARE OPEN, of the same streams
abbrev IsOpened : WorldState → WorldState → Type 0
IsOpened start v = AreOpen v × HasStreamsOf start v

-- WHO ANSWERS is served, and its SYN comes
answer-short : (start w : WorldState) (side : Side) → Steps start w → (party_of w side).endpoint.phase ≡ SynSent
    → (party_of w (other side)).endpoint.phase ≡ SynReceived → CanReachUnaided 4 (IsOpened start) w
unfolding reach-here
answer-short start w side steps calls received =
    served-short (IsOpened start) 0 true start (other side) SynReceived (λ v steps' received' live.
    let both = both-open v side (rw (twice side) at live) (answerer v side steps'.kept received') in
    record { way = reach-here (both, steps-streams start v steps'); unaided = tt; most = omega arith }) w steps received (received, rw (twice side) calls)

-- WHO CALLS is served before, where the other listens
call-short : (w : WorldState) (side : Side) → IsKept w → (party_of w side).endpoint.phase ≡ SynSent → IsPassive (party_of w (other side)).endpoint.phase
    → CanReachUnaided 8 (IsOpened w) w
call-short w side h calls (inr received) =
    let short = answer-short w w side (steps-none w h) calls received in
    record { way = short.way; unaided = short.unaided; most = omega (arith, short.most) }
call-short w side h calls (inl listens) =
    served-short (IsOpened w) 4 false w side SynSent (λ v steps calls' received. answer-short w v side steps calls' received) w (steps-none w h) calls
    (calls, listens)

pub can-open : (w : WorldState) → IsKept w → CanOpen w
can-open w h (inl opening) = call-short w A h opening.calls opening.answers
can-open w h (inr opening) = call-short w B h opening.calls opening.answers

-- in every world
pub handshake_lem : HandshakesCanBeFinished
handshake_lem = in-every-world CanOpen can-open
