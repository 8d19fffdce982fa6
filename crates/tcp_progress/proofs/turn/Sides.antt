-- THE WORLD FROM ONE SIDE: what its emissions, its timeout and its deliveries do to it and to the other.
use Rattle.tcp_replay.proofs.Words.{after_emission, after_retransmit, Deliver, delivery_refusal, Effect, effect_of, Emit, EventContent, None, Option, other}
use Rattle.tcp_replay.proofs.Words.{party_after_arrival, party_after_emission, party_after_timer, party_of, PartyState, refl, refusal_of, Retransmit}
use Rattle.tcp_replay.proofs.Words.{segment_at, side_of, Some, stay_or, subst, sym, Timer, world_after, world_from, world_with_effect, WorldState, ℕ, ◌≡◌}
use Rattle.tcp_progress.proofs.Words.{A, B, Side, StepError}
use Rattle.tcp_replay.specs.World.{effect_in}

-- the other of the other side is the side itself
pub twice : (side : Side) → other (other side) ≡ side
twice A = refl
twice B = refl

-- a side is one of two
pub either-side : (first side : Side) (P : Side → Type 0) → P first → P (other first) → P side
either-side A A P one two = one
either-side A B P one two = two
either-side B B P one two = one
either-side B A P one two = two

-- what holds of both holds of either
pub on-both : (P : Side → Type 0) → P A → P B → (side : Side) → P side
on-both P a b A = a
on-both P a b B = b

-- something of the world after an event, refused or not
pub after-either : (P : WorldState → Type 0) (refusal : Option StepError) (w v : WorldState) → P w → (refusal ≡ None → P v) → P (stay_or refusal w v)
after-either P None w v here there = there refl
after-either P (Some error) w v here there = here

-- AN EVENT AS EACH SIDE SEES IT: what it does to the party whose side it names and to the other, or to the other and to that one
module _ (R : PartyState → PartyState → PartyState → PartyState → Type 0) where
  seen-from : (w : WorldState) (named side : Side) (e : Effect) → (side ≡ named → R (party_of w named) (party_of w (other named)) e.here e.there)
      → R (party_of w (other named)) (party_of w named) e.there e.here → let v = world_from w.life named e.here e.there in
      R (party_of w side) (party_of w (other side)) (party_of v side) (party_of v (other side))
  seen-from w A A e here there = here refl
  seen-from w A B e here there = there
  seen-from w B A e here there = there
  seen-from w B B e here there = here refl

  -- in a world, where the event may be refused
  pub at-event : (w : WorldState) (event : EventContent) (side : Side)
      → R (party_of w side) (party_of w (other side)) (party_of w side) (party_of w (other side))
      → (refusal_of w event ≡ None → side ≡ side_of event
      → R (party_of w (side_of event)) (party_of w (other (side_of event))) (effect_in w event).here (effect_in w event).there)
      → (refusal_of w event ≡ None → R (party_of w (other (side_of event))) (party_of w (side_of event)) (effect_in w event).there (effect_in w event).here)
      → R (party_of w side) (party_of w (other side)) (party_of (world_after w event) side) (party_of (world_after w event) (other side))
  at-event w event side same here there =
      after-either (λ v. R (party_of w side) (party_of w (other side)) (party_of v side) (party_of v (other side))) (refusal_of w event) w
      (world_with_effect w event) same (λ e. seen-from w (side_of event) side (effect_in w event) (here e) (there e))

-- what holds of a party that emitted, and of its peer, holds in the world
pub emit-at : (P : PartyState → PartyState → Type 0) (w : WorldState) (side : Side) → P (party_after_emission (party_of w side)) (party_of w (other side))
    → P (party_of (world_after w (Emit side)) side) (party_of (world_after w (Emit side)) (other side))
unfolding effect_of
emit-at P w A h = h
emit-at P w B h = h

-- of one whose retransmission timeout expired
pub timer-at : (P : PartyState → PartyState → Type 0) (w : WorldState) (side : Side) → P (party_after_timer (party_of w side) Retransmit)
    (party_of w (other side))
    → P (party_of (world_after w (Timer side Retransmit)) side) (party_of (world_after w (Timer side Retransmit)) (other side))
unfolding effect_of
timer-at P w A h = h
timer-at P w B h = h

-- and of one whose segment is delivered to its peer,
pub deliver-at : (P : PartyState → PartyState → Type 0) (w : WorldState) (side : Side) (k : ℕ)
    → delivery_refusal w.life (party_of w side) (party_of w (other side)) k ≡ None
    → P (party_of w side) (party_after_arrival (party_of w (other side)) (party_of w side) (segment_at (party_of w side) k))
    → P (party_of (world_after w (Deliver side k)) side) (party_of (world_after w (Deliver side k)) (other side))
unfolding effect_of
deliver-at P w A k e h = subst (λ (r : Option StepError). let v = stay_or r w (world_with_effect w (Deliver A k)) in P v.a v.b) (sym e) h
deliver-at P w B k e h = subst (λ (r : Option StepError). let v = stay_or r w (world_with_effect w (Deliver B k)) in P v.b v.a) (sym e) h

-- or the peer's to it
pub deliver-to : (P : PartyState → PartyState → Type 0) (w : WorldState) (side : Side) (k : ℕ)
    → delivery_refusal w.life (party_of w (other side)) (party_of w side) k ≡ None
    → P (party_of w (other side)) (party_after_arrival (party_of w side) (party_of w (other side)) (segment_at (party_of w (other side)) k))
    → P (party_of (world_after w (Deliver (other side) k)) (other side)) (party_of (world_after w (Deliver (other side) k)) side)
deliver-to P w A k e h = deliver-at P w B k e h
deliver-to P w B k e h = deliver-at P w A k e h

-- the party, the end and the peer after an emission
pub emit-party : (w : WorldState) (side : Side) → party_of (world_after w (Emit side)) side ≡ party_after_emission (party_of w side)
emit-party w side = emit-at (λ x _. x ≡ party_after_emission (party_of w side)) w side refl

-- its end
pub emit-endpoint : (w : WorldState) (side : Side) → (party_of (world_after w (Emit side)) side).endpoint ≡ after_emission (party_of w side).endpoint
unfolding party_after_emission
emit-endpoint w side = emit-at (λ x _. x.endpoint ≡ after_emission (party_of w side).endpoint) w side refl

-- its peer
pub emit-other : (w : WorldState) (side : Side) → party_of (world_after w (Emit side)) (other side) ≡ party_of w (other side)
emit-other w side = emit-at (λ _ y. y ≡ party_of w (other side)) w side refl

-- the end and the peer after a timeout
pub timer-endpoint : (w : WorldState) (side : Side)
    → (party_of (world_after w (Timer side Retransmit)) side).endpoint ≡ after_retransmit (party_of w side).endpoint
unfolding party_after_timer
timer-endpoint w side = timer-at (λ x _. x.endpoint ≡ after_retransmit (party_of w side).endpoint) w side refl

-- its peer
pub timer-other : (w : WorldState) (side : Side) → party_of (world_after w (Timer side Retransmit)) (other side) ≡ party_of w (other side)
timer-other w side = timer-at (λ _ y. y ≡ party_of w (other side)) w side refl
