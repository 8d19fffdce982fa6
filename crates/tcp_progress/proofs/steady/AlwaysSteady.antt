-- WHAT EVERY WORLD KEEPS is enough for it to be steady.
use Rattle.tcp_replay.proofs.Words.{arith, Config, EventContent, HasBytes, IsConfig, IsSound, IsSoundPair, max_life, world_with_runs, default_runs, None, other, party_of}
use Rattle.tcp_replay.proofs.Words.{PartyState, refusal_of, world_with_effect, WorldState, ℕ, ◌≡◌, ◌≤◌}
use Rattle.tcp_replay.proofs.Lemmas.{Both, both-swapped, in-world, kept-after_all, kept-run, life-after, pair-swapped, sound-after, sound-new}
use Rattle.tcp_progress.proofs.Words.{A, B, EveryWorldIsSteady, InEveryWorld, InEveryWorldWithRuns, IsSteady, IsSteadyEnd, IsSteadyPair, least_life, Side}
use Rattle.tcp_progress.proofs.{steady.OnlySent.KeepsSent, steady.OnlySent.new-sent, steady.OnlySent.sent-kept, steady.OnlySent.takes-only_sent, steady.AdvertisedWindows.KeepsAdvertised}
use Rattle.tcp_progress.proofs.{steady.AdvertisedWindows.new-advertised, steady.AdvertisedWindows.advertises-within, steady.AdvertisedWindows.advertised-kept, steady.Edges.edges-kept, steady.Edges.KeepsEdges, steady.Edges.new-edge}
use Rattle.tcp_progress.proofs.{steady.FinsByState.KeepsStages, steady.FinsByState.new-stages, steady.FinsByState.stage-says, steady.FinsByState.stages-kept, turn.Live.steady-back}

-- two parties
pub record KeepAll (x y : PartyState) : Type 0 where
  pub sent : Both KeepsSent x y
  pub advertised : Both KeepsAdvertised x y
  pub edges : Both KeepsEdges x y
  pub stages : Both KeepsStages x y

pub all-swapped : (p q : PartyState) → KeepAll p q → KeepAll q p
all-swapped p q h =
    assumption

all-after : (w : WorldState) (event : EventContent) → HasBytes event → refusal_of w event ≡ None → IsSound w → KeepAll w.a w.b
    → KeepAll (world_with_effect w event).a (world_with_effect w event).b
all-after w event fits e sound h =
    let tells = advertises-within w.a w.b h.advertised in
    let sent = in-world _ _ _ sent-kept w event sound.life fits e tt tt sound.ends h.sent in
    let told = in-world _ _ _ advertised-kept w event sound.life fits e tt tt sound.ends h.advertised in
    let edges = in-world _ _ _ edges-kept w event sound.life fits e tells.1 tells.0 sound.ends h.edges in
    let stages = in-world _ _ _ stages-kept w event sound.life fits e h.sent (both-swapped KeepsSent w.a w.b h.sent) sound.ends h.stages in
    assumption

-- a world
pub record IsKept (w : WorldState) : Type 0 where
  pub sound : IsSound w
  pub all : KeepAll w.a w.b
  pub least : least_life ≤ w.life

pub kept-after : (w : WorldState) (event : EventContent) → HasBytes event → refusal_of w event ≡ None → IsKept w → IsKept (world_with_effect w event)
kept-after w event fits e h =
    record { sound = sound-after w event fits e h.sound; all = all-after w event fits e h.sound h.all; least = omega (arith, life-after w event, h.least) }

steady-end : (x y : PartyState) → IsSoundPair x y → KeepAll x y → IsSteadyEnd x y
steady-end x y pair h =
    let stage = stage-says x y pair h.stages.there in
    let told = (advertises-within x y h.advertised).0 in
    let sent = takes-only_sent x y h.sent in
    assumption

pub kept-steady : (w : WorldState) → IsKept w → IsSteady w
kept-steady w h = record {
  ends =
      assumption (steady-end w.a w.b h.sound.ends h.all, steady-end w.b w.a (pair-swapped _ _ h.sound.ends) (all-swapped _ _ h.all));
  least = h.least;
  most = h.sound.life;
}

-- from one side
pub side-pair : (w : WorldState) (side : Side) → IsKept w → IsSteadyPair (party_of w side) (party_of w (other side))
side-pair w A h = (kept-steady w h).ends
side-pair w B h = steady-back w.b w.a (kept-steady w h).ends

-- nothing is taken before it is sent, from one side
pub side-sent : (w : WorldState) (side : Side) → IsKept w → Both KeepsSent (party_of w side) (party_of w (other side))
side-sent w A h = h.all.sent
side-sent w B h = both-swapped KeepsSent w.a w.b h.all.sent

-- from the first event on
pub new-kept : (life : ℕ) (a b : Config) (runs_a runs_b : ℕ) → least_life ≤ life → life ≤ max_life → IsConfig a → IsConfig b
    → IsKept (world_with_runs life a b runs_a runs_b)
new-kept life a b runs_a runs_b least most one two = record {
  sound = sound-new life a b runs_a runs_b most one two;
  all = record {
    sent = record { there = new-sent a b runs_a runs_b; back = new-sent b a runs_b runs_a };
    advertised = record { there = new-advertised a b runs_a runs_b; back = new-advertised b a runs_b runs_a };
    edges = record { there = new-edge a b runs_a runs_b; back = new-edge b a runs_b runs_a };
    stages = record { there = new-stages a b runs_a runs_b; back = new-stages b a runs_b runs_a };
  };
  least = least;
}

-- what all of these worlds keep holds in every world
pub in-every-world-with-runs : (Holds : WorldState → Type 0) → ((w : WorldState) → IsKept w → Holds w) → InEveryWorldWithRuns Holds
in-every-world-with-runs Holds holds life a b runs_a runs_b list least most one two fits =
    let w = world_with_runs life a b runs_a runs_b in
    let start = new-kept life a b runs_a runs_b least most one two in
    (holds _ (kept-run IsKept kept-after w list fits start), holds _ (kept-after_all IsKept kept-after w list fits start))

-- with the default number of each end, too
pub in-every-world : (Holds : WorldState → Type 0) → ((w : WorldState) → IsKept w → Holds w) → InEveryWorld Holds
in-every-world Holds holds life a b list least most one two fits =
    in-every-world-with-runs Holds holds life a b default_runs default_runs list least most one two fits

pub steady_lem : EveryWorldIsSteady
steady_lem = in-every-world IsSteady kept-steady
