-- WHAT ISN'T LET IN keeps whatever every event keeps of two ends, so that what holds in every world holds among strangers (RFC 5961, 1).
use Rattle.tcp_replay.proofs.Words.{[], List, other, party_of, subst, sym, WorldState, ℕ, ◌∷◌, ◌≤◌}
use Rattle.tcp_replay.specs.Among.{after_happening, Happening, Happens, Injection, Injects, IsBlind, IsFair, world_with_injection}
unfoldable use Rattle.tcp_replay.specs.Among.{after_happenings, AreFair}
use Rattle.tcp_replay.proofs.run.Injections.{in-injected, life-injected, sound-injected}
use Rattle.tcp_replay.proofs.run.Worlds as worlds
use Rattle.tcp_progress.specs.Settled.{least_life}
use Rattle.tcp_reasm.specs.Reassembly.{default_runs}
use Rattle.tcp_progress.specs.Among.{InEveryWorldAmongStrangers}
use Rattle.tcp_progress.specs.WithRuns.{InEveryWorldAmongStrangersWithRuns}
use Rattle.tcp_progress.proofs.Words.{Side}
use Rattle.tcp_progress.proofs.{steady.AdvertisedWindows.advertised-kept, steady.AlwaysSteady.IsKept, steady.AlwaysSteady.kept-after}
use Rattle.tcp_progress.proofs.{steady.AlwaysSteady.new-kept, steady.Edges.edges-kept, steady.FinsByState.stages-kept, steady.OnlySent.sent-kept}

pub kept-injected : (w : WorldState) (side : Side) (i : Injection) → IsBlind (party_of w side) (party_of w (other side)) i → IsKept w
    → IsKept (world_with_injection w side i)
kept-injected w side i blind h = record {
  sound = sound-injected w side i blind h.sound;
  all = record {
    sent = in-injected _ _ _ sent-kept w side i blind h.sound.ends h.all.sent;
    advertised = in-injected _ _ _ advertised-kept w side i blind h.sound.ends h.all.advertised;
    edges = in-injected _ _ _ edges-kept w side i blind h.sound.ends h.all.edges;
    stages = in-injected _ _ _ stages-kept w side i blind h.sound.ends h.all.stages;
  };
  least = subst (λ (n : ℕ). least_life ≤ n) (sym (life-injected w side i)) h.least;
}

kept-happening : (w : WorldState) (happening : Happening) → IsFair w happening → IsKept w → IsKept (after_happening w happening)
kept-happening w (Happens event) fits h = worlds.kept-after IsKept kept-after w event fits h
kept-happening w (Injects side i) blind h = kept-injected w side i blind h

pub kept-happenings : (w : WorldState) (list : List Happening) → AreFair w list → IsKept w → IsKept (after_happenings w list)
unfolding after_happenings AreFair
kept-happenings w [] fair h = h
kept-happenings w (happening ∷ list) fair h = kept-happenings (after_happening w happening) list fair.1 (kept-happening w happening fair.0 h)

-- so what all of these worlds keep holds in every world among strangers
pub among-strangers-with-runs : (Holds : WorldState → Type 0) → ((w : WorldState) → IsKept w → Holds w) → InEveryWorldAmongStrangersWithRuns Holds
among-strangers-with-runs Holds holds life a b runs_a runs_b list least most one two fair =
    holds _ (kept-happenings _ list fair (new-kept life a b runs_a runs_b least most one two))

pub among-strangers : (Holds : WorldState → Type 0) → ((w : WorldState) → IsKept w → Holds w) → InEveryWorldAmongStrangers Holds
among-strangers Holds holds life a b list least most one two fair =
    among-strangers-with-runs Holds holds life a b default_runs default_runs list least most one two fair
