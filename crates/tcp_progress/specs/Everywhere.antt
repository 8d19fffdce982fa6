-- IN EVERY WORLD that two ends can come to, where segments live long enough for a way on.
use Rattle.std.specs.Prelude.{ℕ, ◌≤◌, List}
use Rattle.std.specs.List.{AllByRecursion}
use Rattle.tcp_halves.specs.declared.config.Config.{Config}
use Rattle.tcp_halves.specs.Config.{IsConfig}
use Rattle.tcp_replay.specs.Events.{EventContent, HasBytes}
use Rattle.tcp_replay.specs.World.{WorldState, max_life, new_world_with, run_of, world_after_all}
use Rattle.tcp_progress.specs.Settled.{least_life}

-- over every list of events, whatever the Configs of the two ends, however long segments live from `least_life` on, and
-- whether a run stops at a refusal or continues
abbrev pub InEveryWorld : (WorldState → Type 0) → Type 0
InEveryWorld Holds =
    (life : ℕ) (a b : Config) (list : List EventContent) → least_life ≤ life → life ≤ max_life → IsConfig a → IsConfig b → AllByRecursion HasBytes list
    → Holds (run_of (new_world_with life a b) list) × Holds (world_after_all (new_world_with life a b) list)
