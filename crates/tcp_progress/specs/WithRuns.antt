-- THE LAWS OF EVERY WORLD whatever number of runs either end keeps out of order and remembers of its peer's (RFC 9293, 3.10.7.4,
-- and RFC 2018, 5).
use Rattle.std.specs.Prelude.{ℕ, ◌≤◌, List}
use Rattle.std.specs.List.{AllByRecursion}
use Rattle.tcp_halves.specs.declared.config.Config.{Config}
use Rattle.tcp_halves.specs.Config.{IsConfig}
use Rattle.tcp_replay.specs.Among.{AreFair, Happening, after_happenings}
use Rattle.tcp_replay.specs.declared.event.Side.{Side}
use Rattle.tcp_replay.specs.Events.{EventContent, HasBytes}
use Rattle.tcp_replay.specs.World.{WorldState, max_life, world_with_runs, run_of, world_after_all}
use Rattle.tcp_progress.specs.Fair.{BurstEnds, CanHaveTurns, GetsThrough, NeverGrows, NoneDiscarded}
use Rattle.tcp_progress.specs.Half.{CanHaveHalves, GetsThroughByHalves}
use Rattle.tcp_progress.specs.Handshake.{CanOpen, OpensAndGetsThrough}
use Rattle.tcp_progress.specs.Sent.{TakeOnlySent}
use Rattle.tcp_progress.specs.Settled.{IsLive, IsNotStuck, least_life}
use Rattle.tcp_progress.specs.Steady.{IsSteady}

-- over every list of events, as in every world whose ends keep the default number
abbrev pub InEveryWorldWithRuns : (WorldState → Type 0) → Type 0
InEveryWorldWithRuns Holds =
    (life : ℕ) (a b : Config) (runs_a runs_b : ℕ) (list : List EventContent) → least_life ≤ life → life ≤ max_life → IsConfig a → IsConfig b
    → AllByRecursion HasBytes list
    → Holds (run_of (world_with_runs life a b runs_a runs_b) list) × Holds (world_after_all (world_with_runs life a b runs_a runs_b) list)

abbrev pub EveryWorldIsSteadyWithRuns : Type 0
EveryWorldIsSteadyWithRuns = InEveryWorldWithRuns IsSteady

abbrev pub NoWorldIsStuckWithRuns : Type 0
NoWorldIsStuckWithRuns = InEveryWorldWithRuns IsNotStuck

abbrev pub HandshakesCanBeFinishedWithRuns : Type 0
HandshakesCanBeFinishedWithRuns = InEveryWorldWithRuns CanOpen

abbrev pub WhoIsServedGetsThroughWithRuns : Type 0
WhoIsServedGetsThroughWithRuns = InEveryWorldWithRuns GetsThrough

abbrev pub WhoIsServedOpensWithRuns : Type 0
WhoIsServedOpensWithRuns = InEveryWorldWithRuns OpensAndGetsThrough

abbrev pub TurnsCanBeHadWithRuns : Type 0
TurnsCanBeHadWithRuns = InEveryWorldWithRuns (λ w. NoneDiscarded w → (n : ℕ) → CanHaveTurns n w)

abbrev pub EachBurstEndsWithRuns : Type 0
EachBurstEndsWithRuns = InEveryWorldWithRuns (λ w. (side : Side) → BurstEnds w side)

abbrev pub WhatIsLeftNeverGrowsWithRuns : Type 0
WhatIsLeftNeverGrowsWithRuns = InEveryWorldWithRuns NeverGrows

abbrev pub HalfTurnsGetThroughWithRuns : Type 0
HalfTurnsGetThroughWithRuns = InEveryWorldWithRuns GetsThroughByHalves

abbrev pub HalvesCanBeHadWithRuns : Type 0
HalvesCanBeHadWithRuns = InEveryWorldWithRuns (λ w. IsLive w.a → IsLive w.b → (n : ℕ) → CanHaveHalves n w)

-- however long segments live
abbrev pub NothingIsTakenBeforeItIsSentWithRuns : Type 0
NothingIsTakenBeforeItIsSentWithRuns =
    (life : ℕ) (a b : Config) (runs_a runs_b : ℕ) (list : List EventContent) → life ≤ max_life → IsConfig a → IsConfig b → AllByRecursion HasBytes list
    → TakeOnlySent (run_of (world_with_runs life a b runs_a runs_b) list) × TakeOnlySent (world_after_all (world_with_runs life a b runs_a runs_b) list)

-- ---- AMONG STRANGERS, each of whose injections is blind when it comes
abbrev pub InEveryWorldAmongStrangersWithRuns : (WorldState → Type 0) → Type 0
InEveryWorldAmongStrangersWithRuns Holds =
    (life : ℕ) (a b : Config) (runs_a runs_b : ℕ) (list : List Happening) → least_life ≤ life → life ≤ max_life → IsConfig a → IsConfig b
    → AreFair (world_with_runs life a b runs_a runs_b) list → Holds (after_happenings (world_with_runs life a b runs_a runs_b) list)

pub record SteadyAmongStrangersWithRuns : Type 0 where
  pub steady : InEveryWorldAmongStrangersWithRuns IsSteady
  pub taken : InEveryWorldAmongStrangersWithRuns TakeOnlySent

pub record GoesOnAmongStrangersWithRuns : Type 0 where
  pub not_stuck : InEveryWorldAmongStrangersWithRuns IsNotStuck
  pub opens : InEveryWorldAmongStrangersWithRuns CanOpen
  pub served : InEveryWorldAmongStrangersWithRuns GetsThrough
  pub served_opens : InEveryWorldAmongStrangersWithRuns OpensAndGetsThrough
  pub half_turns : InEveryWorldAmongStrangersWithRuns GetsThroughByHalves
  pub turns : InEveryWorldAmongStrangersWithRuns (λ w. NoneDiscarded w → (n : ℕ) → CanHaveTurns n w)
  pub halves : InEveryWorldAmongStrangersWithRuns (λ w. IsLive w.a → IsLive w.b → (n : ℕ) → CanHaveHalves n w)
  pub bursts : InEveryWorldAmongStrangersWithRuns (λ w. (side : Side) → BurstEnds w side)
  pub left : InEveryWorldAmongStrangersWithRuns NeverGrows
