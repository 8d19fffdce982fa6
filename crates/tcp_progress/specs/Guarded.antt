-- TWO GUARDED ENDS (RFC 5961, 5.2): a guard that reaches as far as segments live keeps out nothing that a world delivers, so that
-- each law of two ends among strangers holds of two guarded ones, to whom strangers may send far more.
use Rattle.std.specs.Prelude.{◌≡◌, ℕ, ◌≤◌, false, List, Some, slice_get}
use Rattle.tcp_halves.specs.Config.{IsConfig}
use Rattle.tcp_halves.specs.declared.config.Config.{Config}
use Rattle.tcp_conn.specs.Guard.{keeps_out}
use Rattle.tcp_replay.specs.Among.{Happening}
use Rattle.tcp_replay.specs.Events.{EventContent, HasBytes}
use Rattle.tcp_replay.specs.Guarded.{AreFairToGuard, after_all_guarded, guarded_after}
use Rattle.tcp_replay.specs.declared.event.Side.{Side}
use Rattle.tcp_replay.specs.Safe.{IsSafe, HintsAreTrue, FindsDamage}
use Rattle.tcp_replay.specs.World.{WorldState, PartyState, SentSegment, is_expired, max_life, world_after, world_with_runs}
use Rattle.tcp_progress.specs.Fair.{BurstEnds, CanHaveTurns, GetsThrough, NeverGrows, NoneDiscarded}
use Rattle.tcp_progress.specs.Half.{CanHaveHalves, GetsThroughByHalves}
use Rattle.tcp_progress.specs.Handshake.{CanOpen, OpensAndGetsThrough}
use Rattle.tcp_progress.specs.Sent.{TakeOnlySent}
use Rattle.tcp_progress.specs.Settled.{IsLive, IsNotStuck, least_life}
use Rattle.tcp_progress.specs.Steady.{IsSteady}
use Rattle.tcp_progress.specs.WithRuns.{InEveryWorldAmongStrangersWithRuns}

-- ---- WHAT LIVES PASSES: a segment that x emitted, and whose lifetime isn't over at y, isn't kept out there by a guard that
-- reaches as far as segments live, or farther
abbrev pub LetsInWhatLives : ℕ → PartyState → PartyState → Type 0
LetsInWhatLives life x y =
    (reach k : ℕ) (g : SentSegment) → life ≤ reach → slice_get x.sent k ≡ Some g → is_expired life y.endpoint g ≡ false
    → keeps_out reach y.endpoint x.endpoint.config.addr.0 y.endpoint.config.addr.0 g.bytes ≡ false

pub record LetInWhatLives (w : WorldState) : Type 0 where
  pub there : LetsInWhatLives w.life w.a w.b
  pub back : LetsInWhatLives w.life w.b w.a

abbrev pub WhatLivesPasses : Type 0
WhatLivesPasses = InEveryWorldAmongStrangersWithRuns LetInWhatLives

-- ---- IN EVERY WORLD OF TWO GUARDED ENDS, over every list of what happens, where each injection is blind to the guard when it
-- comes, whatever the Configs and the numbers of runs, and however long segments live from `least_life` on: however far the guards
-- reach,
abbrev pub InEveryWorldOfGuards : (WorldState → Type 0) → Type 0
InEveryWorldOfGuards Holds =
    (life reach : ℕ) (a b : Config) (runs_a runs_b : ℕ) (list : List Happening) → least_life ≤ life → life ≤ max_life
    → IsConfig a → IsConfig b → AreFairToGuard reach (world_with_runs life a b runs_a runs_b) list
    → Holds (after_all_guarded reach (world_with_runs life a b runs_a runs_b) list)

-- and where they reach as far as segments live
abbrev pub InEveryGuardedWorld : (WorldState → Type 0) → Type 0
InEveryGuardedWorld Holds =
    (life reach : ℕ) (a b : Config) (runs_a runs_b : ℕ) (list : List Happening) → least_life ≤ life → life ≤ max_life → life ≤ reach
    → IsConfig a → IsConfig b → AreFairToGuard reach (world_with_runs life a b runs_a runs_b) list
    → Holds (after_all_guarded reach (world_with_runs life a b runs_a runs_b) list)

-- EACH EVENT IS THERE WHAT IT IS WITHOUT GUARDS, so that what is said of a guarded world's next events is so of guarded ends
abbrev pub GuardedEventsAreEvents : Type 0
GuardedEventsAreEvents =
    (life reach : ℕ) (a b : Config) (runs_a runs_b : ℕ) (list : List Happening) → least_life ≤ life → life ≤ max_life → life ≤ reach
    → IsConfig a → IsConfig b → AreFairToGuard reach (world_with_runs life a b runs_a runs_b) list → (event : EventContent) → HasBytes event
    → guarded_after reach (after_all_guarded reach (world_with_runs life a b runs_a runs_b) list) event
    ≡ world_after (after_all_guarded reach (world_with_runs life a b runs_a runs_b) list) event

-- each end is handed a beginning of what the other accepted, what is acknowledged has come, and damage is found: whatever the
-- reach, since what a guard keeps out changes nothing but what is pending
pub record GuardedIsSafe : Type 0 where
  pub safe : InEveryWorldOfGuards IsSafe
  pub hints : InEveryWorldOfGuards HintsAreTrue
  pub damage : InEveryWorldOfGuards FindsDamage
  pub steady : InEveryWorldOfGuards IsSteady
  pub taken : InEveryWorldOfGuards TakeOnlySent

-- and the two go on
pub record GuardedGoesOn : Type 0 where
  pub as_without : GuardedEventsAreEvents
  pub not_stuck : InEveryGuardedWorld IsNotStuck
  pub opens : InEveryGuardedWorld CanOpen
  pub served : InEveryGuardedWorld GetsThrough
  pub served_opens : InEveryGuardedWorld OpensAndGetsThrough
  pub half_turns : InEveryGuardedWorld GetsThroughByHalves
  pub turns : InEveryGuardedWorld (λ w. NoneDiscarded w → (n : ℕ) → CanHaveTurns n w)
  pub halves : InEveryGuardedWorld (λ w. IsLive w.a → IsLive w.b → (n : ℕ) → CanHaveHalves n w)
  pub bursts : InEveryGuardedWorld (λ w. (side : Side) → BurstEnds w side)
  pub left : InEveryGuardedWorld NeverGrows
