-- The steady facts of the ends of a world: what the laws of one end require of it, x towards y.
use Rattle.std.specs.Prelude.{ℕ, ◌≤◌, IfSome, List}
use Rattle.tcp_halves.specs.Config.{min_mss}
use Rattle.tcp_halves.specs.Receiver.{HoldsWithin}
use Rattle.std.specs.List.{AllByRecursion}
use Rattle.tcp_halves.specs.declared.config.Config.{Config}
use Rattle.tcp_halves.specs.Config.{IsConfig}
use Rattle.tcp_replay.specs.Events.{EventContent, HasBytes}
use Rattle.tcp_replay.specs.World.{WorldState, PartyState, max_life, new_world_with, run_of, world_after_all}
use Rattle.tcp_replay.specs.Sound.{IsSoundPair}
use Rattle.tcp_progress.specs.Sent.{TakesOnlySent}
use Rattle.tcp_progress.specs.Settled.{least_life}
use Rattle.tcp_progress.specs.Stage.{SaysByPhase, KnowsPort, ReleasesAll}
use Rattle.tcp_progress.specs.Edge.{AdvertisesWithin, IsWithinReach}

pub record IsSteadyEnd (x y : PartyState) : Type 0 where
  -- what its state says of both FINs, whose port it knows, and what it has acknowledged in LAST-ACK
  pub stage : SaysByPhase x.endpoint.phase x.endpoint
  pub port : KnowsPort x y
  pub last : ReleasesAll x y
  -- segments have room for text, and the receive buffer for a window
  pub mss : min_mss ≤ x.endpoint.link.peer_mss
  pub within : HoldsWithin x.endpoint.config.recv_capacity x.endpoint.receiving.inbox
  -- the window that it advertised fits its room
  pub advertised : AdvertisesWithin x y
  -- what it sent is within the peer's reach, what has to be sent again was sent, and the peer took nothing else
  pub edge : IsWithinReach x y
  pub range : IfSome x.endpoint.sending.resend (λ range. range.end ≤ x.endpoint.sending.snd_nxt)
  pub sent : TakesOnlySent x y

pub record IsSteadyPair (x y : PartyState) : Type 0 where
  pub pair : IsSoundPair x y
  pub there : IsSteadyEnd x y
  pub back : IsSteadyEnd y x

pub record IsSteady (w : WorldState) : Type 0 where
  pub ends : IsSteadyPair w.a w.b
  pub least : least_life ≤ w.life
  pub most : w.life ≤ max_life

-- EVERY WORLD IS STEADY, over every list of events
abbrev pub EveryWorldIsSteady : Type 0
EveryWorldIsSteady =
    (life : ℕ) (a b : Config) (list : List EventContent) → least_life ≤ life → life ≤ max_life → IsConfig a → IsConfig b → AllByRecursion HasBytes list
    → IsSteady (run_of (new_world_with life a b) list) × IsSteady (world_after_all (new_world_with life a b) list)
