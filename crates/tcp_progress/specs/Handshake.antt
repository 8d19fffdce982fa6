-- A HANDSHAKE CAN BE FINISHED (RFC 9293, 3.5): whatever was lost, delayed, repeated, reordered or damaged before both ends were open.
use Rattle.std.specs.Prelude.{◌≡◌, ℕ, suc, true, ◌≤◌, ◌⊎◌, List, length}
use Rattle.std.specs.List.{AllByRecursion}
use Rattle.tcp_conn.specs.declared.phase.Timer.TheVariants.{Retransmit}
use Rattle.tcp_replay.specs.Events.{EventContent, Timer, Emit, Deliver}
use Rattle.tcp_replay.specs.World.{WorldState, world_after_all}
use Rattle.tcp_progress.specs.Settled.{AreOpening, CanReach, HasStreamsOf, IsLive}
use Rattle.tcp_progress.specs.Everywhere.{InEveryWorld}
use Rattle.tcp_progress.specs.Fair.{GotThrough, HasTurns, NoneDiscarded}
use Rattle.tcp_progress.specs.Measure.{left_in}

-- OPEN: each end has the other's SYN, and neither has ended
pub record AreOpen (w : WorldState) : Type 0 where
  pub a : IsLive w.a
  pub b : IsLive w.b

-- each end has the other's SYN, ended or not
pub record HaveSyns (w : WorldState) : Type 0 where
  pub a : w.a.endpoint.receiving.opened ≡ true
  pub b : w.b.endpoint.receiving.opened ≡ true

-- UNAIDED: retransmission timeouts, emissions and deliveries. No user calls anything
abbrev pub IsUnaided : EventContent → Type 0
IsUnaided (Timer side Retransmit) = Unit {0}
IsUnaided (Emit side) = Unit {0}
IsUnaided (Deliver from k) = Unit {0}
IsUnaided other = ⊥

-- what can be reached so, by no more than this many events, none of which is refused
pub record CanReachUnaided (count : ℕ) (P : WorldState → Type 0) (w : WorldState) : Type 0 where
  pub way : CanReach P w
  pub unaided : AllByRecursion IsUnaided way.events
  pub most : length way.events ≤ count

-- WHILE THEY ARE OPENING THE CONNECTION eight events lead to both being open: for each of the two SYNs, at most, the emission
-- of a waiting reset, the timeout, the emission and the delivery
abbrev pub CanOpen : WorldState → Type 0
CanOpen w = AreOpening w.a w.b ⊎ AreOpening w.b w.a → CanReachUnaided 8 (λ v. AreOpen v × HasStreamsOf w v) w

abbrev pub HandshakesCanBeFinished : Type 0
HandshakesCanBeFinished = InEveryWorld CanOpen

-- WHO IS SERVED WHILE THE CONNECTION IS OPENED gets through. Among calm events, at most two turns open it, so that each end
-- has the other's SYN. As many more as what is left, and one more, deliver all, unless an end is reset
abbrev pub OpensAndGetsThrough : WorldState → Type 0
OpensAndGetsThrough w =
    AreOpening w.a w.b ⊎ AreOpening w.b w.a → (events : List EventContent) → HasTurns (suc (suc (suc (left_in w)))) w events
    → NoneDiscarded (world_after_all w events) → HaveSyns (world_after_all w events) × GotThrough w (world_after_all w events)

abbrev pub WhoIsServedOpens : Type 0
WhoIsServedOpens = InEveryWorld OpensAndGetsThrough
