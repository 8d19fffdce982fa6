-- NO WORLD IS STUCK (RFC 9293, 3.8): whatever was lost, delayed, repeated, reordered or damaged, there is always a way on.
use Rattle.std.specs.Prelude.{◌≡◌, ℕ, ◌*◌, ◌≤◌, true, false, List, length, None, ◌⊎◌}
use Rattle.std.specs.List.{AllByRecursion}
use Rattle.tcp_halves.specs.declared.config.Config.{Config}
use Rattle.tcp_conn.specs.declared.phase.Ending.TheVariants.{NotEnded, Orderly}
use Rattle.tcp_conn.specs.declared.phase.Phase.TheVariants.{Listen, SynSent, SynReceived}
use Rattle.tcp_halves.specs.Sender.{is_fin_acked}
use Rattle.tcp_sendq.specs.SendQueue.{max_capacity}
use Rattle.tcp_halves.specs.Config.{IsConfig}
use Rattle.tcp_replay.specs.Events.{EventContent, HasBytes, Receive, Timer, Emit, Deliver}
use Rattle.tcp_replay.specs.World.{WorldState, PartyState, max_life, new_world_with, stop_of, run_of, world_after_all}
use Rattle.tcp_replay.specs.Safe.{count_released, has_discarded}

-- QUIET: what clock, network and the users who read do. No user calls anything else, and nothing is damaged
abbrev pub IsQuiet : EventContent → Type 0
IsQuiet (Receive side room) = Unit {0}
IsQuiet (Timer side which) = Unit {0}
IsQuiet (Emit side) = Unit {0}
IsQuiet (Deliver from k) = Unit {0}
IsQuiet other = ⊥

-- WHAT CAN BE REACHED by some finite list of quiet events, none of which is refused
pub record CanReach (P : WorldState → Type 0) (w : WorldState) : Type 0 where
  pub events : List EventContent
  pub quiet : AllByRecursion IsQuiet events
  pub goes_on : stop_of w events ≡ None
  pub reached : P (run_of w events)

-- LIVE: the peer's SYN was taken, and the connection hasn't ended
pub record IsLive (x : PartyState) : Type 0 where
  pub opened : x.endpoint.receiving.opened ≡ true
  pub goes_on : x.endpoint.ending ≡ NotEnded

-- THEY ARE OPENING THE CONNECTION (RFC 9293, 3.5), x towards y: x has sent its SYN and waits for y's, in SYN-SENT (3.10.7.3).
-- y waits for a SYN, in LISTEN (3.10.7.2), or has taken x's and waits for the acknowledgement of its own, in SYN-RECEIVED
-- (3.10.7.4). In none of these states has a connection ended
pub record AreOpening (x y : PartyState) : Type 0 where
  pub calls : x.endpoint.phase ≡ SynSent
  pub answers : (y.endpoint.phase ≡ Listen) ⊎ (y.endpoint.phase ≡ SynReceived)

-- ENDED IN ORDER, x before y or both (RFC 9293, 3.6): x has ended in order, and y's FIN is acknowledged to it; y wasn't reset
-- or aborted. Where TIME-WAIT expired at x before the acknowledgement of y's FIN came, nobody is left to acknowledge it
pub record HasEndedInOrder (x y : PartyState) : Type 0 where
  pub over : x.endpoint.ending ≡ Orderly
  pub fin_acked : is_fin_acked y.endpoint.sending ≡ true
  pub stays : has_discarded y ≡ false

-- THROUGH, from x to y: all that x accepted was delivered to y's user, and all of it is acknowledged to x. Where x's user
-- closed, the end of the stream was delivered to y's, and the FIN is acknowledged to x; and x wasn't reset or aborted
pub record IsThrough (x y : PartyState) : Type 0 where
  pub delivered : y.delivered ≡ x.accepted
  pub released : count_released x ≡ length x.accepted
  pub ended : x.closed ≡ true → y.ended ≡ true
  pub fin_acked : x.closed ≡ true → is_fin_acked x.endpoint.sending ≡ true
  pub stays : has_discarded x ≡ false

-- SETTLED: through both ways; and where both users closed, both ends ended in order
pub record IsSettled (w : WorldState) : Type 0 where
  pub there : IsThrough w.a w.b
  pub back : IsThrough w.b w.a
  pub orderly : w.a.closed ≡ true → w.b.closed ≡ true → (w.a.endpoint.ending ≡ Orderly) × (w.b.endpoint.ending ≡ Orderly)

-- OF THE SAME STREAMS: nothing more was accepted, and no user closed
pub record HasStreamsOf (w v : WorldState) : Type 0 where
  pub accepted_of_a : v.a.accepted ≡ w.a.accepted
  pub accepted_of_b : v.b.accepted ≡ w.b.accepted
  pub closed_of_a : v.a.closed ≡ w.a.closed
  pub closed_of_b : v.b.closed ≡ w.b.closed

-- THERE IS A WAY ON, to a settled world of the same streams
abbrev pub CanSettle : WorldState → Type 0
CanSettle w = CanReach (λ v. IsSettled v × HasStreamsOf w v) w

-- NOT STUCK: there is a way on while both ends are live, while they are opening the connection, and once an end has ended in
-- order
pub record IsNotStuck (w : WorldState) : Type 0 where
  pub live : IsLive w.a → IsLive w.b → CanSettle w
  pub opening : AreOpening w.a w.b ⊎ AreOpening w.b w.a → CanSettle w
  pub ended : HasEndedInOrder w.a w.b ⊎ HasEndedInOrder w.b w.a → CanSettle w

-- the shortest lifetime of segments for which this is claimed, twice the capacity of a queue: what is in flight is a SYN or
-- FIN and no more text than a queue holds, so that nothing of it expires
abbrev pub least_life : ℕ
least_life = 2 * max_capacity

-- over every list of events, whatever the Configs of the two ends, however long segments live from that on, and whether a run
-- stops at a refusal or continues
abbrev pub NoWorldIsStuck : Type 0
NoWorldIsStuck =
    (life : ℕ) (a b : Config) (list : List EventContent) → least_life ≤ life → life ≤ max_life → IsConfig a → IsConfig b → AllByRecursion HasBytes list
    → IsNotStuck (run_of (new_world_with life a b) list) × IsNotStuck (world_after_all (new_world_with life a b) list)
