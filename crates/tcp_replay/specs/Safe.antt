-- THE HEADLINE: the facts of two ends after every list of events (RFC 9293, 3.3.1 and 3.4).
use Rattle.std.specs.Prelude.{◌≡◌, ℕ, ◌+◌, ◌≤◌, Bool, true, false, if◌then◌else◌, List, ◌++◌, length, drop, Some, None, slice_get, Ok}
use Rattle.tcp_wire.specs.Flags.{rst, has}
use Rattle.tcp_wire.specs.Wire.{Content}
use Rattle.tcp_wire.specs.Decoded.{decode_answer}
use Rattle.tcp_sendq.specs.SendQueue.{IsMarked}
use Rattle.std.specs.List.{AllByRecursion}
use Rattle.tcp_wire.specs.declared.fault.DecodeError.TheVariants.{BadChecksum}
use Rattle.tcp_halves.specs.declared.config.Config.{Config}
use Rattle.tcp_conn.specs.declared.outcome.Arrival.TheVariants.{Malformed}
use Rattle.tcp_halves.specs.Config.{IsConfig}
use Rattle.tcp_conn.specs.Phase.{discards}
use Rattle.tcp_conn.specs.State.{position_at}
use Rattle.tcp_replay.specs.declared.outcome.Outcome.TheVariants as outcomes
use Rattle.tcp_replay.specs.Events.{EventContent, HasBytes, IsDamage}
use Rattle.tcp_replay.specs.World.{WorldState, PartyState, SentSegment, max_life, new_world_with, world_with_runs, refusal_of, outcome_of, world_with_effect, run_of, world_after_all}
use Rattle.tcp_replay.specs.Truthful.{Witness, HasPosition, IsTruthful, StandsAt, HasTrueBlocks}

abbrev pub unread_of : PartyState → List ℕ
unread_of p = p.endpoint.receiving.inbox.unread

abbrev pub count_ordered : PartyState → ℕ
count_ordered p = p.endpoint.receiving.ordered

abbrev pub count_released : PartyState → ℕ
count_released p = p.endpoint.sending.released

abbrev pub queue_of : PartyState → List ℕ
queue_of p = p.endpoint.sending.queue.bytes

abbrev pub has_discarded : PartyState → Bool
has_discarded p = discards p.endpoint.ending

-- the next position that it expects: after what came in order, and after the peer's FIN once that was taken
abbrev pub rcv_position_of : PartyState → ℕ
rcv_position_of p = 1 + p.endpoint.receiving.ordered + (if p.endpoint.receiving.finished then 1 else 0)

-- the first list is a prefix of the second
abbrev pub IsPrefix : List ℕ → List ℕ → Type 0
IsPrefix front whole = (rest : List ℕ) × (whole ≡ front ++ rest)

-- the direction from x to y
pub record IsSafeDirection (x y : PartyState) : Type 0 where
  -- what was delivered to y's user, and then what y has unread, is a prefix of what x accepted, as long as what came in order
  pub delivery : IsPrefix (y.delivered ++ unread_of y) x.accepted
  pub whole : has_discarded y ≡ false → length (y.delivered ++ unread_of y) ≡ count_ordered y
  -- the end of the stream comes only after a close, and after all bytes
  pub ended : y.ended ≡ true → (x.closed ≡ true) × (y.delivered ≡ x.accepted)
  -- an acknowledgement releases only what y has had in order
  pub released : count_released x ≤ count_ordered y
  pub ordered : count_ordered y ≤ length x.accepted
  -- nothing else leaves the queue
  pub queued : has_discarded x ≡ false → queue_of x ≡ drop (count_released x) x.accepted

-- the witness of x, in the world where y is its peer
abbrev pub witness_of : PartyState → PartyState → Witness
witness_of x y = record {
  iss = x.endpoint.config.isn.0;
  irs = y.endpoint.config.isn.0;
  accepted = x.accepted;
  closed = x.closed;
  opened = x.endpoint.receiving.opened;
  next = rcv_position_of x;
  held = x.endpoint.receiving.inbox.held;
  has_discarded = has_discarded x;
}

-- a segment that x emitted is read as this
abbrev pub IsSent : PartyState → PartyState → Content → Type 0
IsSent x y v =
    (k : ℕ) × (g : SentSegment) × (slice_get x.sent k ≡ Some g) × (decode_answer x.endpoint.config.addr.0 y.endpoint.config.addr.0 g.bytes ≡ Ok v)

-- every segment that x emitted can be read, and what it says is true, unless it is a reset; and it is true at the positions
-- that the world keeps of it
abbrev pub EmitsTruth : PartyState → PartyState → Type 0
EmitsTruth x y =
    (k : ℕ) (g : SentSegment) → slice_get x.sent k ≡ Some g
    → (v : Content) × (decode_answer x.endpoint.config.addr.0 y.endpoint.config.addr.0 g.bytes ≡ Ok v) × (has rst v.flags ≡ false → IsTruthful (witness_of x y) v)
    × (has rst v.flags ≡ false → StandsAt (witness_of x y) v g.position g.wanted)

pub record IsSafe (w : WorldState) : Type 0 where
  pub there : IsSafeDirection w.a w.b
  pub back : IsSafeDirection w.b w.a
  pub emitted_there : EmitsTruth w.a w.b
  pub emitted_back : EmitsTruth w.b w.a

-- SELECTIVE ACKNOWLEDGEMENT (RFC 2018, 3 to 5) reports nothing but the truth, though no other promise depends on it. Each
-- block that x emitted is of positions that x has. Each byte that y's blocks marked at x is one that y has, unless a reset or
-- an abort discarded it.
pub record HasTrueHints (x y : PartyState) : Type 0 where
  pub blocks : (v : Content) → IsSent x y v → HasTrueBlocks (witness_of x y) v
  pub marks : has_discarded y ≡ false → (place : ℕ) → IsMarked x.endpoint.sending.queue place → HasPosition (witness_of y x) (position_at x.endpoint.sending place)

pub record HintsAreTrue (w : WorldState) : Type 0 where
  pub there : HasTrueHints w.a w.b
  pub back : HasTrueHints w.b w.a

-- DAMAGE that isn't refused is found at the checksum, and changes neither end (RFC 9293, 3.1)
abbrev pub FindsDamage : WorldState → Type 0
FindsDamage w =
    (event : EventContent) → IsDamage event → HasBytes event → refusal_of w event ≡ None
    → (outcome_of w event ≡ outcomes.Arrived (Malformed BadChecksum)) × (world_with_effect w event ≡ w)

-- THE HEADLINE, over every list of events: whatever the Configs of the two ends, however long segments live, however a run
-- ended, and whether it stops at a refusal or continues
abbrev pub EveryRunIsSafe : Type 0
EveryRunIsSafe =
    (life : ℕ) (a b : Config) (list : List EventContent) → life ≤ max_life → IsConfig a → IsConfig b → AllByRecursion HasBytes list
    → IsSafe (run_of (new_world_with life a b) list) × IsSafe (world_after_all (new_world_with life a b) list)
    × HintsAreTrue (run_of (new_world_with life a b) list) × HintsAreTrue (world_after_all (new_world_with life a b) list)
    × FindsDamage (run_of (new_world_with life a b) list) × FindsDamage (world_after_all (new_world_with life a b) list)

-- so it is whatever number of runs either end keeps out of order and remembers of its peer's
abbrev pub IsSafeRun : WorldState → List EventContent → Type 0
IsSafeRun w list =
    IsSafe (run_of w list) × IsSafe (world_after_all w list)
    × HintsAreTrue (run_of w list) × HintsAreTrue (world_after_all w list)
    × FindsDamage (run_of w list) × FindsDamage (world_after_all w list)

abbrev pub EveryRunIsSafeWithRuns : Type 0
EveryRunIsSafeWithRuns =
    (life : ℕ) (a b : Config) (runs_a runs_b : ℕ) (list : List EventContent) → life ≤ max_life → IsConfig a → IsConfig b
    → AllByRecursion HasBytes list → IsSafeRun (world_with_runs life a b runs_a runs_b) list
