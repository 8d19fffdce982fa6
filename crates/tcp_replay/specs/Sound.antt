-- The invariant that keeps two ends safe from event to event (RFC 9293, 3.3 and 3.4): more than is promised. The invariant of
-- each end by itself is in Alone; this is what connects the two.
use Rattle.std.specs.Prelude.{◌≡◌, ℕ, ◌+◌, ◌≤◌, Bool, true, false, if◌then◌else◌, List, ◌++◌, length, take, drop, IfSome, Some, slice_get, Ok}
use Rattle.tcp_wire.specs.Position.{number}
use Rattle.tcp_wire.specs.Flags.{rst, has}
use Rattle.tcp_wire.specs.Wire.{Content, IsValid, encoded_bytes}
use Rattle.tcp_wire.specs.Decoded.{decode_answer}
use Rattle.tcp_sendq.specs.SendQueue.{IsMarked}
use Rattle.tcp_reasm.specs.Agreement.{Agrees}
use Rattle.tcp_conn.specs.State.{State, Receiving, position_at}
use Rattle.tcp_conn.specs.Blocks.{reported_blocks}
use Rattle.tcp_conn.specs.Phase.{has_peer}
use Rattle.tcp_replay.specs.World.{WorldState, PartyState, SentSegment, max_life}
use Rattle.tcp_replay.specs.Truthful.{Witness, HasPosition, IsTrueBlock, StandsAt}
use Rattle.tcp_replay.specs.Safe.{witness_of, has_discarded, rcv_position_of}
use Rattle.tcp_replay.specs.Alone.{IsAlone}

-- THE HALF THAT RECEIVES, and what was accepted at the other end: what came in order, and what is kept out of order
pub record Takes (r : Receiving) (irs : ℕ) (accepted : List ℕ) (closed : Bool) : Type 0 where
  -- RCV.NXT is the number of the next position
  pub next : r.opened ≡ true → r.rcv_nxt ≡ number irs (1 + r.ordered + (if r.finished then 1 else 0))
  pub unopened : r.opened ≡ false → (r.rcv_nxt ≡ 0) × (r.ordered ≡ 0) × (r.finished ≡ false)
  pub order : r.ordered ≤ length accepted
  -- the FIN was taken in order
  pub fin : r.finished ≡ true → (closed ≡ true) × (r.ordered ≡ length accepted)
  pub held : Agrees r.inbox.held (drop r.ordered accepted)

-- WHAT WAS DELIVERED TO ITS USER, and what was accepted at the other end
pub record DeliversPrefix (unread : List ℕ) (ordered : ℕ) (accepted : List ℕ) (closed : Bool) (delivered : List ℕ) (ended gone : Bool) : Type 0 where
  -- that, and then what is unread, is a prefix of the other end's text: all that came in order unless it was discarded
  pub count : ℕ
  pub delivery : delivered ++ unread ≡ take count accepted
  pub least : count ≤ ordered
  pub whole : gone ≡ false → count ≡ ordered
  -- the end of the stream was delivered after all of it
  pub all_delivered : ended ≡ true → (closed ≡ true) × (delivered ≡ accepted)

-- THE DESTINATION of an end is at this address: its peer, and where a waiting reset goes
pub record SpeaksTo (s : State) (addr : List ℕ) : Type 0 where
  pub peer : has_peer s.phase ≡ true → s.peer.addr.0 ≡ addr
  pub reset : IfSome s.pending.reset (λ reset. reset.to.addr.0 ≡ addr)

-- ONE END and its user, with the other end
pub record IsSoundEnd (x y : PartyState) : Type 0 where
  pub alone : IsAlone x.endpoint x.accepted x.closed
  pub speaks : SpeaksTo x.endpoint y.endpoint.config.addr.0
  pub takes : Takes x.endpoint.receiving y.endpoint.config.isn.0 y.accepted y.closed
  pub delivers : DeliversPrefix x.endpoint.receiving.inbox.unread x.endpoint.receiving.ordered y.accepted y.closed x.delivered x.ended (has_discarded x)
  -- nothing is acknowledged to it that the other end hasn't taken
  pub between : x.endpoint.sending.snd_una ≤ rcv_position_of y
  pub limit : length x.accepted ≤ x.endpoint.config.limit

-- what x emitted: a segment that is truthful at the positions that are kept of it, unless it is a reset
pub record IsOwn (x y : PartyState) (g : SentSegment) : Type 0 where
  pub content : Content
  pub valid : IsValid content
  pub spelled : g.bytes ≡ encoded_bytes x.endpoint.config.addr.0 y.endpoint.config.addr.0 content
  pub truthful : has rst content.flags ≡ false → StandsAt (witness_of x y) content g.position g.wanted

abbrev pub AreOwn : PartyState → PartyState → Type 0
AreOwn x y = (k : ℕ) (g : SentSegment) → slice_get x.sent k ≡ Some g → IsOwn x y g

-- both ends, and all that they emitted
pub record IsSoundPair (x y : PartyState) : Type 0 where
  pub there : IsSoundEnd x y
  pub back : IsSoundEnd y x
  pub own_there : AreOwn x y
  pub own_back : AreOwn y x

-- two sound ends are safe
abbrev pub AreSoundEnds : WorldState → Type 0
AreSoundEnds w = IsSoundPair w.a w.b

-- a block is of positions from the one on that was expected next
abbrev pub IsBlockBehind : Witness → ℕ → ℕ × ℕ → Type 0
IsBlockBehind x wanted block = (is : IsTrueBlock x block) × (wanted ≤ is.0)

-- each block of a segment does
abbrev pub AreBlocksBehind : Witness → ℕ → List (ℕ × ℕ) → Type 0
AreBlocksBehind x wanted blocks = (k : ℕ) (block : ℕ × ℕ) → slice_get blocks k ≡ Some block → IsBlockBehind x wanted block

-- WHAT x REPORTS as kept out of order is true, and so is what it marked of y's reports
pub record KeepsHints (x y : PartyState) : Type 0 where
  pub blocks : (k : ℕ) (g : SentSegment) (v : Content) → slice_get x.sent k ≡ Some g → decode_answer x.endpoint.config.addr.0 y.endpoint.config.addr.0 g.bytes ≡ Ok v
      → has_discarded x ≡ false → AreBlocksBehind (witness_of x y) g.wanted (reported_blocks v.options)
  pub marks : has_discarded y ≡ false → (place : ℕ) → IsMarked x.endpoint.sending.queue place → HasPosition (witness_of y x) (position_at x.endpoint.sending place)

pub record KeepBothHints (x y : PartyState) : Type 0 where
  pub there : KeepsHints x y
  pub back : KeepsHints y x

-- THE INVARIANT OF A WORLD: its ends are sound, what they report as kept out of order is true, and no segment outlives the
-- nearness of numbers. Safety depends on the first and the last alone.
pub record IsSound (w : WorldState) : Type 0 where
  pub ends : AreSoundEnds w
  pub hints : KeepBothHints w.a w.b
  pub life : w.life ≤ max_life
