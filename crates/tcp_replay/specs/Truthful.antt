-- What a segment may say (RFC 9293, 3.4; RFC 2018, 3 and 4): nothing of its own stream but what was accepted for it, and
-- nothing of the other stream but what has come.
use Rattle.std.specs.Prelude.{◌≡◌, ℕ, ◌+◌, ◌-◌, ◌<◌, ◌≤◌, ◌⊎◌, Bool, true, false, ◌==◌, if◌then◌else◌, List, [], length, take, drop, Option, Some, slice_get}
use Rattle.tcp_wire.specs.Position.{number}
use Rattle.tcp_wire.specs.Flags.{fin, syn, ack, has}
use Rattle.tcp_wire.specs.Wire.{Content}
use Rattle.tcp_reasm.specs.Reassembly.{Cell}
use Rattle.tcp_conn.specs.Blocks.{reported_blocks}

-- what a segment of one end is compared with
pub record Witness : Type 0 where
  -- the initial numbers of this end's direction and of the peer's
  pub iss : ℕ
  pub irs : ℕ
  -- the bytes that its user sent, and whether its user closed
  pub accepted : List ℕ
  pub closed : Bool
  -- whether it took the peer's SYN, the next position that it expects, and what it keeps from there on
  pub opened : Bool
  pub next : ℕ
  pub held : List (Option Cell)
  -- whether it discarded what it kept, by a reset or an abort
  pub has_discarded : Bool

-- a position of the peer's direction that the end has: below the next, or kept out of order
abbrev pub HasPosition : Witness → ℕ → Type 0
HasPosition x p = (p < x.next) ⊎ ((cell : Cell) × (x.next ≤ p) × (slice_get x.held (p - x.next) ≡ Some (Some cell)))

-- a block is of positions that the end has: from one up to another, whose numbers are its edges
abbrev pub IsTrueBlock : Witness → ℕ × ℕ → Type 0
IsTrueBlock x block =
    (from : ℕ) × (to : ℕ) × (from < to) × (block.0 ≡ number x.irs from) × (block.1 ≡ number x.irs to) × ((p : ℕ) → from ≤ p → p < to → HasPosition x p)

abbrev pub AreTrueBlocks : Witness → List (ℕ × ℕ) → Type 0
AreTrueBlocks x blocks = (k : ℕ) (block : ℕ × ℕ) → slice_get blocks k ≡ Some block → IsTrueBlock x block

-- the blocks of a segment, unless the end discarded what it kept
abbrev pub HasTrueBlocks : Witness → Content → Type 0
HasTrueBlocks x v = x.has_discarded ≡ false → AreTrueBlocks x (reported_blocks v.options)

-- an acknowledgement is the number of a position up to the next one that the end expects
pub record IsTrueAck (x : Witness) (ack : ℕ) : Type 0 where
  pub opened : x.opened ≡ true
  pub position : ℕ
  pub least : 1 ≤ position
  pub most : position ≤ x.next
  pub number : ack ≡ number x.irs position

-- THE STATEMENT OF A SEGMENT WITHOUT RST ABOUT ITS OWN STREAM, compared with what the user sent and whether the user closed
pub record IsOfUser (iss : ℕ) (accepted : List ℕ) (closed : Bool) (v : Content) : Type 0 where
  pub position : ℕ
  pub seq : v.seq ≡ number iss position
  -- it lies within what was accepted, the FIN's position included
  pub within : position ≤ 1 + length accepted + (if closed then 1 else 0)
  -- SYN is at position 0 alone, and is there alone
  pub has_syn : has syn v.flags ≡ (position == 0)
  pub bare : position ≡ 0 → (v.text ≡ []) × (has fin v.flags ≡ false)
  -- its text is what was accepted, from its position on
  pub fits : 0 < length v.text → position + length v.text ≤ 1 + length accepted
  pub text : 0 < length v.text → v.text ≡ take (length v.text) (drop (position - 1) accepted)
  -- FIN comes right after all that was accepted, and only after a close
  pub has_fin : has fin v.flags ≡ true → (closed ≡ true) × (position + length v.text ≡ 1 + length accepted)

-- a segment without RST that the end emitted
pub record IsTruthful (x : Witness) (v : Content) : Type 0 where
  pub own : IsOfUser x.iss x.accepted x.closed v
  pub has_ack : has ack v.flags ≡ true → IsTrueAck x v.ack

-- and it is true at these positions of the two directions
pub record StandsAt (x : Witness) (v : Content) (position wanted : ℕ) : Type 0 where
  pub truth : IsTruthful x v
  pub position_is : truth.own.position ≡ position
  pub wanted_is : (told : has ack v.flags ≡ true) → (truth.has_ack told).position ≡ wanted
