-- Blocks (RFC 2018, 3 and 4) that an end reports of what it keeps out of order. The blocks that its peer reports are in
-- Marks, with what they change in the half that sends.
use Rattle.std.specs.Prelude.{ℕ, if◌then◌else◌, List, [], ◌∷◌, length, ◌+◌, ◌*◌, map}
use Rattle.tcp_wire.specs.Options.{OptionContent, Nop, Sack}
use Rattle.tcp_wire.specs.Position.{number}
use Rattle.tcp_reasm.specs.Reassembly.{blocks}
use Rattle.tcp_conn.specs.State.{State}
pub use Rattle.tcp_halves.specs.Marks.{reported_blocks, is_of_flight, marks_text, with_marks, after_blocks}
unfoldable pub use Rattle.tcp_halves.specs.Marks.{after_block}

-- BLOCKS are reported while a run is kept out of order and selective acknowledgement is in use (RFC 2018, 4), as numbers
abbrev pub block_numbers : ℕ → ℕ × ℕ → ℕ × ℕ
block_numbers next block = (number next block.0, number next block.1)

abbrev pub blocks_to_report : State → List (ℕ × ℕ)
blocks_to_report s = if s.link.sack then map (block_numbers s.receiving.rcv_nxt) (blocks s.receiving.inbox) else []

abbrev pub sack_options : List (ℕ × ℕ) → List OptionContent
sack_options [] = []
sack_options (block ∷ blocks) = Nop ∷ Nop ∷ Sack (block ∷ blocks) ∷ []

-- their length in bytes among the options: two Nops, kind and length byte, and eight for each block
abbrev pub sack_length : List (ℕ × ℕ) → ℕ
sack_length [] = 0
sack_length (block ∷ blocks) = 4 + 8 * length (block ∷ blocks)
