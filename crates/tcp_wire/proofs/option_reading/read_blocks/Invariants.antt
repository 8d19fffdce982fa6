use Rattle.std.proofs.Common.{◌≡◌, ◌+◌, ◌*◌, ◌/◌, ◌≤◌, ◌++◌, length, map}
use Rattle.tcp_wire.specs.Decoded.{blocks_in}
use Rattle.tcp_wire.specs.View.{block}
use Rattle.tcp_wire.proofs.option_reading.read_blocks.Given as goal

abbrev pub invariant-loop-rest : goal.invariant-loop-rest
invariant-loop-rest l =
    (map block l.blocks.items ++ blocks_in (length l.rest / 8) l.rest ≡ blocks_in (length l.body / 8) l.body)
    × (8 * length l.blocks.items + length l.rest ≤ 32)

abbrev pub decreases-loop-rest : goal.decreases-loop-rest
decreases-loop-rest l = length l.rest
