use Rattle.std.proofs.Common.{◌≡◌, ◌*◌, ◌++◌, map, take, drop}
use Rattle.std.specs.List.{flat_map}
use Rattle.tcp_wire.specs.Options.{block_bytes}
use Rattle.tcp_wire.specs.View.{block}
use Rattle.tcp_wire.proofs.option_writing.write_blocks.Given as goal

abbrev pub invariant-loop-i : goal.invariant-loop-i
invariant-loop-i l = l.out ≡ flat_map block_bytes (map block (take l.i l.blocks)) ++ drop (8 * l.i) l.initial.out
