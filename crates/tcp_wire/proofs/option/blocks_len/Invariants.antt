use Rattle.std.proofs.Common.{◌≡◌, ◌*◌, map, take}
use Rattle.std.specs.List.{AllByRecursion}
use Rattle.tcp_wire.specs.Options.{IsBlock}
use Rattle.tcp_wire.specs.View.{block}
use Rattle.tcp_wire.proofs.option.blocks_len.Given as goal

abbrev pub invariant-loop-edges : goal.invariant-loop-edges
invariant-loop-edges l = (l.len ≡ 8 * l.edges-index) × AllByRecursion IsBlock (map block (take l.edges-index l.blocks))
