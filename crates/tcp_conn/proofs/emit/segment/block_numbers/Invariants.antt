use Rattle.std.proofs.Common.{◌≡◌, length, take, map}
use Rattle.tcp_wire.specs.View.{block}
use Rattle.tcp_conn.specs.Blocks.{block_numbers}
use Rattle.tcp_conn.proofs.emit.segment.block_numbers.Given as goal

abbrev pub invariant-loop-edges : goal.invariant-loop-edges
invariant-loop-edges l = record {
  same : map block l.numbers.items ≡ map (block_numbers l.next.0) (take l.edges-index l.blocks);
  count : length l.numbers.items ≡ l.edges-index;
}
