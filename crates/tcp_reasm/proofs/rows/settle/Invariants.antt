use Rattle.std.proofs.Common.{◌≡◌, ◌≤◌, ◌-◌, ◌++◌, length, take, drop}
use Rattle.std.specs.Prelude.{map}
use Rattle.tcp_reasm.specs.Rows.{olders, newers, orders, spans, lowered}
use Rattle.tcp_reasm.proofs.rows.settle.Given as goal

abbrev pub invariant-loop-next : goal.invariant-loop-next
invariant-loop-next l = record {
  most : l.next ≤ length l.initial.rows;
  size : length l.rows ≡ length l.initial.rows;
  runs : spans l.rows ≡ map (lowered l.base) (take l.next (spans l.initial.rows)) ++ drop l.next (spans l.initial.rows);
  older : olders l.rows ≡ olders l.initial.rows;
  newer : newers l.rows ≡ newers l.initial.rows;
  order : orders l.rows ≡ orders l.initial.rows;
}

abbrev pub decreases-loop-next : goal.decreases-loop-next
decreases-loop-next l = length l.initial.rows - l.next
