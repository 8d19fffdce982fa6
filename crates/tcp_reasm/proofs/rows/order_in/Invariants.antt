use Rattle.std.proofs.Common.{◌≡◌, ◌≤◌, ◌+◌, ◌-◌, ◌∷◌, length, drop}
use Rattle.std.proofs.Math.Seq.{paste}
use Rattle.tcp_reasm.specs.Rows.{olders, newers, orders, spans, at}
use Rattle.tcp_reasm.proofs.rows.order_in.Given as goal

abbrev pub invariant-loop-next : goal.invariant-loop-next
invariant-loop-next l = record {
  least : l.index ≤ l.next;
  most : l.next ≤ l.len + 1;
  size : length l.rows ≡ length l.initial.rows;
  order : orders l.rows ≡ paste (orders l.initial.rows) l.index (l.id ∷ drop l.index (orders l.initial.rows)) (l.next - l.index);
  moved : l.moved ≡ at (l.id ∷ drop l.index (orders l.initial.rows)) (l.next - l.index);
  olders : olders l.rows ≡ olders l.initial.rows;
  newers : newers l.rows ≡ newers l.initial.rows;
  spans : spans l.rows ≡ spans l.initial.rows;
}

abbrev pub decreases-loop-next : goal.decreases-loop-next
decreases-loop-next l = l.len + 1 - l.next
