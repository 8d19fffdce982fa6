use Rattle.std.proofs.Common.{◌≡◌, ◌≤◌, ◌-◌, length, drop}
use Rattle.std.proofs.Math.Seq.{paste}
use Rattle.tcp_reasm.specs.Rows.{olders, newers, orders, spans}
use Rattle.tcp_reasm.proofs.rows.order_out.Given as goal

abbrev pub invariant-loop-next : goal.invariant-loop-next
invariant-loop-next l = record {
  least : l.past ≤ l.next;
  most : l.next ≤ l.len;
  size : length l.rows ≡ length l.initial.rows;
  order : orders l.rows ≡ paste (orders l.initial.rows) l.first (drop l.past (orders l.initial.rows)) (l.next - l.past);
  olders : olders l.rows ≡ olders l.initial.rows;
  newers : newers l.rows ≡ newers l.initial.rows;
  spans : spans l.rows ≡ spans l.initial.rows;
}

abbrev pub decreases-loop-next : goal.decreases-loop-next
decreases-loop-next l = l.len - l.next
