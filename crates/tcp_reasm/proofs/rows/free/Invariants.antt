use Rattle.std.proofs.Common.{◌-◌, ◌≡◌, ◌≤◌, ℕ, length, take, drop}
use Rattle.tcp_reasm.specs.Rows.{orders, spans, count, freed, loop_of, IsRing}
use Rattle.tcp_reasm.proofs.rows.free.Given as goal

abbrev pub invariant-loop-next : goal.invariant-loop-next
invariant-loop-next l = record {
  least : l.first ≤ l.next;
  most : l.next ≤ l.past;
  size : length l.rows ≡ length l.initial.rows;
  ring : IsRing l.rows;
  order : orders l.rows ≡ orders l.initial.rows;
  runs : spans l.rows ≡ spans l.initial.rows;
  left : freed (drop (l.next - l.first) (take (l.past - l.first) (drop l.first (orders l.initial.rows)))) (loop_of l.rows) ≡ freed (take (l.past - l.first) (drop l.first (orders l.initial.rows))) (loop_of l.initial.rows);
  each : (x : ℕ) → count x (drop (l.next - l.first) (take (l.past - l.first) (drop l.first (orders l.initial.rows)))) ≤ count x (loop_of l.rows);
}

abbrev pub decreases-loop-next : goal.decreases-loop-next
decreases-loop-next l = l.past - l.next
