use Rattle.std.proofs.Common.{◌≡◌, ◌≤◌, ◌-◌, ◌∷◌, length, take}
use Rattle.std.specs.Prelude.{map}
use Rattle.tcp_reasm.specs.Reassembly.{Run}
use Rattle.tcp_reasm.specs.Store.{runs_in}
use Rattle.tcp_reasm.specs.Rows.{at, loop_of, newest}
use Rattle.tcp_reasm.proofs.table.Table.edges.Given as goal

abbrev pub invariant-loop-id : goal.invariant-loop-id
invariant-loop-id g l = record {
  few : length l.edges.items ≤ l.count;
  row : l.id ≡ at (0 ∷ loop_of l.self.rows.items) (length l.edges.items);
  made : l.edges.items ≡ map (λ (run : Run). (run.from, run.to)) (runs_in (take (length l.edges.items) (newest l.self.base l.self.len l.self.rows.items)));
}

abbrev pub decreases-loop-id : goal.decreases-loop-id
decreases-loop-id g l = l.count - length l.edges.items
