use Rattle.std.proofs.Common.{◌-◌, ◌<◌, ◌≤◌, ℕ}
use Rattle.tcp_reasm.specs.Rows.{placed, run_at}
use Rattle.tcp_reasm.proofs.table.Table.count_to.Given as goal

abbrev pub invariant-loop-past : goal.invariant-loop-past
invariant-loop-past g l = record {
  least : l.first ≤ l.past;
  within : l.past ≤ l.self.len;
  before : (k : ℕ) → l.first ≤ k → k < l.past → (run_at (placed l.self.base l.self.len l.self.rows.items) k).from ≤ l.place;
}

abbrev pub decreases-loop-past : goal.decreases-loop-past
decreases-loop-past g l = l.self.len - l.past
