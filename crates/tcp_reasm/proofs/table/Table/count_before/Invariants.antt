use Rattle.std.proofs.Common.{◌-◌, ◌<◌, ◌≤◌, ℕ}
use Rattle.tcp_reasm.specs.Rows.{placed, run_at}
use Rattle.tcp_reasm.proofs.table.Table.count_before.Given as goal

abbrev pub invariant-loop-low : goal.invariant-loop-low
invariant-loop-low g l = record {
  ordered : l.low ≤ l.high;
  within : l.high ≤ l.self.len;
  before : (k : ℕ) → k < l.low → (run_at (placed l.self.base l.self.len l.self.rows.items) k).to < l.place;
  behind : (k : ℕ) → l.high ≤ k → k < l.self.len → l.place ≤ (run_at (placed l.self.base l.self.len l.self.rows.items) k).to;
}

abbrev pub decreases-loop-low : goal.decreases-loop-low
decreases-loop-low g l = l.high - l.low
