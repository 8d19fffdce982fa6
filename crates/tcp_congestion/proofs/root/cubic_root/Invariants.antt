use Rattle.std.proofs.Common.{◌-◌, ◌≤◌, ◌<◌, ℕ}
use Rattle.tcp_congestion.specs.Root.{cube}
use Rattle.tcp_congestion.proofs.root.cubic_root.Given as goal

pub record IsBetween (value low high : ℕ) : Type 0 where
  pub least : cube low ≤ value
  pub most : value < cube high
  pub bound : high ≤ 2097151
  pub order : low < high

abbrev pub invariant-loop-low : goal.invariant-loop-low
invariant-loop-low l = IsBetween l.value l.low l.high

abbrev pub decreases-loop-low : goal.decreases-loop-low
decreases-loop-low l = l.high - l.low
