use Rattle.std.proofs.Common.{◌≡◌, ℕ, ◌≤◌, ◌<◌, drop}
use Rattle.tcp_table.specs.Deadlines.{IsEarlier}
use Rattle.tcp_table.proofs.deadlines.build.Given as goal

abbrev pub invariant-loop-at : goal.invariant-loop-at
invariant-loop-at l = (l.at ≤ l.count) × (drop l.count l.tree ≡ drop l.count l.initial.tree)
    × ((k : ℕ) → 1 ≤ k → l.at ≤ k → k < l.count → IsEarlier l.tree k)

abbrev pub decreases-loop-at : goal.decreases-loop-at
decreases-loop-at l = l.at
