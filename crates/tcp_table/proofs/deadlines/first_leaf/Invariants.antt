use Rattle.std.proofs.Common.{◌≡◌, ◌≤◌, ◌<◌, ◌*◌, ◌-◌}
use Rattle.tcp_table.specs.Deadlines.{due_at}
use Rattle.tcp_table.proofs.deadlines.first_leaf.Given as goal

abbrev pub invariant-loop-at : goal.invariant-loop-at
invariant-loop-at l = (1 ≤ l.at) × (l.at < 2 * l.count) × (due_at l.tree l.at ≡ due_at l.tree 1)

abbrev pub decreases-loop-at : goal.decreases-loop-at
decreases-loop-at l = 2 * l.count - l.at
