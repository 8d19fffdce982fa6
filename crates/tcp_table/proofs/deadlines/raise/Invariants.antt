use Rattle.std.proofs.Common.{◌≡◌, ◌<◌, ◌*◌, drop}
use Rattle.tcp_table.specs.Deadlines.{IsTreeBut}
use Rattle.tcp_table.proofs.deadlines.raise.Given as goal

abbrev pub invariant-loop-at : goal.invariant-loop-at
invariant-loop-at l = (2 * l.at < 2 * l.count) × (drop l.count l.tree ≡ drop l.count l.initial.tree) × IsTreeBut l.tree l.count l.at

abbrev pub decreases-loop-at : goal.decreases-loop-at
decreases-loop-at l = l.at
