use Rattle.std.proofs.Common.{◌≡◌, length}
use Rattle.std.specs.Prelude.{max}
use Rattle.tcp_judge.specs.Edge.{greatest_shift}
use Rattle.tcp_judge.proofs.edge.greatest_shift.Given as goal

-- it is the greatest of those that are passed and those that are left
abbrev pub invariant-loop-option : goal.invariant-loop-option
invariant-loop-option l = max l.greatest (greatest_shift l.left) ≡ greatest_shift l.initial.left

abbrev pub decreases-loop-option : goal.decreases-loop-option
decreases-loop-option l = length l.left
