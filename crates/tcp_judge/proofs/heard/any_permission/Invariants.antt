use Rattle.std.proofs.Common.{◌≡◌, length}
use Rattle.tcp_judge.specs.Heard.{any_permission}
use Rattle.tcp_judge.proofs.heard.any_permission.Given as goal

-- it is asked of the options that are left
abbrev pub invariant-loop-option : goal.invariant-loop-option
invariant-loop-option l = any_permission l.left ≡ any_permission l.initial.left

abbrev pub decreases-loop-option : goal.decreases-loop-option
decreases-loop-option l = length l.left
