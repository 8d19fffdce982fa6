use Rattle.std.proofs.Common.{◌≡◌, length}
use Rattle.tcp_judge.specs.Rules.{any_great_shift}
use Rattle.tcp_judge.proofs.form.any_great_shift.Given as goal

-- it is asked of the options that are left
abbrev pub invariant-loop-option : goal.invariant-loop-option
invariant-loop-option l = any_great_shift l.left ≡ any_great_shift l.initial.left

abbrev pub decreases-loop-option : goal.decreases-loop-option
decreases-loop-option l = length l.left
