use Rattle.std.proofs.Common.{◌≡◌, length}
use Rattle.tcp_judge.specs.Known.{any_fast_open}
use Rattle.tcp_judge.proofs.positions.any_fast_open.Given as goal

-- it is asked of the options that are left
abbrev pub invariant-loop-option : goal.invariant-loop-option
invariant-loop-option l = any_fast_open l.left ≡ any_fast_open l.initial.left

abbrev pub decreases-loop-option : goal.decreases-loop-option
decreases-loop-option l = length l.left
