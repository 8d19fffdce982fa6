use Rattle.std.proofs.Common.{◌≡◌, length}
use Rattle.tcp_judge.specs.Rules.{any_syn_option}
use Rattle.tcp_judge.proofs.form.any_syn_option.Given as goal

-- it is asked of the options that are left
abbrev pub invariant-loop-option : goal.invariant-loop-option
invariant-loop-option l = any_syn_option l.left ≡ any_syn_option l.initial.left

abbrev pub decreases-loop-option : goal.decreases-loop-option
decreases-loop-option l = length l.left
