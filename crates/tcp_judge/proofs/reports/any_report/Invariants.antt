use Rattle.std.proofs.Common.{◌≡◌, length}
use Rattle.tcp_judge.specs.Reports.{any_report}
use Rattle.tcp_judge.proofs.reports.any_report.Given as goal

-- it is asked of the options that are left
abbrev pub invariant-loop-option : goal.invariant-loop-option
invariant-loop-option l = any_report l.left ≡ any_report l.initial.left

abbrev pub decreases-loop-option : goal.decreases-loop-option
decreases-loop-option l = length l.left
