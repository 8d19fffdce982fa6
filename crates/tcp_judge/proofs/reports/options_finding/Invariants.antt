use Rattle.std.proofs.Common.{◌≡◌, length}
use Rattle.tcp_judge.specs.Reports.{options_finding}
use Rattle.tcp_judge.proofs.reports.options_finding.Given as goal

-- it is asked of the options that are left
abbrev pub invariant-loop-option : goal.invariant-loop-option
invariant-loop-option g l = options_finding l.acked_number l.spans l.left ≡ options_finding l.acked_number l.spans l.initial.left

abbrev pub decreases-loop-option : goal.decreases-loop-option
decreases-loop-option g l = length l.left
