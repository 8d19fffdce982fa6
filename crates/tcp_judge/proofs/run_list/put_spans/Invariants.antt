use Rattle.std.proofs.Common.{◌-◌, length, All}
use Rattle.tcp_judge.specs.Run.{IsRun}
use Rattle.tcp_judge.proofs.run_list.put_spans.Given as goal

abbrev pub invariant-loop-at : goal.invariant-loop-at
invariant-loop-at g l = All (IsRun l.acked_number.0 l.spans) l.fn.runs.items → All (IsRun l.acked_number.0 l.spans) l.runs.items

abbrev pub decreases-loop-at : goal.decreases-loop-at
decreases-loop-at g l = length l.spans - l.at
