use Rattle.std.proofs.Common.{◌-◌, ℕ, ◌≤◌, List, length, All}
use Rattle.tcp_numbers.specs.declared.seq.Seq.{Seq}
use Rattle.tcp_judge.specs.Run.{IsRun}
use Rattle.tcp_judge.proofs.run_list.put.Given as goal

-- the runs up to here are joined with the new one
abbrev pub invariant-loop-to : goal.invariant-loop-to
invariant-loop-to g l = record {
  before : l.from ≤ l.to;
  inside : l.to ≤ length l.runs.items;
  whole : (last : ℕ) (spans : List (Seq × ℕ)) → IsRun last spans l.fn.run → All (IsRun last spans) l.runs.items → IsRun last spans l.whole;
}

abbrev pub decreases-loop-to : goal.decreases-loop-to
decreases-loop-to g l = length l.runs.items - l.to
