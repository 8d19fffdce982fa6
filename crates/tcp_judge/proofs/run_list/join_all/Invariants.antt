use Rattle.std.proofs.Common.{◌≡◌, ℕ, ◌≤◌, List, length, All}
use Rattle.tcp_numbers.specs.declared.seq.Seq.{Seq}
use Rattle.tcp_judge.specs.Run.{IsRun}
use Rattle.tcp_judge.proofs.run_list.join_all.Given as goal

-- what is joined lies before what is left
abbrev pub invariant-loop-i : goal.invariant-loop-i
invariant-loop-i g l = record {
  before : l.kept ≤ l.i;
  long : length l.runs.items ≡ length l.fn.runs.items;
  kept : (last : ℕ) (spans : List (Seq × ℕ)) → All (IsRun last spans) l.fn.runs.items → All (IsRun last spans) l.runs.items;
}
