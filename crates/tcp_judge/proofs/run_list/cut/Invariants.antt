use Rattle.std.proofs.Common.{◌≡◌, ℕ, ◌≤◌, List, length, All}
use Rattle.std.specs.List.{AllWithin}
use Rattle.tcp_numbers.specs.declared.seq.Seq.{Seq}
use Rattle.tcp_judge.specs.Run.{IsRun}
use Rattle.tcp_judge.proofs.run_list.cut.Given as goal

-- those so far are cut, and the others as they were
abbrev pub invariant-loop-i : goal.invariant-loop-i
invariant-loop-i g l = record {
  before : l.kept ≤ l.i;
  long : length l.runs.items ≡ length l.fn.runs.items;
  left : (spans : List (Seq × ℕ)) → All (IsRun l.fn.last.0 spans) l.fn.runs.items → AllWithin (IsRun l.fn.last.0 spans) l.runs.items l.i (length l.fn.runs.items);
  done : (spans : List (Seq × ℕ)) → All (IsRun l.fn.last.0 spans) l.fn.runs.items → AllWithin (IsRun l.acked_number.0 spans) l.runs.items 0 l.kept;
}
