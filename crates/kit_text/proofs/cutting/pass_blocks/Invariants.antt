use Rattle.std.proofs.Common.{◌-◌, ◌≤◌}
use Rattle.kit_text.specs.Cutting.{IsNowhere}
use Rattle.kit_text.proofs.cutting.pass_blocks.Given as goal

abbrev pub invariant-loop-i : goal.invariant-loop-i
invariant-loop-i l = (l.i ≤ l.to) × IsNowhere l.at l.bytes l.i

abbrev pub decreases-loop-i : goal.decreases-loop-i
decreases-loop-i l = l.to - l.i
