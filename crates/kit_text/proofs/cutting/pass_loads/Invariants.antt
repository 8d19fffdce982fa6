use Rattle.std.proofs.Common.{◌-◌, ◌≤◌, length}
use Rattle.kit_text.specs.Cutting.{IsNowhere}
use Rattle.kit_text.proofs.cutting.pass_loads.Given as goal

abbrev pub invariant-loop-i : goal.invariant-loop-i
invariant-loop-i l = (l.i ≤ length l.bytes) × IsNowhere l.at l.bytes l.i

abbrev pub decreases-loop-i : goal.decreases-loop-i
decreases-loop-i l = length l.bytes - l.i
