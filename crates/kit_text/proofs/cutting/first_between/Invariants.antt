use Rattle.kit_text.specs.Cutting.{IsNowhere}
use Rattle.kit_text.proofs.cutting.first_between.Given as goal

abbrev pub invariant-loop-i : goal.invariant-loop-i
invariant-loop-i l = IsNowhere l.at l.bytes l.i
