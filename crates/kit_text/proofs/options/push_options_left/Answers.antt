use Rattle.std.proofs.Common.{arith}
use Rattle.std.proofs.lemmas.Grind.{common_steps}
use Rattle.kit_text.proofs.options.push_options_left.Goals as goal

pub loop-option-preserved : goal.loop-option-preserved
loop-option-preserved g c = grind (arith, common_steps)
