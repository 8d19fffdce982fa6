use Rattle.std.proofs.Common.{arith}
use Rattle.std.proofs.lemmas.Grind.{common_steps}
use Rattle.kit_text.proofs.options.push_blocks.Goals as goal

pub loop-edges-preserved : goal.loop-edges-preserved
loop-edges-preserved g c = grind (arith, common_steps)
