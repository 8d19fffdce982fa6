use Rattle.std.proofs.Common.{arith}
use Rattle.std.proofs.lemmas.Grind.{common_steps}
use Rattle.kit_script.proofs.names.kind_of.Goals as goal

pub returns-in-Close : goal.returns-in-Close
returns-in-Close g c = grind (arith, common_steps)
