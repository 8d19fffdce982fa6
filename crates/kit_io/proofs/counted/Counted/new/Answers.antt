use Rattle.std.proofs.Common.{arith}
use Rattle.std.proofs.lemmas.Grind.{common_steps}
use Rattle.kit_io.proofs.counted.Counted.new.Goals as goal

pub returns-clause-ends : goal.returns-clause-ends
returns-clause-ends g c = grind (arith, common_steps)
