use Rattle.std.proofs.Common.{arith}
use Rattle.std.proofs.lemmas.Grind.{common_steps}
use Rattle.kit_io.proofs.counted.CountedOutput.write.Goals as goal

pub returns-in-Ok-eq0-clause-failures : goal.returns-in-Ok-eq0-clause-failures
returns-in-Ok-eq0-clause-failures g c = grind (arith, common_steps)
