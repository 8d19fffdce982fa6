use Rattle.std.proofs.Common.{arith}
use Rattle.std.proofs.lemmas.Grind.{common_steps}
use Rattle.kit_words.proofs.command_line.fault.Goals as goal

pub returns-in-OutOfMemory : goal.returns-in-OutOfMemory
returns-in-OutOfMemory c = grind (arith, common_steps)
