use Rattle.std.proofs.Common.{arith}
use Rattle.std.proofs.lemmas.Grind.{common_steps}
use Rattle.kit_report.proofs.answers.push_receive.Goals as goal

pub returns-in-Ok-EndOfStream : goal.returns-in-Ok-EndOfStream
returns-in-Ok-EndOfStream g c = grind (arith, common_steps)
