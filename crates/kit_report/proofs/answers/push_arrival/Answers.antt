use Rattle.std.proofs.Common.{arith}
use Rattle.std.proofs.lemmas.Grind.{common_steps}
use Rattle.kit_report.proofs.answers.push_arrival.Goals as goal

pub returns-in-Dropped : goal.returns-in-Dropped
returns-in-Dropped g c = grind (arith, common_steps)
