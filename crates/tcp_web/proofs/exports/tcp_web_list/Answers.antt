use Rattle.std.proofs.Common.{arith}
use Rattle.std.proofs.lemmas.Grind.{common_steps}
use Rattle.tcp_web.proofs.exports.tcp_web_list.Goals as goal

pub returns-in-Ok-ending-clause-well : goal.returns-in-Ok-ending-clause-well
returns-in-Ok-ending-clause-well c = grind (arith, common_steps)
