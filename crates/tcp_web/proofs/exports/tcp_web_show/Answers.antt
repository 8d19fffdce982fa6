use Rattle.std.proofs.Common.{arith}
use Rattle.std.proofs.lemmas.Grind.{common_steps}
use Rattle.tcp_web.proofs.exports.tcp_web_show.Goals as goal

pub returns-in-Ok-Some-clause-well : goal.returns-in-Ok-Some-clause-well
returns-in-Ok-Some-clause-well c = grind (arith, common_steps)
