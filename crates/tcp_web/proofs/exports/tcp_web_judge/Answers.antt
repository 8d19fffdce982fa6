use Rattle.std.proofs.Common.{arith}
use Rattle.std.proofs.lemmas.Grind.{common_steps}
use Rattle.tcp_web.proofs.exports.tcp_web_judge.Goals as goal

pub returns-after-report-clause-well : goal.returns-after-report-clause-well
returns-after-report-clause-well c = grind (arith, common_steps)
