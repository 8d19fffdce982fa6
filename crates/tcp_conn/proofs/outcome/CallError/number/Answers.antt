use Rattle.std.proofs.Common.{arith}
use Rattle.std.proofs.lemmas.Grind.{common_steps}
use Rattle.tcp_conn.proofs.outcome.CallError.number.Goals as goal

pub returns-in-Closing : goal.returns-in-Closing
returns-in-Closing c = grind (arith, common_steps)
