use Rattle.std.proofs.Common.{arith}
use Rattle.std.proofs.lemmas.Grind.{common_steps}
use Rattle.tcp_conn.proofs.phase.Phase.name.Goals as goal

pub returns-in-CloseWait : goal.returns-in-CloseWait
returns-in-CloseWait c = grind (arith, common_steps)
