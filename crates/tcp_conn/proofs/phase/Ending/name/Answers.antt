use Rattle.std.proofs.Common.{arith}
use Rattle.std.proofs.lemmas.Grind.{common_steps}
use Rattle.tcp_conn.proofs.phase.Ending.name.Goals as goal

pub returns-in-Aborted : goal.returns-in-Aborted
returns-in-Aborted c = grind (arith, common_steps)
