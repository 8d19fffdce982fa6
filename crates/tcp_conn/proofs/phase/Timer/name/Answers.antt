use Rattle.std.proofs.Common.{arith}
use Rattle.std.proofs.lemmas.Grind.{common_steps}
use Rattle.tcp_conn.proofs.phase.Timer.name.Goals as goal

pub returns-in-Reorder : goal.returns-in-Reorder
returns-in-Reorder c = grind (arith, common_steps)
