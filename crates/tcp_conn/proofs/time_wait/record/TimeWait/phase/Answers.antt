use Rattle.std.proofs.Common.{arith}
use Rattle.std.proofs.lemmas.Grind.{common_steps}
use Rattle.tcp_conn.proofs.time_wait.record.TimeWait.phase.Goals as goal

pub returns-else-is_ended : goal.returns-else-is_ended
returns-else-is_ended c = grind (arith, common_steps)
