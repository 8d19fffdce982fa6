use Rattle.std.proofs.Common.{arith}
use Rattle.std.proofs.lemmas.Grind.{common_steps}
use Rattle.tcp_conn.proofs.time_wait.record.TimeWait.ending.Goals as goal

pub returns : goal.returns
returns c = grind (arith, common_steps)
