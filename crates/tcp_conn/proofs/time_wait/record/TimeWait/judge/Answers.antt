use Rattle.std.proofs.Common.{arith}
use Rattle.std.proofs.lemmas.Grind.{common_steps}
use Rattle.tcp_conn.specs.Judgement.{judgement}
use Rattle.tcp_conn.proofs.time_wait.record.TimeWait.judge.Goals as goal

pub returns-then-is_foreign : goal.returns-then-is_foreign
unfolding judgement
returns-then-is_foreign c = grind (arith, common_steps)
