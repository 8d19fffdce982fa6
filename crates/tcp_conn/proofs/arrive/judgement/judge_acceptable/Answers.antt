use Rattle.std.proofs.Common.{arith}
use Rattle.std.proofs.lemmas.Grind.{common_steps}
use Rattle.tcp_conn.specs.Judgement.{acceptable_judgement}
use Rattle.tcp_conn.proofs.arrive.judgement.judge_acceptable.Goals as goal

pub returns-then-eq : goal.returns-then-eq
unfolding acceptable_judgement
returns-then-eq c = grind (arith, common_steps)
