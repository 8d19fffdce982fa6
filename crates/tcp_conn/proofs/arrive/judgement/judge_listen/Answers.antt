use Rattle.std.proofs.Common.{arith}
use Rattle.std.proofs.lemmas.Grind.{common_steps}
use Rattle.tcp_conn.specs.Judgement.{listen_judgement}
use Rattle.tcp_conn.proofs.arrive.judgement.judge_listen.Goals as goal

pub returns-then-is_syn : goal.returns-then-is_syn
unfolding listen_judgement
returns-then-is_syn c = grind (arith, common_steps)
