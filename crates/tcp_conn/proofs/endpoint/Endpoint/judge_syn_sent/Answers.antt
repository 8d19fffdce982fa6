use Rattle.std.proofs.Common.{arith}
use Rattle.std.proofs.lemmas.Grind.{common_steps}
use Rattle.tcp_conn.specs.Judgement.{syn_sent_judgement}
use Rattle.tcp_conn.proofs.endpoint.Endpoint.judge_syn_sent.Goals as goal

pub returns-else-is_syn : goal.returns-else-is_syn
unfolding syn_sent_judgement
returns-else-is_syn g c = grind (arith, common_steps)
