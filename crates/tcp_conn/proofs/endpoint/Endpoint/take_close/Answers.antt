use Rattle.std.proofs.Common.{arith}
use Rattle.std.proofs.lemmas.Grind.{common_steps}
use Rattle.tcp_conn.proofs.endpoint.Endpoint.take_close.Goals as goal

pub returns-in-Established : goal.returns-in-Established
returns-in-Established g c = grind (arith, common_steps)

pub returns-in-Listen : goal.returns-in-Listen
returns-in-Listen g c = grind (arith, common_steps)
