use Rattle.std.proofs.Common.{arith}
use Rattle.std.proofs.lemmas.Grind.{common_steps}
use Rattle.tcp_conn.proofs.endpoint.Endpoint.time_wait.Goals as goal

pub returns : goal.returns
returns g c = grind (arith, common_steps)
