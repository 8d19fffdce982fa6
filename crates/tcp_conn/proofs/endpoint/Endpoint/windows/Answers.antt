use Rattle.std.proofs.Common.{arith}
use Rattle.std.proofs.lemmas.Grind.{common_steps}
use Rattle.tcp_conn.proofs.endpoint.Endpoint.windows.Goals as goal

pub returns-clause-own : goal.returns-clause-own
returns-clause-own g c = grind (arith, common_steps)

pub returns-clause-peers : goal.returns-clause-peers
returns-clause-peers g c = grind (arith, common_steps)
