use Rattle.std.proofs.Common.{arith}
use Rattle.std.proofs.lemmas.Grind.{common_steps}
use Rattle.tcp_conn.specs.Calls.{after_acknowledge}
use Rattle.tcp_conn.proofs.endpoint.Endpoint.acknowledge.Goals as goal

pub returns-clause-state : goal.returns-clause-state
unfolding after_acknowledge
returns-clause-state g c = grind (arith, common_steps)
