use Rattle.std.proofs.Common.{arith}
use Rattle.std.proofs.lemmas.Grind.{common_steps}
use Rattle.tcp_conn.specs.Calls.{after_receive}
use Rattle.tcp_conn.proofs.endpoint.Endpoint.receive.Goals as goal

pub returns-then-not-nothing-clause-state : goal.returns-then-not-nothing-clause-state
unfolding after_receive
returns-then-not-nothing-clause-state g c = grind (arith, common_steps)

pub returns-then-self-2-clause-state : goal.returns-then-self-2-clause-state
unfolding after_receive
returns-then-self-2-clause-state g c = grind (arith, common_steps)

pub returns-else-self-2-clause-state : goal.returns-else-self-2-clause-state
unfolding after_receive
returns-else-self-2-clause-state g c = grind (arith, common_steps)
