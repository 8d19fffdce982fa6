use Rattle.std.proofs.Common.{arith}
use Rattle.std.proofs.lemmas.Grind.{common_steps}
use Rattle.tcp_conn.specs.Timers.{after_time_wait}
use Rattle.tcp_conn.proofs.endpoint.Endpoint.leave_time_wait.Goals as goal

pub returns-clause-state : goal.returns-clause-state
unfolding after_time_wait
returns-clause-state g c = grind (arith, common_steps)
