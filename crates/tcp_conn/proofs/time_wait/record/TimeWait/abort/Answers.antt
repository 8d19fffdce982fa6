use Rattle.std.proofs.Common.{arith}
use Rattle.std.proofs.lemmas.Grind.{common_steps}
use Rattle.tcp_conn.specs.Calls.{after_abort}
use Rattle.tcp_conn.proofs.TimeWaits.{kept}
use Rattle.tcp_conn.proofs.time_wait.record.TimeWait.abort.Goals as goal

pub returns-clause-state : goal.returns-clause-state
unfolding after_abort
returns-clause-state c = grind (arith, common_steps, kept)
