use Rattle.std.proofs.Common.{arith}
use Rattle.std.proofs.lemmas.Grind.{common_steps}
use Rattle.tcp_conn.specs.Due.{due_of}
use Rattle.tcp_conn.specs.Emission.{after_emission}
use Rattle.tcp_conn.proofs.TimeWaits.{kept}
use Rattle.tcp_conn.proofs.time_wait.record.TimeWait.emit.Goals as goal

pub returns-in-Some-clause-state : goal.returns-in-Some-clause-state
unfolding after_emission due_of
returns-in-Some-clause-state c = grind (arith, common_steps, kept)
