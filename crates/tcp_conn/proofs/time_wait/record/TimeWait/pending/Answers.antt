use Rattle.std.proofs.Common.{arith}
use Rattle.std.proofs.lemmas.Grind.{common_steps}
use Rattle.tcp_conn.specs.Due.{due_of}
use Rattle.tcp_conn.specs.Emission.{pending_length}
use Rattle.tcp_conn.specs.Forms.{segment_of}
use Rattle.tcp_conn.proofs.time_wait.record.TimeWait.pending.Goals as goal

pub returns-else-self-clause-value : goal.returns-else-self-clause-value
unfolding pending_length due_of segment_of
returns-else-self-clause-value c = grind (arith, common_steps)
