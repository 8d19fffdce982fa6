use Rattle.tcp_conn.proofs.TimeWaitLaw.{time_wait_lem}
use Rattle.tcp_conn.proofs.laws.time_wait_is_the_end.Goals as goal

pub returns : goal.returns
returns c = time_wait_lem
