use Rattle.tcp_conn.proofs.Urgent.{urgent_lem}
use Rattle.tcp_conn.proofs.laws.what_is_urgent_is_due.Goals as goal

pub returns : goal.returns
returns c = urgent_lem
