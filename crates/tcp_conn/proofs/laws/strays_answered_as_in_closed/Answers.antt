use Rattle.tcp_conn.proofs.Strays.{strays_lem}
use Rattle.tcp_conn.proofs.laws.strays_answered_as_in_closed.Goals as goal

pub returns : goal.returns
returns c = strays_lem
