use Rattle.tcp_steady.proofs.Calling.{repairing_lem}
use Rattle.tcp_steady.proofs.laws.steady_is_repairing.Goals as goal

pub returns : goal.returns
returns g c = repairing_lem g.W.Congestion.control
