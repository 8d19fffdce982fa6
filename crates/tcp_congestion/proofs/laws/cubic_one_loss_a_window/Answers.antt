use Rattle.tcp_congestion.proofs.CubicGrowing.{one_lem}
use Rattle.tcp_congestion.proofs.laws.cubic_one_loss_a_window.Goals as goal

pub returns : goal.returns
returns c = one_lem
