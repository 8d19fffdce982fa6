use Rattle.tcp_congestion.proofs.CubicGrowing.{shrinks_lem}
use Rattle.tcp_congestion.proofs.laws.cubic_loss_shrinks.Goals as goal

pub returns : goal.returns
returns c = shrinks_lem
