use Rattle.tcp_congestion.proofs.CubicGrowing.{half_lem}
use Rattle.tcp_congestion.proofs.laws.cubic_grows_by_half.Goals as goal

pub returns : goal.returns
returns c = half_lem
