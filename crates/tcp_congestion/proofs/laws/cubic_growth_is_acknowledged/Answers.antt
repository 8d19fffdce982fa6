use Rattle.tcp_congestion.proofs.CubicGrowing.{acknowledged_lem}
use Rattle.tcp_congestion.proofs.laws.cubic_growth_is_acknowledged.Goals as goal

pub returns : goal.returns
returns c = acknowledged_lem
