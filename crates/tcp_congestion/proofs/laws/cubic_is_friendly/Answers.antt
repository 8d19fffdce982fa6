use Rattle.tcp_congestion.proofs.CubicGrowing.{friendly_lem}
use Rattle.tcp_congestion.proofs.laws.cubic_is_friendly.Goals as goal

pub returns : goal.returns
returns c = friendly_lem
