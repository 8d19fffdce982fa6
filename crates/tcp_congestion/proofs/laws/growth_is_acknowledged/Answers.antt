use Rattle.tcp_congestion.proofs.Growing.{acknowledged_lem}
use Rattle.tcp_congestion.proofs.laws.growth_is_acknowledged.Goals as goal

pub returns : goal.returns
returns c = acknowledged_lem
