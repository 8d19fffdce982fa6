use Rattle.tcp_congestion.proofs.Longer.{growth_lem}
use Rattle.tcp_congestion.proofs.laws.hy_start_growth_is_limited.Goals as goal

pub returns : goal.returns
returns c = growth_lem
