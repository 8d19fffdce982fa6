use Rattle.tcp_congestion.proofs.Silly.{waits_lem}
use Rattle.tcp_congestion.proofs.laws.nothing_waits_longer.Goals as goal

pub returns : goal.returns
returns c = waits_lem
