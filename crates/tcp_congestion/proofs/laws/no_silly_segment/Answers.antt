use Rattle.tcp_congestion.proofs.Silly.{silly_lem}
use Rattle.tcp_congestion.proofs.laws.no_silly_segment.Goals as goal

pub returns : goal.returns
returns c = silly_lem
