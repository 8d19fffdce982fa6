use Rattle.tcp_pacing.proofs.Spreading.{rate_lem}
use Rattle.tcp_pacing.proofs.laws.no_faster_than_the_rate.Goals as goal

pub returns : goal.returns
returns c = rate_lem
