use Rattle.tcp_congestion.proofs.Longer.{jitter_lem}
use Rattle.tcp_congestion.proofs.laws.jitter_is_no_delay.Goals as goal

pub returns : goal.returns
returns c = jitter_lem
