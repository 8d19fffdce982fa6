use Rattle.tcp_congestion.proofs.Longer.{short_lem}
use Rattle.tcp_congestion.proofs.laws.css_is_short.Goals as goal

pub returns : goal.returns
returns c = short_lem
