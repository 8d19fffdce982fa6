use Rattle.tcp_keep_alive.proofs.Silent.{off_lem}
use Rattle.tcp_keep_alive.proofs.laws.off_never_asks.Goals as goal

pub returns : goal.returns
returns c = off_lem
