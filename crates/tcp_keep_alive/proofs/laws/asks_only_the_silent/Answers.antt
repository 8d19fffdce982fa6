use Rattle.tcp_keep_alive.proofs.Silent.{asks_lem}
use Rattle.tcp_keep_alive.proofs.laws.asks_only_the_silent.Goals as goal

pub returns : goal.returns
returns c = asks_lem
