use Rattle.tcp_keep_alive.proofs.Silent.{gives_up_lem}
use Rattle.tcp_keep_alive.proofs.laws.gives_up_only_the_dead.Goals as goal

pub returns : goal.returns
returns c = gives_up_lem
