use Rattle.tcp_keep_alive.proofs.OnTime.{given_up_lem}
use Rattle.tcp_keep_alive.proofs.laws.the_dead_are_given_up.Goals as goal

pub returns : goal.returns
returns c = given_up_lem
