use Rattle.tcp_steady.proofs.Silent.{gives_up_lem}
use Rattle.tcp_steady.proofs.laws.gives_up_only_the_dead.Goals as goal

pub returns : goal.returns
returns g c = gives_up_lem g.W.Congestion.control c.gives_up_only_the_dead.ensures
