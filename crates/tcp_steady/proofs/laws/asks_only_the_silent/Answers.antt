use Rattle.tcp_steady.proofs.Silent.{as_one_lem, asks_lem}
use Rattle.tcp_steady.proofs.laws.asks_only_the_silent.Goals as goal

pub returns-clause-alone : goal.returns-clause-alone
returns-clause-alone g c = asks_lem g.W.Congestion.control c.asks_only_the_silent.ensures

pub returns-clause-as_one : goal.returns-clause-as_one
returns-clause-as_one g c = as_one_lem g.W.Congestion.control c.asks_only_the_silent.ensures
