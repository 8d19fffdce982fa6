use Rattle.tcp_reasm.proofs.Maximal.{runs_are_maximal_lem}
use Rattle.tcp_reasm.proofs.laws.runs_are_maximal.Goals as goal

pub returns : goal.returns
returns c = runs_are_maximal_lem
