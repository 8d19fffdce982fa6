use Rattle.tcp_reasm.proofs.Maximal.{runs_stand_apart_lem}
use Rattle.tcp_reasm.proofs.laws.runs_stand_apart.Goals as goal

pub returns : goal.returns
returns c = runs_stand_apart_lem
