use Rattle.tcp_reasm.proofs.Maximal.{runs_cover_lem}
use Rattle.tcp_reasm.proofs.laws.runs_cover.Goals as goal

pub returns : goal.returns
returns c = runs_cover_lem
