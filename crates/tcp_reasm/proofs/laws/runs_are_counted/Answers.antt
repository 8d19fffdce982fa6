use Rattle.tcp_reasm.proofs.Beginnings.{length-runs_from}
use Rattle.tcp_reasm.proofs.laws.runs_are_counted.Goals as goal

pub returns : goal.returns
returns c = length-runs_from 0
