use Rattle.tcp_recovery.proofs.Deadlines.{deadline_lem}
use Rattle.tcp_recovery.proofs.laws.deadlines_are_losses.Goals as goal

pub returns : goal.returns
returns c = deadline_lem
