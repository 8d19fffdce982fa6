use Rattle.tcp_recovery.proofs.Overdue.{overdue_lem}
use Rattle.tcp_recovery.proofs.laws.losses_are_overdue.Goals as goal

pub returns : goal.returns
returns c = overdue_lem
