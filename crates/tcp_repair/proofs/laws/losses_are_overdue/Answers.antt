use Rattle.tcp_repair.proofs.Truths.{overdue_lem}
use Rattle.tcp_repair.proofs.laws.losses_are_overdue.Goals as goal

pub returns : goal.returns
returns c = overdue_lem c.args.recovery.now c.losses_are_overdue.ensures c.is_truthful.ensures
