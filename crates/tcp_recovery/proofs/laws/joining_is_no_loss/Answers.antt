use Rattle.tcp_recovery.proofs.Joining.{joining_lem}
use Rattle.tcp_recovery.proofs.laws.joining_is_no_loss.Goals as goal

pub returns : goal.returns
returns c = joining_lem
