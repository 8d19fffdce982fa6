use Rattle.tcp_keep_alive.proofs.Answered.{old_lem}
use Rattle.tcp_keep_alive.proofs.laws.old_is_answered.Goals as goal

pub returns : goal.returns
returns c = old_lem
