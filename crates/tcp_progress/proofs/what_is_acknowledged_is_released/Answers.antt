use Rattle.tcp_progress.proofs.laws.NextTaken.{acked_lem}
use Rattle.tcp_progress.proofs.what_is_acknowledged_is_released.Goals as goal

pub returns : goal.returns
returns c = acked_lem
