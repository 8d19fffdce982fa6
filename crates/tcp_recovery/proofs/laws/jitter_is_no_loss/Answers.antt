use Rattle.tcp_recovery.proofs.Jitter.{jitter_lem}
use Rattle.tcp_recovery.proofs.laws.jitter_is_no_loss.Goals as goal

pub returns : goal.returns
returns c = jitter_lem
