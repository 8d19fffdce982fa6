use Rattle.tcp_pacing.proofs.Waiting.{off_lem}
use Rattle.tcp_pacing.proofs.laws.off_never_waits.Goals as goal

pub returns : goal.returns
returns c = off_lem
