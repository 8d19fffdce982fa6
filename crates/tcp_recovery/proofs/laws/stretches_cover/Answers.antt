use Rattle.tcp_recovery.proofs.Covering.{cover_lem}
use Rattle.tcp_recovery.proofs.laws.stretches_cover.Goals as goal

pub returns : goal.returns
returns c = cover_lem
