use Rattle.tcp_recovery.proofs.Probes.{measured_lem}
use Rattle.tcp_recovery.proofs.laws.probes_are_measured.Goals as goal

pub returns : goal.returns
returns c = measured_lem
