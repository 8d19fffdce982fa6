use Rattle.tcp_recovery.proofs.Probes.{probe_lem}
use Rattle.tcp_recovery.proofs.laws.one_probe_a_tail.Goals as goal

pub returns : goal.returns
returns c = probe_lem
