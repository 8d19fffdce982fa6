use Rattle.tcp_host.proofs.Expiring.{told_drivers_expire}
use Rattle.tcp_host.proofs.laws.told_drivers_expire.Goals as goal

pub returns : goal.returns
returns g c = told_drivers_expire g.C.Core.machine
