use Rattle.tcp_driver.proofs.InTwo.{in_time_lem}
use Rattle.tcp_driver.proofs.laws.timeout_comes_in_time.Goals as goal

pub returns : goal.returns
returns g c = in_time_lem g.C.Core.machine
