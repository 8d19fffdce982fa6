use Rattle.tcp_driver.proofs.Rows.{train_lem}
use Rattle.tcp_driver.proofs.laws.a_train_is_emissions.Goals as goal

pub returns : goal.returns
returns g c = train_lem g.C.Core.machine
