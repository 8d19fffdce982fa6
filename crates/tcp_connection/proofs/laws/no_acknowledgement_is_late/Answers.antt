use Rattle.tcp_connection.proofs.InTime.{late_lem}
use Rattle.tcp_connection.proofs.laws.no_acknowledgement_is_late.Goals as goal

pub returns : goal.returns
returns g c = late_lem g.C.Core.machine g.C.Deferring.insight g.W.Congestion.control
