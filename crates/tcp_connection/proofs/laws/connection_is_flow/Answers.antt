use Rattle.tcp_connection.proofs.Calling.{flow_lem}
use Rattle.tcp_connection.proofs.laws.connection_is_flow.Goals as goal

pub returns : goal.returns
returns g c = flow_lem g.C.Core.machine g.C.Deferring.insight g.C.Paced.smss_of g.W.Congestion.control
