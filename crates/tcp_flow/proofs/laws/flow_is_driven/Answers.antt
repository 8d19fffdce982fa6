use Rattle.tcp_flow.proofs.Driving.{driven_lem}
use Rattle.tcp_flow.proofs.laws.flow_is_driven.Goals as goal

pub returns : goal.returns
returns g c = driven_lem g.C.Core.machine g.C.Paced.smss_of g.W.Congestion.control c.a_train_is_emissions.ensures
