use Rattle.tcp_network.proofs.Network.{network_lem}
use Rattle.tcp_network.specs.NetworkOfEnds.{IsPlaced}
use Rattle.tcp_flow.specs.Wired.{smss_of}
use Rattle.tcp_end.specs.Wired.{machine}
use Rattle.tcp_network.proofs.network_stays_in_window.Goals as goal

pub returns : goal.returns
returns g c = network_lem machine IsPlaced (λ w. smss_of w.end) g.W.Congestion.control c.an_end_counts_its_network.ensures c.flow_is_driven.ensures
