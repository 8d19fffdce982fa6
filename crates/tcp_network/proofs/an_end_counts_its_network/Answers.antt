use Rattle.tcp_network.proofs.Networks.{networks}
use Rattle.tcp_network.proofs.an_end_counts_its_network.Goals as goal

pub returns : goal.returns
returns g c = networks _ c.an_end_counts_its_flight.ensures
