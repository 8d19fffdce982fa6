use Rattle.tcp_flow.proofs.Flights.{flights}
use Rattle.tcp_flow.proofs.laws.an_end_counts_its_flight.Goals as goal

pub returns : goal.returns
returns g c = flights _
