use Rattle.tcp_flow.proofs.Flights.{opens_sized}
use Rattle.tcp_flow.proofs.laws.each_opens_sized.Goals as goal

pub returns : goal.returns
returns g c = opens_sized g.row.A.Denot
