use Rattle.tcp_flow.proofs.Flights.{flights}
use Rattle.tcp_flow.proofs.InFlight.{in_flight_lem}
use Rattle.tcp_flow.specs.FlightOfEnds.{IsSized}
use Rattle.tcp_flow.specs.Wired.{smss_of}
use Rattle.tcp_end.specs.Wired.{machine}
use Rattle.tcp_flow.proofs.laws.in_flight_stays_in_window.Goals as goal

pub returns : goal.returns
returns g c = in_flight_lem machine IsSized (λ w. smss_of w.end) g.W.Congestion.control (flights _) c.flow_is_driven.ensures
