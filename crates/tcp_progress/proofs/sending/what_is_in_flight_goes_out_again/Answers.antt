use Rattle.tcp_progress.proofs.laws.FlightSentAgain.{again_lem}
use Rattle.tcp_progress.proofs.sending.what_is_in_flight_goes_out_again.Goals as goal

pub returns : goal.returns
returns c = again_lem
