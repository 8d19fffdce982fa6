use Rattle.tcp_pacing.proofs.Rates.{window_lem}
use Rattle.tcp_pacing.proofs.laws.a_window_goes_in_a_round_trip.Goals as goal

pub returns : goal.returns
returns c = window_lem
