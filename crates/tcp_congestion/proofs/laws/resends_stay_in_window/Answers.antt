use Rattle.tcp_congestion.proofs.Growing.{resends_lem}
use Rattle.tcp_congestion.proofs.laws.resends_stay_in_window.Goals as goal

pub returns : goal.returns
returns c = resends_lem
