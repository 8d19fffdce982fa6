use Rattle.tcp_congestion.proofs.Growing.{one_lem}
use Rattle.tcp_congestion.proofs.laws.one_loss_a_window.Goals as goal

pub returns : goal.returns
returns c = one_lem
