use Rattle.tcp_congestion.proofs.Late.{late_lem}
use Rattle.tcp_congestion.proofs.laws.no_acknowledgement_is_late.Goals as goal

pub returns : goal.returns
returns c = late_lem
