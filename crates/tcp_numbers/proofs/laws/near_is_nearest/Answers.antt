use Rattle.tcp_numbers.proofs.Positions.{near_is_nearest_lem}
use Rattle.tcp_numbers.proofs.laws.near_is_nearest.Goals as goal

pub returns : goal.returns
returns c = near_is_nearest_lem
