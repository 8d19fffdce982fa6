use Rattle.tcp_numbers.proofs.Positions.{offset_is_modular_lem}
use Rattle.tcp_numbers.proofs.laws.offset_is_modular.Goals as goal

pub returns : goal.returns
returns c = offset_is_modular_lem
