use Rattle.std.proofs.Common.{arith}
use Rattle.std.proofs.lemmas.Grind.{common_steps}
use Rattle.tcp_wire.proofs.Lemmas.{first_inside, last_inside}
use Rattle.tcp_halves.specs.Acceptable.{is_acceptable}
use Rattle.tcp_halves.proofs.acceptable.is_acceptable.Goals as goal

pub returns-else-in_window : goal.returns-else-in_window
unfolding is_acceptable
returns-else-in_window c = grind (arith, common_steps, first_inside, last_inside)
