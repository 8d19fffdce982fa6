use Rattle.std.proofs.Common.{arith}
use Rattle.std.proofs.lemmas.Grind.{common_steps}
use Rattle.tcp_halves.proofs.sender.Sender.is_fin_acked.Goals as goal

pub returns-then-end_of_text-self : goal.returns-then-end_of_text-self
returns-then-end_of_text-self g c = grind (arith, common_steps)
