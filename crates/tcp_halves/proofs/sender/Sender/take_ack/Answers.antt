use Rattle.std.proofs.Common.{arith}
use Rattle.std.proofs.lemmas.Grind.{common_steps}
use Rattle.tcp_halves.specs.Sender.{after_ack}
use Rattle.tcp_halves.proofs.sender.Sender.take_ack.Goals as goal

pub returns-else-self-ack-clause-state : goal.returns-else-self-ack-clause-state
unfolding after_ack
returns-else-self-ack-clause-state g c = grind (arith, common_steps)
