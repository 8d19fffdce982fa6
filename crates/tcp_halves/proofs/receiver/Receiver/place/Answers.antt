use Rattle.std.proofs.Common.{arith}
use Rattle.std.proofs.lemmas.Grind.{common_steps}
use Rattle.tcp_halves.specs.Receiver.{after_text}
use Rattle.tcp_halves.proofs.Placing.{length_placed, capacity_placed}
use Rattle.tcp_halves.proofs.receiver.Receiver.place.Goals as goal

pub returns-clause-state : goal.returns-clause-state
unfolding after_text
returns-clause-state g c = grind (arith, common_steps, length_placed, capacity_placed)
