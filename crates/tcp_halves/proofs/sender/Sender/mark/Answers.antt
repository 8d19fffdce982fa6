use Rattle.std.proofs.Common.{arith}
use Rattle.std.proofs.lemmas.Grind.{common_steps}
use Rattle.tcp_halves.specs.Marks.{after_block}
use Rattle.tcp_sendq.specs.SendQueue.{after_mark}
use Rattle.tcp_halves.proofs.sender.Sender.mark.Goals as goal

pub returns-then-from-to-clause-state : goal.returns-then-from-to-clause-state
unfolding after_block after_mark
returns-then-from-to-clause-state g c = grind (arith, common_steps)
