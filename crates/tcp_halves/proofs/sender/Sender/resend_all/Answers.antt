use Rattle.std.proofs.Common.{arith}
use Rattle.std.proofs.lemmas.Grind.{common_steps}
use Rattle.tcp_sendq.specs.SendQueue.{without_marks}
use Rattle.tcp_halves.proofs.sender.Sender.resend_all.Goals as goal

pub returns-clause-state : goal.returns-clause-state
unfolding without_marks
returns-clause-state g c = grind (arith, common_steps)
