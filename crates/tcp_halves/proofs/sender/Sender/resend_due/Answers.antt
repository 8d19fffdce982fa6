use Rattle.std.proofs.Common.{arith}
use Rattle.std.proofs.lemmas.Grind.{common_steps}
use Rattle.tcp_halves.specs.Sent.{resend_of}
use Rattle.tcp_halves.proofs.sender.Sender.resend_due.Goals as goal

pub returns-in-Some-clause-value : goal.returns-in-Some-clause-value
unfolding resend_of
returns-in-Some-clause-value g c = grind (arith, common_steps)
