use Rattle.std.proofs.Common.{arith}
use Rattle.std.proofs.lemmas.Grind.{common_steps}
use Rattle.tcp_halves.proofs.sent.Sent.count.Goals as goal

pub returns-in-Resend : goal.returns-in-Resend
returns-in-Resend c = grind (arith, common_steps)
