use Rattle.std.proofs.Common.{arith}
use Rattle.std.proofs.lemmas.Grind.{common_steps}
use Rattle.tcp_halves.proofs.sent.Sent.start.Goals as goal

pub returns-in-Fin : goal.returns-in-Fin
returns-in-Fin c = grind (arith, common_steps)

pub returns-in-Fin-2 : goal.returns-in-Fin-2
returns-in-Fin-2 c = grind (arith, common_steps)
