use Rattle.std.proofs.Common.{arith}
use Rattle.std.proofs.lemmas.Grind.{common_steps}
use Rattle.tcp_conn.proofs.arrive.effect.reset_of_stray.Goals as goal

pub returns : goal.returns
returns c = grind (arith, common_steps)
