use Rattle.std.proofs.Common.{arith}
use Rattle.std.proofs.lemmas.Grind.{common_steps}
use Rattle.tcp_conn.specs.Stray.{stray_reset}
use Rattle.tcp_conn.proofs.stray.stray_reset.Goals as goal

pub returns-clause-len : goal.returns-clause-len
unfolding stray_reset
returns-clause-len c = grind (arith, common_steps)

pub returns-clause-bytes : goal.returns-clause-bytes
unfolding stray_reset
returns-clause-bytes c = grind (arith, common_steps)
