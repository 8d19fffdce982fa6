use Rattle.std.proofs.Common.{arith}
use Rattle.std.proofs.lemmas.Grind.{common_steps}
use Rattle.std.proofs.lemmas.Bool.Decides.{nat_tests}
use Rattle.tcp_numbers.proofs.seq.Seq.before.Goals as goal

pub returns-then-ahead-gt0 : goal.returns-then-ahead-gt0
returns-then-ahead-gt0 c = grind (arith, common_steps, nat_tests)
