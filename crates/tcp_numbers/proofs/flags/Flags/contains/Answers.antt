use Rattle.std.proofs.Common.{arith}
use Rattle.std.proofs.lemmas.Grind.{common_steps}
use Rattle.std.proofs.lemmas.Bool.Decides.{nat_tests}
use Rattle.tcp_numbers.proofs.flags.Flags.contains.Goals as goal

pub returns : goal.returns
returns c = grind (arith, common_steps, nat_tests)
