use Rattle.std.proofs.Common.{arith}
use Rattle.std.proofs.lemmas.Bool.Decides.{nat_tests}
use Rattle.std.proofs.lemmas.Grind.{common_steps}
use Rattle.tcp_numbers.specs.Checksum.{Checks}
use Rattle.tcp_numbers.proofs.WordSums.{one_place}
use Rattle.tcp_numbers.proofs.sums.checks.Goals as goal

pub returns-clause-exact : goal.returns-clause-exact
returns-clause-exact c = grind (arith, common_steps, nat_tests)

pub returns-clause-one_place : goal.returns-clause-one_place
returns-clause-one_place c = λ holds other differs.
    let first : Checks c.args.src.0 c.args.dst.0 c.args.bytes.now = grind (arith, nat_tests, c.pseudo_sum.ensures.exact, c.word_sum.ensures.exact, holds) in
    one_place c.args.src.0 c.args.dst.0 c.args.bytes.now other differs first
