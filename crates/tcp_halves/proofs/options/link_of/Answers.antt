use Rattle.std.proofs.Common.{arith}
use Rattle.std.proofs.lemmas.Grind.{common_steps}
use Rattle.tcp_halves.specs.Options.{link_of}
use Rattle.tcp_halves.proofs.options.link_of.Goals as goal

pub returns-then-config-clause-value : goal.returns-then-config-clause-value
unfolding link_of
returns-then-config-clause-value c = grind (arith, common_steps)

pub returns-else-config-clause-value : goal.returns-else-config-clause-value
unfolding link_of
returns-else-config-clause-value c = grind (arith, common_steps)
