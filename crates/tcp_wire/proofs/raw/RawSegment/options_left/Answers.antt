use Rattle.std.proofs.Common.{arith}
use Rattle.std.proofs.lemmas.Grind.{common_steps}
use Rattle.tcp_wire.proofs.raw.RawSegment.options_left.Goals as goal

pub of-requires-clause-reads : goal.of-requires-clause-reads
of-requires-clause-reads c = grind (arith, common_steps)

pub returns : goal.returns
returns c = grind (arith, common_steps)
