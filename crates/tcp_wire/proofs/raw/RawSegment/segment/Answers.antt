use Rattle.std.proofs.Common.{arith}
use Rattle.std.proofs.lemmas.Grind.{common_steps}
use Rattle.tcp_wire.proofs.raw.RawSegment.segment.Goals as goal

pub with_options-requires-clause-options : goal.with_options-requires-clause-options
with_options-requires-clause-options c = grind (arith, common_steps)
