use Rattle.std.proofs.Common.{arith}
use Rattle.std.proofs.lemmas.Grind.{common_steps}
use Rattle.tcp_wire.proofs.Reading.{no_area}
use Rattle.tcp_wire.proofs.raw.RawSegment.has_area.Goals as goal

pub returns-clause-none : goal.returns-clause-none
returns-clause-none c = λ none. no_area c.args.self.now.area.now (grind (arith, common_steps, c.is_empty.ensures))

pub returns-clause-area : goal.returns-clause-area
returns-clause-area c = grind (arith, common_steps)
