use Rattle.std.proofs.Common.{arith}
use Rattle.std.proofs.lemmas.Grind.{common_steps}
use Rattle.region_heap.proofs.region.Region.take.Goals as goal

pub returns : goal.returns
returns c = grind (arith, common_steps)
