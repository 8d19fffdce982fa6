use Rattle.tcp_numbers.proofs.Folding.{folded_some}
use Rattle.tcp_numbers.proofs.parts.partial_checksum.Goals as goal

pub returns-clause-some : goal.returns-clause-some
returns-clause-some c = folded_some c.pseudo_sum-sum.result c.pseudo_sum-sum.ensures.some
