use Rattle.std.proofs.Common.{arith}
use Rattle.tcp_judge.proofs.Places.{position_most}
use Rattle.tcp_judge.proofs.judge.Judge.place.Goals as goal

pub overflow_add-result : goal.overflow_add-result
overflow_add-result g c = omega (arith, position_most)

pub returns-then-is_syn-clause-most : goal.returns-then-is_syn-clause-most
returns-then-is_syn-clause-most g c = omega (arith, position_most)

pub returns-else-is_syn-clause-most : goal.returns-else-is_syn-clause-most
returns-else-is_syn-clause-most g c = omega (arith, position_most)
