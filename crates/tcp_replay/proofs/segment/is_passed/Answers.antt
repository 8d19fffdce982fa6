use Rattle.tcp_replay.proofs.Words.{arith, common_steps}
use Rattle.tcp_replay.proofs.segment.is_passed.Goals as goal

pub returns-then-life-next : goal.returns-then-life-next
returns-then-life-next c = grind (arith, common_steps)

pub returns-else-life-next : goal.returns-else-life-next
returns-else-life-next c = grind (arith, common_steps)
