use Rattle.tcp_replay.proofs.Words.{arith, common_steps}
use Rattle.tcp_replay.proofs.event.Side.name.Goals as goal

pub returns-in-A : goal.returns-in-A
returns-in-A c = grind (arith, common_steps)
