use Rattle.tcp_replay.proofs.Words.{arith, common_steps}
use Rattle.tcp_replay.proofs.world.World.closed.Goals as goal

pub returns : goal.returns
returns g c = grind (arith, common_steps)
