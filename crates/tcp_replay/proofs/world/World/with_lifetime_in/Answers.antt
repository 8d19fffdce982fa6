use Rattle.tcp_replay.proofs.Words.{arith, common_steps}
use Rattle.tcp_replay.proofs.world.World.with_lifetime_in.Goals as goal

pub returns-clause-new : goal.returns-clause-new
returns-clause-new g c = grind (arith, common_steps)
