use Rattle.tcp_replay.proofs.Words.{arith, common_steps}
use Rattle.tcp_replay.proofs.world.World.party.Goals as goal

pub returns-in-A : goal.returns-in-A
returns-in-A g c = grind (arith, common_steps)
