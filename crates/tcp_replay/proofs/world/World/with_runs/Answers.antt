use Rattle.tcp_replay.proofs.Words.{arith, common_steps}
use Rattle.tcp_replay.proofs.world.World.with_runs.Goals as goal

pub returns-clause-new : goal.returns-clause-new
returns-clause-new c = grind (arith, common_steps)

pub returns-clause-fault : goal.returns-clause-fault
returns-clause-fault c = grind (arith, common_steps)
