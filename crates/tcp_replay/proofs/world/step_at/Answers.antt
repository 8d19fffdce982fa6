use Rattle.tcp_replay.proofs.Words.{effect_of, rules}
use Rattle.tcp_replay.proofs.world.step_at.Goals as goal

pub returns-in-Send-clause-there : goal.returns-in-Send-clause-there
unfolding effect_of
returns-in-Send-clause-there g c = search rules

pub returns-in-Send-clause-err : goal.returns-in-Send-clause-err
returns-in-Send-clause-err g c = search rules
