use Rattle.tcp_replay.proofs.Words.{arith, common_steps}
use Rattle.tcp_replay.proofs.solo_log.solo_in.Goals as goal

pub returns-clause-log : goal.returns-clause-log
returns-clause-log g c = grind (arith, common_steps)
