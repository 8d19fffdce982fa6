use Rattle.tcp_replay.proofs.Words.{arith, common_steps}
use Rattle.tcp_replay.proofs.solo_log.solo_with_runs.Goals as goal

pub returns-clause-log : goal.returns-clause-log
returns-clause-log c = grind (arith, common_steps)
