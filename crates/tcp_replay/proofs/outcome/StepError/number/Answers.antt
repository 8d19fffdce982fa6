use Rattle.tcp_replay.proofs.Words.{arith, common_steps}
use Rattle.tcp_replay.proofs.outcome.StepError.number.Goals as goal

pub returns-in-NoChange : goal.returns-in-NoChange
returns-in-NoChange c = grind (arith, common_steps)
