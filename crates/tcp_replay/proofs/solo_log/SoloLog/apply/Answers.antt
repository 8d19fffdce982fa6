use Rattle.tcp_replay.proofs.Words.{arith, common_steps}
use Rattle.tcp_replay.proofs.solo_log.SoloLog.apply.Goals as goal

pub returns-in-Arrive-clause-endpoint : goal.returns-in-Arrive-clause-endpoint
returns-in-Arrive-clause-endpoint g c = grind (arith, common_steps)

pub returns-in-Arrive-clause-delivered : goal.returns-in-Arrive-clause-delivered
returns-in-Arrive-clause-delivered g c = grind (arith, common_steps)
