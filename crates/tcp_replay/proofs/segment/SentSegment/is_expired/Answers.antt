use Rattle.tcp_replay.proofs.Words.{arith, common_steps}
use Rattle.tcp_replay.proofs.segment.SentSegment.is_expired.Goals as goal

pub returns-else-late : goal.returns-else-late
returns-else-late g c = grind (arith, common_steps)
