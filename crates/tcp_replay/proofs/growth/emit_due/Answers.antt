use Rattle.tcp_replay.proofs.Words.{arith, common_steps}
use Rattle.tcp_replay.proofs.run.Parties.{emitted-least}
use Rattle.tcp_replay.proofs.growth.emit_due.Goals as goal

pub returns-clause-least : goal.returns-clause-least
returns-clause-least g c = emitted-least c.args.endpoint.now _ (grind (arith, common_steps))
