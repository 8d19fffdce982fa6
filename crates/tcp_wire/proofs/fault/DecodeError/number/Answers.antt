use Rattle.std.proofs.Common.{arith}
use Rattle.std.proofs.lemmas.Grind.{common_steps}
use Rattle.tcp_wire.proofs.fault.DecodeError.number.Goals as goal

pub returns-in-BadChecksum : goal.returns-in-BadChecksum
returns-in-BadChecksum c = grind (arith, common_steps)
