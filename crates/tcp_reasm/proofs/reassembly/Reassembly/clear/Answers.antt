use Rattle.std.proofs.lemmas.Grind.{common_steps}
use Rattle.std.proofs.Common.{arith}
use Rattle.tcp_reasm.proofs.reassembly.Reassembly.clear.Goals as goal

pub returns-clause-state : goal.returns-clause-state
returns-clause-state g c = grind (arith, common_steps)
