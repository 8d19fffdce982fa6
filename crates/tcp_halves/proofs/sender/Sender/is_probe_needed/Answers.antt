use Rattle.std.proofs.Common.{arith}
use Rattle.std.proofs.lemmas.Grind.{common_steps}
use Rattle.tcp_halves.proofs.sender.Sender.is_probe_needed.Goals as goal

pub returns-then-count_unsent-gt0 : goal.returns-then-count_unsent-gt0
returns-then-count_unsent-gt0 g c = grind (arith, common_steps)
