use Rattle.std.proofs.Common.{arith}
use Rattle.std.proofs.lemmas.Grind.{common_steps}
use Rattle.tcp_halves.specs.Sent.{new_text_of}
use Rattle.tcp_halves.proofs.sender.Sender.new_text_due.Goals as goal

pub returns-clause-value : goal.returns-clause-value
unfolding new_text_of
returns-clause-value g c = grind (arith, common_steps)
