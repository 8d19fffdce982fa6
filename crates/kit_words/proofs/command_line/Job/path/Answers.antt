use Rattle.std.proofs.Common.{arith}
use Rattle.std.proofs.lemmas.Grind.{common_steps}
use Rattle.kit_words.proofs.command_line.Job.path.Goals as goal

pub returns-in-Replay : goal.returns-in-Replay
returns-in-Replay c = grind (arith, common_steps)
