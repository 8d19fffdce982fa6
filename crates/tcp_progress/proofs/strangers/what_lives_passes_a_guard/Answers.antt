use Rattle.tcp_progress.proofs.laws.Guarded.{what-lives-passes}
use Rattle.tcp_progress.proofs.strangers.what_lives_passes_a_guard.Goals as goal

pub returns : goal.returns
returns c = what-lives-passes
