use Rattle.tcp_reasm.specs.Reassembly.{default_runs}
use Rattle.tcp_judge.proofs.Correct.{clean}
use Rattle.tcp_judge.proofs.headline.no_short_stream_is_accused.Goals as goal

-- what it says is right, and is its user's
pub returns-clause-usual : goal.returns-clause-usual
returns-clause-usual c config list is fits short = clean config default_runs list is fits short

pub returns-clause-with_runs : goal.returns-clause-with_runs
returns-clause-with_runs c = clean
