use Rattle.tcp_reasm.specs.Reassembly.{default_runs}
use Rattle.tcp_judge.proofs.Runs.{said-right}
use Rattle.tcp_judge.proofs.headline.no_acknowledgement_is_accused.Goals as goal

-- each event keeps what was heard
pub returns-clause-usual : goal.returns-clause-usual
returns-clause-usual c config list is fits = said-right config default_runs list is fits

pub returns-clause-with_runs : goal.returns-clause-with_runs
returns-clause-with_runs c = said-right
