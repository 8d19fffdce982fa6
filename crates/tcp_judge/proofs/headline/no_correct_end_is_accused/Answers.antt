use Rattle.tcp_reasm.specs.Reassembly.{default_runs}
use Rattle.tcp_judge.proofs.Correct.{clean}
use Rattle.tcp_judge.proofs.Limits.{positions-short}
use Rattle.tcp_judge.proofs.headline.no_correct_end_is_accused.Goals as goal

-- a limit keeps the stream short
pub returns-clause-usual : goal.returns-clause-usual
returns-clause-usual c config list is short fits = clean config default_runs list is fits (positions-short config default_runs list is fits short)

pub returns-clause-with_runs : goal.returns-clause-with_runs
returns-clause-with_runs c config runs list is short fits = clean config runs list is fits (positions-short config runs list is fits short)
