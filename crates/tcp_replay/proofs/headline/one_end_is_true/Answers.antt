use Rattle.tcp_replay.proofs.Words.{default_runs}
use Rattle.tcp_replay.proofs.one_end.SoloRuns.{one_end_is_true_lem}
use Rattle.tcp_replay.proofs.headline.one_end_is_true.Goals as goal

-- each event keeps what holds of one end
pub returns-clause-usual : goal.returns-clause-usual
returns-clause-usual c = λ config list is fits. one_end_is_true_lem config default_runs list is fits

pub returns-clause-with_runs : goal.returns-clause-with_runs
returns-clause-with_runs c = one_end_is_true_lem
