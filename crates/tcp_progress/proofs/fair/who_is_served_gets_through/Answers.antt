use Rattle.tcp_progress.proofs.{turn.Lowering.lowers_lem, turn.Turning.served-kept, turn.Turning.served_lem}
use Rattle.tcp_progress.proofs.steady.AlwaysSteady.{in-every-world-with-runs}
use Rattle.tcp_progress.specs.Fair.{GetsThrough}
use Rattle.tcp_progress.proofs.fair.who_is_served_gets_through.Goals as goal

pub returns-clause-usual : goal.returns-clause-usual
returns-clause-usual c = served_lem lowers_lem

pub returns-clause-with_runs : goal.returns-clause-with_runs
returns-clause-with_runs c = in-every-world-with-runs GetsThrough (served-kept lowers_lem)
