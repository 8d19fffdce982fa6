use Rattle.tcp_progress.proofs.turn.CalmWorlds.{left-kept, left_lem}
use Rattle.tcp_progress.proofs.steady.AlwaysSteady.{in-every-world-with-runs}
use Rattle.tcp_progress.specs.Fair.{NeverGrows}
use Rattle.tcp_progress.proofs.fair.what_is_left_never_grows.Goals as goal

pub returns-clause-usual : goal.returns-clause-usual
returns-clause-usual c = left_lem

pub returns-clause-with_runs : goal.returns-clause-with_runs
returns-clause-with_runs c = in-every-world-with-runs NeverGrows left-kept
