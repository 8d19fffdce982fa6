use Rattle.tcp_progress.proofs.steady.AlwaysSteady.{in-every-world-with-runs, kept-steady, steady_lem}
use Rattle.tcp_progress.specs.Steady.{IsSteady}
use Rattle.tcp_progress.proofs.settled.every_world_is_steady.Goals as goal

pub returns-clause-usual : goal.returns-clause-usual
returns-clause-usual c = steady_lem

pub returns-clause-with_runs : goal.returns-clause-with_runs
returns-clause-with_runs c = in-every-world-with-runs IsSteady kept-steady
