use Rattle.tcp_progress.proofs.laws.NotStuck.{not_stuck-kept, not_stuck_lem}
use Rattle.tcp_progress.proofs.steady.AlwaysSteady.{in-every-world-with-runs}
use Rattle.tcp_progress.specs.Settled.{IsNotStuck}
use Rattle.tcp_progress.proofs.settled.no_world_is_stuck.Goals as goal

pub returns-clause-usual : goal.returns-clause-usual
returns-clause-usual c = not_stuck_lem

pub returns-clause-with_runs : goal.returns-clause-with_runs
returns-clause-with_runs c = in-every-world-with-runs IsNotStuck not_stuck-kept
