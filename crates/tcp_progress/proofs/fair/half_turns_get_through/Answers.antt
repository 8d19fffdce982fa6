use Rattle.tcp_progress.proofs.turn.BothHalves.{halved-kept, halved_lem}
use Rattle.tcp_progress.proofs.steady.AlwaysSteady.{in-every-world-with-runs}
use Rattle.tcp_progress.specs.Half.{GetsThroughByHalves}
use Rattle.tcp_progress.proofs.fair.half_turns_get_through.Goals as goal

pub returns-clause-usual : goal.returns-clause-usual
returns-clause-usual c = halved_lem

pub returns-clause-with_runs : goal.returns-clause-with_runs
returns-clause-with_runs c = in-every-world-with-runs GetsThroughByHalves halved-kept
