use Rattle.tcp_progress.proofs.turn.Draining.{burst_lem, bursts-end}
use Rattle.tcp_progress.proofs.steady.AlwaysSteady.{in-every-world-with-runs}
use Rattle.tcp_progress.specs.Fair.{BurstEnds}
use Rattle.tcp_replay.specs.declared.event.Side.{Side}
use Rattle.tcp_progress.proofs.fair.each_burst_ends.Goals as goal

pub returns-clause-usual : goal.returns-clause-usual
returns-clause-usual c = burst_lem

pub returns-clause-with_runs : goal.returns-clause-with_runs
returns-clause-with_runs c = in-every-world-with-runs (λ w. (side : Side) → BurstEnds w side) bursts-end
