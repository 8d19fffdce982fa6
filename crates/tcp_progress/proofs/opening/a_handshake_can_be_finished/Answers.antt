use Rattle.tcp_progress.proofs.handshake.FinishedInEight.{can-open, handshake_lem}
use Rattle.tcp_progress.proofs.steady.AlwaysSteady.{in-every-world-with-runs}
use Rattle.tcp_progress.specs.Handshake.{CanOpen}
use Rattle.tcp_progress.proofs.opening.a_handshake_can_be_finished.Goals as goal

pub returns-clause-usual : goal.returns-clause-usual
returns-clause-usual c = handshake_lem

pub returns-clause-with_runs : goal.returns-clause-with_runs
returns-clause-with_runs c = in-every-world-with-runs CanOpen can-open
