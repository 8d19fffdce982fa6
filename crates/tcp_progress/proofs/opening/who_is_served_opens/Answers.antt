use Rattle.tcp_progress.proofs.handshake.BothOpen.{opens-and, opens_lem}
use Rattle.tcp_progress.proofs.steady.AlwaysSteady.{in-every-world-with-runs}
use Rattle.tcp_progress.specs.Handshake.{OpensAndGetsThrough}
use Rattle.tcp_progress.proofs.opening.who_is_served_opens.Goals as goal

pub returns-clause-usual : goal.returns-clause-usual
returns-clause-usual c = opens_lem

pub returns-clause-with_runs : goal.returns-clause-with_runs
returns-clause-with_runs c = in-every-world-with-runs OpensAndGetsThrough opens-and
