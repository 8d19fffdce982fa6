use Rattle.tcp_progress.proofs.laws.AmongStrangers.{sent-among, steady-among, steady-with-runs}
use Rattle.tcp_progress.proofs.strangers.steady_among_strangers.Goals as goal

pub returns-clause-steady : goal.returns-clause-steady
returns-clause-steady c = steady-among

pub returns-clause-taken : goal.returns-clause-taken
returns-clause-taken c = sent-among

pub returns-clause-with_runs : goal.returns-clause-with_runs
returns-clause-with_runs c = steady-with-runs
