use Rattle.tcp_replay.proofs.run.Injections.{among_strangers, among_strangers_with_runs}
use Rattle.tcp_replay.proofs.headline.every_run_among_strangers_is_safe.Goals as goal

pub returns-clause-usual : goal.returns-clause-usual
returns-clause-usual c = among_strangers

pub returns-clause-with_runs : goal.returns-clause-with_runs
returns-clause-with_runs c = among_strangers_with_runs
