use Rattle.tcp_replay.proofs.run.Worlds.{every_run_is_safe_lem, every_run_with_runs_lem}
use Rattle.tcp_replay.proofs.headline.every_run_is_safe.Goals as goal

-- two new ends are sound, a run keeps them so, and what is sound is safe
pub returns-clause-usual : goal.returns-clause-usual
returns-clause-usual c = every_run_is_safe_lem

pub returns-clause-with_runs : goal.returns-clause-with_runs
returns-clause-with_runs c = every_run_with_runs_lem
