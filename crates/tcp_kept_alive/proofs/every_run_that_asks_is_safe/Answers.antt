use Rattle.tcp_kept_alive.proofs.Runs.{every_run_that_asks_lem}
use Rattle.tcp_kept_alive.proofs.every_run_that_asks_is_safe.Goals as goal

pub returns : goal.returns
returns c = every_run_that_asks_lem
