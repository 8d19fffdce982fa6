use Rattle.tcp_ends.proofs.QuietHalves.{quiet_halves_lem, quiet_with_runs_lem}
use Rattle.tcp_ends.proofs.two_ends_get_through_by_quiet_halves.Goals as goal

pub returns-clause-usual : goal.returns-clause-usual
returns-clause-usual g c = quiet_halves_lem _

pub returns-clause-with_runs : goal.returns-clause-with_runs
returns-clause-with_runs g c = quiet_with_runs_lem _
