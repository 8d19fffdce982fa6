use Rattle.tcp_progress.proofs.laws.Guarded.{guarded-goes-on, guarded-is-safe}
use Rattle.tcp_progress.proofs.strangers.guarded_ends_are_safe_and_go_on.Goals as goal

pub returns-clause-safe : goal.returns-clause-safe
returns-clause-safe c = guarded-is-safe

pub returns-clause-goes_on : goal.returns-clause-goes_on
returns-clause-goes_on c = guarded-goes-on
