use Rattle.tcp_ends.proofs.Guarded.{incidents_guarded_lem, two_guarded_lem}
use Rattle.tcp_ends.proofs.two_guarded_ends_are_safe.Goals as goal

pub returns-clause-happen : goal.returns-clause-happen
returns-clause-happen g c = incidents_guarded_lem _

pub returns-clause-safe : goal.returns-clause-safe
returns-clause-safe g c = two_guarded_lem _
