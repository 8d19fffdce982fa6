use Rattle.tcp_progress.proofs.laws.NextTaken.{next_lem}
use Rattle.tcp_progress.proofs.what_is_next_is_taken.Goals as goal

pub returns : goal.returns
returns g c = next_lem c.args.endpoint.now c.what_always_holds.ensures
