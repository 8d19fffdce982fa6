use Rattle.tcp_ends.proofs.Quietly.{next_lem}
use Rattle.tcp_ends.proofs.what_is_pending_goes_at_next.Goals as goal

pub returns : goal.returns
returns g c = next_lem _
