use Rattle.tcp_ends.proofs.Quietly.{goes_lem}
use Rattle.tcp_ends.proofs.what_expired_goes_out.Goals as goal

pub returns : goal.returns
returns g c = goes_lem _
