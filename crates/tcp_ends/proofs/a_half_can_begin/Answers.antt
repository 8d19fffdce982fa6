use Rattle.tcp_ends.proofs.Beginning.{begins_lem}
use Rattle.tcp_ends.proofs.a_half_can_begin.Goals as goal

pub returns : goal.returns
returns g c = begins_lem _
