use Rattle.tcp_reasm.proofs.Newest.{newest_come_first_lem}
use Rattle.tcp_reasm.proofs.laws.newest_come_first.Goals as goal

pub returns : goal.returns
returns c = newest_come_first_lem
