use Rattle.tcp_keep_alive.proofs.Answered.{keep_alive_lem}
use Rattle.tcp_keep_alive.proofs.laws.keep_alive_is_acknowledge.Goals as goal

pub returns : goal.returns
returns c = keep_alive_lem
