use Rattle.tcp_kept_alive.proofs.Called.{keep_alive_is_a_call_lem}
use Rattle.tcp_kept_alive.proofs.keep_alive_is_a_call.Goals as goal

pub returns : goal.returns
returns c = keep_alive_is_a_call_lem
