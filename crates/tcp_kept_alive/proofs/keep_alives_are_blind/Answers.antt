use Rattle.tcp_kept_alive.proofs.Called.{keep_alives_are_blind_lem}
use Rattle.tcp_kept_alive.proofs.keep_alives_are_blind.Goals as goal

pub returns : goal.returns
returns c = keep_alives_are_blind_lem
