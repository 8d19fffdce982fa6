use Rattle.tcp_ends.proofs.Emptying.{emptying_lem}
use Rattle.tcp_ends.proofs.emitting_all_emits_what_is_pending.Goals as goal

pub returns : goal.returns
returns g c = emptying_lem _
