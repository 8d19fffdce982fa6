use Rattle.tcp_strangers.proofs.Sequences.{one-resets}
use Rattle.tcp_strangers.proofs.one_number_resets.Goals as goal

pub returns : goal.returns
returns c = one-resets
