use Rattle.tcp_strangers.proofs.Sequences.{few-numbers}
use Rattle.tcp_strangers.proofs.few_numbers_let_in.Goals as goal

pub returns : goal.returns
returns c = few-numbers
