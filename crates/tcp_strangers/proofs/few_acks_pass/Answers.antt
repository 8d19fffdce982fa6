use Rattle.tcp_strangers.proofs.Guards.{few-acks}
use Rattle.tcp_strangers.proofs.few_acks_pass.Goals as goal

pub returns : goal.returns
returns c = few-acks
