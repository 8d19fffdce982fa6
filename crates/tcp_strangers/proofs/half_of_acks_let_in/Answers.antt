use Rattle.tcp_strangers.proofs.Acknowledgements.{half-lets_in}
use Rattle.tcp_strangers.proofs.half_of_acks_let_in.Goals as goal

pub returns : goal.returns
returns c = half-lets_in
