use Rattle.tcp_strangers.proofs.Acknowledgements.{any-number}
use Rattle.tcp_strangers.proofs.any_number_at_a_shut_window.Goals as goal

pub returns : goal.returns
returns c = any-number
