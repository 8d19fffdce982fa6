use Rattle.tcp_strangers.proofs.Guards.{few-numbers-shut}
use Rattle.tcp_strangers.proofs.few_numbers_pass_at_a_shut_window.Goals as goal

pub returns : goal.returns
returns c = few-numbers-shut
