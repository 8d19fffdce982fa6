use Rattle.tcp_strangers.proofs.Sequences.{one-answers}
use Rattle.tcp_strangers.proofs.one_number_answers.Goals as goal

pub returns : goal.returns
returns c = one-answers
