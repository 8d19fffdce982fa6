use Rattle.tcp_progress.proofs.laws.UnsentSent.{answer_lem}
use Rattle.tcp_progress.proofs.sending.who_is_spoken_to_answers.Goals as goal

pub returns : goal.returns
returns c = answer_lem
