use Rattle.tcp_progress.proofs.laws.UnsentSent.{new_lem}
use Rattle.tcp_progress.proofs.sending.what_is_unsent_goes_out.Goals as goal

pub returns : goal.returns
returns c = new_lem
