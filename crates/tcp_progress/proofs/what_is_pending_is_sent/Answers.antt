use Rattle.tcp_progress.proofs.laws.PendingSent.{pending_sent_lem}
use Rattle.tcp_progress.proofs.what_is_pending_is_sent.Goals as goal

pub returns : goal.returns
returns c = pending_sent_lem
