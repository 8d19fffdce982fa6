use Rattle.tcp_replay.proofs.run.Injections.{kept-out-pending}
use Rattle.tcp_strangers.proofs.what_is_kept_out_changes_only_pending.Goals as goal

pub returns : goal.returns
returns c = kept-out-pending
