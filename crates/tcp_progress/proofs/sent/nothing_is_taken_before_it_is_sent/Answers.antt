use Rattle.tcp_reasm.specs.Reassembly.{default_runs}
use Rattle.tcp_progress.proofs.steady.OnlySent.{only_sent_lem}
use Rattle.tcp_progress.proofs.sent.nothing_is_taken_before_it_is_sent.Goals as goal

-- each event keeps what holds of both ends
pub returns-clause-usual : goal.returns-clause-usual
returns-clause-usual c = λ life a b list most one two fits. only_sent_lem life a b default_runs default_runs list most one two fits

pub returns-clause-with_runs : goal.returns-clause-with_runs
returns-clause-with_runs c = only_sent_lem
