use Rattle.tcp_strangers.proofs.Bursts.{bursts-rarely}
use Rattle.tcp_strangers.proofs.bursts_rarely_get_in.Goals as goal

pub returns : goal.returns
returns c = bursts-rarely
