use Rattle.tcp_pacing.proofs.Waiting.{held_lem}
use Rattle.tcp_pacing.proofs.laws.held_text_goes.Goals as goal

pub returns : goal.returns
returns c = held_lem
