use Rattle.tcp_progress.proofs.laws.AmongStrangers.{blind-calm}
use Rattle.tcp_progress.proofs.strangers.a_blind_injection_is_calm.Goals as goal

pub returns : goal.returns
returns c = blind-calm
