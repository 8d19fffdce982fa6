use Rattle.std.proofs.Common.{rules}
use Rattle.tcp_congestion.proofs.Compared.{compared}
use Rattle.tcp_congestion.proofs.cubic.CubicPartialEq.eq.Goals as goal

pub returns : goal.returns
returns c = search (rules, compared) depth 12
