use Rattle.std.proofs.Common.{arith}
use Rattle.tcp_pacing.proofs.Rates.{product_fits}
use Rattle.tcp_pacing.proofs.pace.Pace.interval.Goals as goal

pub overflow_mul-portion : goal.overflow_mul-portion
overflow_mul-portion c = let h = product_fits c.args.self in grind (arith, h)
