use Rattle.std.proofs.Common.{arith}
use Rattle.tcp_pacing.proofs.Rates.{time_fits, portion_fits}
use Rattle.tcp_pacing.proofs.pace.Pace.portion.Goals as goal

pub overflow_mul-segments-2 : goal.overflow_mul-segments-2
overflow_mul-segments-2 c = let h = time_fits c.args.self in grind (arith, h)

pub overflow_mul-result : goal.overflow_mul-result
overflow_mul-result c = let h = portion_fits c.args.self in grind (arith, h)
