use Rattle.std.proofs.Common.{length}
use Rattle.tcp_numbers.proofs.LaneSums.{Taken}
use Rattle.tcp_numbers.proofs.lanes.short_lane_sum.Given as goal

abbrev pub invariant-loop-rest : goal.invariant-loop-rest
invariant-loop-rest l = Taken 16 l.mixed l.lows l.rest l.bytes

abbrev pub decreases-loop-rest : goal.decreases-loop-rest
decreases-loop-rest l = length l.rest
