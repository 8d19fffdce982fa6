use Rattle.std.proofs.Common.{◌≡◌, ◌%◌, ◌≤◌, length, take}
use Rattle.tcp_numbers.proofs.LaneSums.{Taken}
use Rattle.tcp_numbers.proofs.lanes.lane_sum.Given as goal

abbrev pub invariant-loop-front : goal.invariant-loop-front
invariant-loop-front l = record {
  inside : l.whole ≤ length l.bytes;
  few : l.whole ≤ 8192;
  loads : l.whole % 32 ≡ 0;
  taken : Taken 32 l.mixed l.lows l.front (take l.whole l.bytes);
}

abbrev pub decreases-loop-front : goal.decreases-loop-front
decreases-loop-front l = length l.front
