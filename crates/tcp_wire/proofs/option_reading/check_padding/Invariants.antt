use Rattle.std.proofs.Common.{◌≡◌, ◌+◌, drop}
use Rattle.tcp_wire.specs.Decoded.{count_zeros}
use Rattle.tcp_wire.proofs.option_reading.check_padding.Given as goal

abbrev pub invariant-loop-i : goal.invariant-loop-i
invariant-loop-i l = l.i + count_zeros (drop l.i l.bytes) ≡ count_zeros l.bytes
