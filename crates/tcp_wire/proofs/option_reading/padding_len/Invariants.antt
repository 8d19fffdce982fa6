use Rattle.std.proofs.Common.{◌≡◌, ◌≤◌, length}
use Rattle.tcp_wire.specs.Decoded.{options_of, IsReadable}
use Rattle.tcp_wire.proofs.option_reading.padding_len.Given as goal

-- what is left has the padding of the whole
abbrev pub invariant-loop-len : goal.invariant-loop-len
invariant-loop-len l =
    (length l.rest ≤ 40) × IsReadable l.rest × ((options_of l.rest).1 ≡ (options_of l.fn.area).1)

abbrev pub decreases-loop-len : goal.decreases-loop-len
decreases-loop-len l = length l.rest
