use Rattle.std.specs.Prelude.{◌+◌, ◌≤◌, length, Result}
use Rattle.tcp_wire.specs.declared.fault.DecodeError.{DecodeError}
use Rattle.tcp_wire.specs.Decoded.{options_in}
use Rattle.tcp_wire.proofs.ReadOptions.{Checks}
use Rattle.tcp_wire.proofs.option_reading.check_options.Given as goal

-- a check of what is left is one of the whole
abbrev pub invariant-loop-left : goal.invariant-loop-left
invariant-loop-left l =
    (length l.rest ≤ 40) × (l.at + length l.rest ≤ 60)
    × ((r : Result (Unit {0}) DecodeError) → Checks r (options_in l.left l.at l.rest) → Checks r (options_in l.fn.left l.fn.at l.fn.bytes))

abbrev pub decreases-loop-left : goal.decreases-loop-left
decreases-loop-left l = l.left
