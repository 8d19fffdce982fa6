use Rattle.std.proofs.Common.{length}
use Rattle.tcp_wire.proofs.ReadOptions.{OptionsRead, ReadUpTo}
use Rattle.tcp_wire.proofs.option_reading.read_options.Given as goal

abbrev pub invariant-loop-option : goal.invariant-loop-option
invariant-loop-option l =
    OptionsRead l.options.items l.unread.0.now l.area × ReadUpTo l.initial.unread.0.ref_ptr l.options.items l.unread.0.ref_ptr

abbrev pub decreases-loop-option : goal.decreases-loop-option
decreases-loop-option l = length l.unread.0.now
