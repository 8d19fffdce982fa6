use Rattle.std.proofs.Common.{◌-◌, ◌^◌, length}
use Rattle.capture_window.specs.Windows.{Holds}
use Rattle.capture_window.proofs.reading.fill.Given as goal

abbrev pub invariant-loop-form : goal.invariant-loop-form
invariant-loop-form g l = Holds (g.I.Input.remaining l.fn.input) l.fn.window (g.I.Input.remaining l.input) l.window

abbrev pub decreases-loop-form : goal.decreases-loop-form
decreases-loop-form g l = 2 ^ 63 - length l.window
