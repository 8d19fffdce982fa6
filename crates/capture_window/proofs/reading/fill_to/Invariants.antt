use Rattle.std.proofs.Common.{◌-◌, ◌^◌, length}
use Rattle.capture_window.specs.Windows.{Holds}
use Rattle.capture_window.proofs.reading.fill_to.Given as goal

abbrev pub invariant-loop-input : goal.invariant-loop-input
invariant-loop-input g l = Holds (g.I.Input.remaining l.fn.input) l.fn.window (g.I.Input.remaining l.input) l.window

abbrev pub decreases-loop-input : goal.decreases-loop-input
decreases-loop-input g l = 2 ^ 63 - length l.window
