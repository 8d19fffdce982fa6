use Rattle.std.proofs.Common.{◌-◌, ◌^◌, length}
use Rattle.capture_window.specs.Windows.{Holds}
use Rattle.capture_window.proofs.sections.fill_block.Given as goal

abbrev pub invariant-loop-window : goal.invariant-loop-window
invariant-loop-window g l = Holds (g.I.Input.remaining l.fn.input) l.fn.window (g.I.Input.remaining l.input) l.window

abbrev pub decreases-loop-window : goal.decreases-loop-window
decreases-loop-window g l = 2 ^ 63 - length l.window
