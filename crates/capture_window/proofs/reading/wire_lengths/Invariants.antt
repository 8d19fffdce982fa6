use Rattle.std.proofs.Common.{◌-◌, ◌^◌, vec_len}
use Rattle.capture_window.specs.Windows.{Tells}
use Rattle.capture_window.proofs.reading.wire_lengths.Given as goal

abbrev pub invariant-loop-found : goal.invariant-loop-found
invariant-loop-found g l = Tells l.form (g.I.Input.remaining l.fn.input) l.fn.window l.found.items (g.I.Input.remaining l.input) l.window

abbrev pub decreases-loop-found : goal.decreases-loop-found
decreases-loop-found g l = 2 ^ 63 - vec_len l.found
