use Rattle.std.proofs.Common.{◌-◌, ◌^◌}
use Rattle.capture_window.specs.Windows.{Counts}
use Rattle.capture_window.proofs.taking.take_frames.Given as goal

-- what was taken, and what is held and remains, are all
abbrev pub invariant-loop-taker : goal.invariant-loop-taker
invariant-loop-taker g l = Counts l.form (g.I.Input.remaining l.fn.input) l.fn.window l.count (g.I.Input.remaining l.input) l.window

abbrev pub decreases-loop-taker : goal.decreases-loop-taker
decreases-loop-taker g l = 2 ^ 64 - l.count
