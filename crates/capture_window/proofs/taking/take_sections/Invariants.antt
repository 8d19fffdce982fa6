use Rattle.capture_window.specs.Windows.{CountsSections}
use Rattle.capture_window.proofs.taking.take_sections.Given as goal

-- what was taken, and what is held and remains, are all
abbrev pub invariant-loop-block : goal.invariant-loop-block
invariant-loop-block g l = CountsSections l.fn.section (g.I.Input.remaining l.fn.input) l.fn.window l.count l.section (g.I.Input.remaining l.input) l.window
