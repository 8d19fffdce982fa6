use Rattle.capture_window.specs.Windows.{TellsSections}
use Rattle.capture_window.proofs.sections.section_lengths.Given as goal

-- what was found, and what is held and remains, are all
abbrev pub invariant-loop-block : goal.invariant-loop-block
invariant-loop-block g l = TellsSections l.fn.section (g.I.Input.remaining l.fn.input) l.fn.window l.found.items l.section (g.I.Input.remaining l.input) l.window
