use Rattle.std.proofs.Common.{◌≡◌, ◌+◌, ◌++◌, length}
use Rattle.std.specs.Prelude.{◌||◌}
use Rattle.kit_judge.specs.Logs.{passages_of, first_bad_line}
use Rattle.kit_judge.specs.Verdict.{findings_from, findings_of, notes_from, notes_of, any_sent}
use Rattle.kit_judge.proofs.judging.find_all.Given as goal

abbrev pub invariant-loop-number : goal.invariant-loop-number
invariant-loop-number g l =
    (l.found.items ++ findings_from l.fn.is_complete l.judge (passages_of l.number-iterator) ≡ findings_of l.fn.is_complete (passages_of l.fn.lines))
    × (l.notes.items ++ notes_from l.fn.is_complete l.judge (passages_of l.number-iterator) ≡ notes_of l.fn.is_complete (passages_of l.fn.lines))
    × (l.segments + length (passages_of l.number-iterator) ≡ length (passages_of l.fn.lines))
    × ((l.any_sent || any_sent (passages_of l.number-iterator)) ≡ any_sent (passages_of l.fn.lines))
    × (first_bad_line l.number-iterator ≡ first_bad_line l.fn.lines)
