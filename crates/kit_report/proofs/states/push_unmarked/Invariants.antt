use Rattle.std.proofs.Common.{◌≡◌, ◌++◌, string_bytes}
use Rattle.kit_text.specs.Texts.{blocks_text}
use Rattle.kit_report.specs.Runs.{runs_text}
use Rattle.kit_report.specs.Steps.{unmarked_runs, max_unmarked_runs}
use Rattle.kit_report.proofs.states.push_unmarked.Given as goal

abbrev pub invariant-loop-left : goal.invariant-loop-left
invariant-loop-left g l =
    string_bytes l.text ++ runs_text l.is_first (unmarked_runs l.left l.end.sending.queue l.at)
    ≡ string_bytes l.fn.text ++ blocks_text (unmarked_runs max_unmarked_runs l.end.sending.queue 0)

abbrev pub decreases-loop-left : goal.decreases-loop-left
decreases-loop-left g l = l.left
