use Rattle.std.proofs.Common.{◌≡◌, ◌++◌, drop, string_bytes}
use Rattle.kit_text.specs.Texts.{blocks_text}
use Rattle.kit_report.specs.Runs.{runs_text}
use Rattle.kit_report.proofs.states.push_runs.Given as goal

abbrev pub invariant-loop-run : goal.invariant-loop-run
invariant-loop-run g l =
    string_bytes l.text ++ runs_text l.is_first (drop l.run-index l.runs) ≡ string_bytes l.fn.text ++ blocks_text l.runs
