use Rattle.std.proofs.Common.{◌≡◌, ◌+◌, ◌++◌, map, drop, string_bytes}
use Rattle.kit_script.specs.Script.{turn_content}
use Rattle.kit_report.specs.Steps.{step_lines}
use Rattle.kit_report.proofs.steps.push_step_lines.Given as goal

abbrev pub invariant-loop-i : goal.invariant-loop-i
invariant-loop-i g l =
    string_bytes l.text ++ step_lines (l.i + 1) l.world (map turn_content (drop l.i l.events))
    ≡ string_bytes l.fn.text ++ step_lines 1 l.fn.world (map turn_content l.events)
