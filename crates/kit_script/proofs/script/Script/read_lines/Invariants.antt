use Rattle.std.proofs.Common.{◌≡◌}
use Rattle.kit_script.specs.Script.{script_content, script_from, CanBegin}
use Rattle.kit_script.proofs.script.Script.read_lines.Given as goal

abbrev pub invariant-loop-number : goal.invariant-loop-number
invariant-loop-number g l =
    (script_from (script_content l.self) l.number-iterator ≡ script_from (script_content l.fn.self) l.fn.lines)
    × (CanBegin l.fn.self → CanBegin l.self)
