use Rattle.std.proofs.Common.{◌≡◌, ◌++◌, drop, string_bytes}
use Rattle.kit_judge.specs.Findings.{finding_lines}
use Rattle.kit_judge.proofs.report.push_each.Given as goal

abbrev pub invariant-loop-line : goal.invariant-loop-line
invariant-loop-line g l =
    string_bytes l.text ++ finding_lines (drop l.line-index l.found) ≡ string_bytes l.fn.text ++ finding_lines l.found
