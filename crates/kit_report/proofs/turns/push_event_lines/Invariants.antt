use Rattle.std.proofs.Common.{◌≡◌, ◌+◌, ◌++◌, ◌&&◌, map, drop, string_bytes}
use Rattle.kit_script.specs.Script.{turn_content}
use Rattle.kit_report.specs.Report.{event_lines, is_well, world_after_turns}
use Rattle.kit_report.proofs.turns.push_event_lines.Given as goal

abbrev pub invariant-loop-i : goal.invariant-loop-i
invariant-loop-i g l =
    let rest = map turn_content (drop l.i l.events) in
    let all = map turn_content l.events in
    (string_bytes l.text ++ event_lines (l.i + 1) l.world rest ≡ string_bytes l.fn.text ++ event_lines 1 l.fn.world all)
    × ((l.is_well && is_well l.world rest) ≡ is_well l.fn.world all)
    × (world_after_turns l.world rest ≡ world_after_turns l.fn.world all)
