use Rattle.std.proofs.Common.{◌≡◌, ◌+◌, ◌-◌, ◌≤◌}
use Rattle.tcp_replay.specs.Events.{event_content}
use Rattle.tcp_replay.specs.World.{world_after_all}
use Rattle.kit_report.specs.Report.{turns_from, refusals}
use Rattle.kit_report.proofs.turns.apply_turns.Given as goal

abbrev pub invariant-loop-turn : goal.invariant-loop-turn
invariant-loop-turn g l =
    let rest = turns_from (event_content l.event) l.turn (l.times - l.turn) in
    let all = turns_from (event_content l.event) 0 l.times in
    (l.refused + refusals l.world rest ≡ refusals l.fn.world all)
    × (world_after_all l.world rest ≡ world_after_all l.fn.world all)
    × (l.refused ≤ l.turn)
    × (l.turn ≤ l.times)

abbrev pub decreases-loop-turn : goal.decreases-loop-turn
decreases-loop-turn g l = l.times - l.turn
