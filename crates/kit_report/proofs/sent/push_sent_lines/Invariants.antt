use Rattle.std.proofs.Common.{◌≡◌, ◌-◌, ◌≤◌, ◌++◌, drop, string_bytes}
use Rattle.tcp_replay.specs.World.{party_of}
use Rattle.kit_report.specs.Ends.{lines_of, sent_lines}
use Rattle.kit_report.proofs.sent.push_sent_lines.Given as goal

abbrev pub invariant-loop-k : goal.invariant-loop-k
invariant-loop-k g l =
    (string_bytes l.text ++ lines_of l.world l.side (drop l.k (party_of l.world l.side).sent) ≡ string_bytes l.fn.text ++ sent_lines l.world l.side)
    × (l.k ≤ l.count)

abbrev pub decreases-loop-k : goal.decreases-loop-k
decreases-loop-k g l = l.count - l.k
