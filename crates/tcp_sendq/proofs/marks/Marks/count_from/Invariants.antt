use Rattle.std.proofs.Common.{◌≡◌, ◌+◌, ◌≤◌, drop, length}
use Rattle.tcp_sendq.specs.Marks.{lowered, total}
use Rattle.tcp_sendq.proofs.marks.Marks.count_from.Given as goal

abbrev pub invariant-loop-run : goal.invariant-loop-run
invariant-loop-run g l =
    (l.run-items ≡ l.fn.self.table.items) × (l.base ≡ l.fn.base) × (l.run-index ≤ length l.run-items)
    × (l.count + total (lowered l.base (drop l.run-index l.run-items)) ≡ total (lowered l.base l.run-items))
