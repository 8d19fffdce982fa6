use Rattle.std.proofs.Common.{◌≡◌, ◌≤◌, ◌+◌, ◌-◌, ◌*◌}
use Rattle.tcp_driver.specs.Rows.{after_row}
use Rattle.tcp_driver.proofs.timers.Timers.emitted_as_one.Given as goal

-- what is left to be done comes to what had to be done
abbrev pub invariant-loop-more : goal.invariant-loop-more
invariant-loop-more l =
    (after_row l.more l.row.each l.start l.left l.wants l.una l.now l.self
    ≡ after_row (l.row.segments - 1) l.row.each l.row.start l.row.count l.wants l.una l.now l.initial.self)
    × (l.self.clock ≤ l.now)
    × (l.start + l.left ≡ l.row.start + l.row.count)
    × (l.more * l.row.each ≤ l.left)

abbrev pub decreases-loop-more : goal.decreases-loop-more
decreases-loop-more l = l.more
