use Rattle.std.proofs.Common.{◌≡◌, ◌-◌}
use Rattle.tcp_repair.specs.Emission.{most_stretches, settled}
use Rattle.tcp_repair.proofs.recovery.Recovery.settle.Given as goal

abbrev pub invariant-loop : goal.invariant-loop
invariant-loop g l =
    (settled (most_stretches - l.counter) l.self l.seen (g.C.Reporting.reports.unmarked l.core)
    ≡ settled most_stretches l.fn.self l.fn.seen (g.C.Reporting.reports.unmarked l.fn.core))
    × (l.self.probe ≡ l.fn.self.probe)
    × (l.self.clock ≡ l.fn.self.clock)
