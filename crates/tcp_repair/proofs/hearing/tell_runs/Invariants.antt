use Rattle.std.proofs.Common.{◌≡◌, ◌-◌}
use Rattle.tcp_repair.specs.Arrival.{after_runs, most_runs}
use Rattle.tcp_repair.proofs.hearing.tell_runs.Given as goal

abbrev pub invariant-loop : goal.invariant-loop
invariant-loop g l =
    (after_runs (most_runs - l.counter) (g.C.Reporting.reports.unmarked l.core) l.at l.nxt l.timed.clock l.min_rtt l.timed.rack
    ≡ after_runs most_runs (g.C.Reporting.reports.unmarked l.fn.core) l.fn.una l.fn.nxt l.fn.timed.clock l.fn.min_rtt l.fn.timed.rack)
    × (l.timed.clock ≡ l.fn.timed.clock)
