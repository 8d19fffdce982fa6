use Rattle.std.proofs.Common.{◌-◌, ◌+◌, arith, ◌∙◌, ap}
use Rattle.tcp_repair.specs.Arrival.{most_runs}
use Rattle.tcp_repair.specs.History.{Clocked}
use Rattle.tcp_repair.proofs.Runs.{at_clock, by_parts, none_left, nothing_left, some_left}
use Rattle.tcp_repair.proofs.hearing.tell_runs.Goals as goal

pub returns-in_default : goal.returns-in_default
returns-in_default g c =
    by_parts c.tell_run.new.timed _ c.args.timed.now.clock
    (none_left most_runs c.loop.counter c.loop.at c.args.nxt c.loop.timed.clock c.args.min_rtt (g.C.Reporting.reports.unmarked c.args.core.now)
    c.loop.timed.rack c.tell_run.new.timed.rack _ c.unmarked.result c.loop-test.true (c.loop.invariant.0) c.unmarked.ensures c.in_default.is
    (ap (λ (t : Clocked). t.rack) c.tell_run.ensures))
    (ap (λ (t : Clocked). t.clock) c.tell_run.ensures ∙ c.loop.invariant.1)

pub loop-preserved : goal.loop-preserved
loop-preserved g c =
    let clock = ap (λ (t : Clocked). t.clock) c.tell_run-in-loop.ensures in (
      at_clock (most_runs - (c.loop.counter + 1)) c.in-Some.to c.args.nxt c.loop.timed.clock c.tell_run-in-loop.new.timed.clock c.args.min_rtt
          (g.C.Reporting.reports.unmarked c.args.core.now) c.tell_run-in-loop.new.timed.rack _ clock
          (some_left most_runs c.loop.counter c.loop.at c.args.nxt c.loop.timed.clock c.args.min_rtt c.in-Some.from c.in-Some.to
          (g.C.Reporting.reports.unmarked c.args.core.now) c.loop.timed.rack c.tell_run-in-loop.new.timed.rack _ c.unmarked.result c.loop-test.true
          (c.loop.invariant.0) c.unmarked.ensures c.in-Some.is (ap (λ (t : Clocked). t.rack) c.tell_run-in-loop.ensures)),
      clock ∙ c.loop.invariant.1,
    )

pub returns : goal.returns
returns g c =
    by_parts c.loop.timed _ c.args.timed.now.clock
    (nothing_left most_runs c.loop.counter c.loop.at c.args.nxt c.loop.timed.clock c.args.min_rtt (g.C.Reporting.reports.unmarked c.args.core.now)
    c.loop.timed.rack _ (let end = c.loop-test.false in omega (arith, end)) (c.loop.invariant.0))
    (c.loop.invariant.1)
