use Rattle.std.proofs.Common.{arith, ◌∙◌, ap, refl}
use Rattle.tcp_recovery.specs.Rack.{after_settled}
use Rattle.tcp_repair.specs.Emission.{most_stretches}
use Rattle.tcp_repair.specs.History.{Clocked}
use Rattle.tcp_repair.specs.Recovery.{Repair}
use Rattle.tcp_repair.proofs.Settling.{none_left, nothing_left, some_left}
use Rattle.tcp_repair.proofs.recovery.Recovery.settle.Goals as goal

pub loop-init : goal.loop-init
loop-init g c = (refl, refl, refl)

pub returns-in_default-clause-state : goal.returns-in_default-clause-state
returns-in_default-clause-state g c =
    none_left most_stretches c.loop.counter c.loop.self _ c.args.seen (g.C.Reporting.reports.unmarked c.args.core.now) c.reported_loss.result
    c.loop-test.true (c.loop.invariant.0) c.reported_loss.ensures c.in_default.is

pub returns-in_default-clause-probe : goal.returns-in_default-clause-probe
returns-in_default-clause-probe g c = (c.loop.invariant.1)

pub returns-in_default-clause-clock : goal.returns-in_default-clause-clock
returns-in_default-clause-clock g c = (c.loop.invariant.2)

pub loop-preserved : goal.loop-preserved
loop-preserved g c =
    let told = ap (λ (t : Clocked). record {
      rack = t.rack;
      probe = c.self.inside.probe;
      trips = c.self.inside.trips;
      longest = c.self.inside.longest;
      recover = c.self.inside.recover;
      shrunk = c.self.inside.shrunk;
      clock = t.clock;
    }) c.settled.ensures in
    let new = told ∙ ap (λ (r : Repair). record r { rack = after_settled r.rack c.in-Some.from c.in-Some.to }) c.self.view_is in (
      some_left most_stretches c.loop.counter c.in-Some.from c.in-Some.to c.loop.self _ _ c.args.seen (g.C.Reporting.reports.unmarked c.args.core.now)
          c.reported_loss.result c.loop-test.true (c.loop.invariant.0) c.reported_loss.ensures c.in-Some.is new,
      ap (λ (r : Repair). r.probe) new ∙ (c.loop.invariant.1),
      ap (λ (r : Repair). r.clock) new ∙ (c.loop.invariant.2),
    )

pub returns-clause-state : goal.returns-clause-state
returns-clause-state g c =
    nothing_left most_stretches c.loop.counter c.loop.self _ c.args.seen (g.C.Reporting.reports.unmarked c.args.core.now)
    (let end = c.loop-test.false in omega (arith, end)) (c.loop.invariant.0)

pub returns-clause-probe : goal.returns-clause-probe
returns-clause-probe g c = (c.loop.invariant.1)

pub returns-clause-clock : goal.returns-clause-clock
returns-clause-clock g c = (c.loop.invariant.2)
