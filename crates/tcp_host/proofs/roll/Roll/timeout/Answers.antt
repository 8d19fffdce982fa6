use Rattle.std.proofs.Common.{sym}
use Rattle.tcp_host.specs.Hosting.{woken}
use Rattle.tcp_host.proofs.Due.{deadline_with}
use Rattle.tcp_host.proofs.Turned.{kept_followed}
use Rattle.tcp_host.proofs.roll.Roll.timeout.Goals as goal

pub invariant_of-self-2 : goal.invariant_of-self-2
invariant_of-self-2 g c =
    let old = c.in_ok-guest.guest.now in
    kept_followed g.T.Timed.behaviour c.self.inside.ends c.self.inside.deadlines c.self.inside.turns c.self.invariant c.in_ok-time.slot
    old (sym c.in_ok-guest.ensures.value) (woken old c.timeout-timer.new.self) c.set.new.self c.add.new.self c.set.ensures c.add.ensures

pub returns-clause-due_no_more : goal.returns-clause-due_no_more
returns-clause-due_no_more g c =
    let old = c.in_ok-guest.guest.now in
    deadline_with g.T.Timed.behaviour c.self.inside.ends c.in_ok-time.slot old (sym c.in_ok-guest.ensures.value)
    (woken old c.timeout-timer.new.self)
