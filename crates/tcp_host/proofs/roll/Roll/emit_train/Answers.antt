use Rattle.std.proofs.Common.{sym}
use Rattle.tcp_host.proofs.Turned.{kept_followed}
use Rattle.tcp_host.proofs.roll.Roll.emit_train.Goals as goal

pub invariant_of-self-2 : goal.invariant_of-self-2
invariant_of-self-2 g c =
    kept_followed g.T.Timed.behaviour c.self.inside.ends c.self.inside.deadlines c.self.inside.turns c.self.invariant c.args.id.slot c.in_ok-guest.guest.now
    (sym c.in_ok-guest.ensures.value) c.follow.new.guest c.follow.new.deadlines c.follow.new.turns c.follow.ensures.deadline
    c.follow.ensures.turn
