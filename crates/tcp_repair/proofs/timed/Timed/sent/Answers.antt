use Rattle.std.proofs.Common.{arith}
use Rattle.tcp_repair.proofs.Truths.{told_sent}
use Rattle.tcp_repair.proofs.timed.Timed.sent.Goals as goal

pub invariant_of-self : goal.invariant_of-self
invariant_of-self c =
    told_sent c.self.inside.rack c.sent.new.self c.self.inside.clock c.min-start.result c.saturating_sub.result c.args.min_rtt c.self.invariant
    (let least = c.min-start.ensures in let next = c.next.ensures in omega (arith, least, next)) c.sent.ensures
