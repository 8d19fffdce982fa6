use Rattle.tcp_repair.proofs.Truths.{told_received}
use Rattle.tcp_repair.proofs.timed.Timed.received.Goals as goal

pub invariant_of-self : goal.invariant_of-self
invariant_of-self c = told_received c.self.inside.rack c.received.new.self c.self.inside.clock c.args.start c.args.end c.args.min_rtt c.self.invariant c.received.ensures
