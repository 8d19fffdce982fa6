use Rattle.tcp_repair.proofs.Truths.{told_settled}
use Rattle.tcp_repair.proofs.timed.Timed.settled.Goals as goal

pub invariant_of-self : goal.invariant_of-self
invariant_of-self c = told_settled c.self.inside.rack c.settled.new.self c.self.inside.clock c.args.start c.args.end c.self.invariant c.settled.ensures
