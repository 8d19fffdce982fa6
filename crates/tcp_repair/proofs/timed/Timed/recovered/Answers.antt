use Rattle.tcp_repair.proofs.Truths.{told_recovered}
use Rattle.tcp_repair.proofs.timed.Timed.recovered.Goals as goal

pub invariant_of-self : goal.invariant_of-self
invariant_of-self c = told_recovered c.self.inside.rack c.recovered.new.self c.self.inside.clock c.self.invariant c.recovered.ensures
