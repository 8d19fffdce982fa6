use Rattle.std.proofs.Common.{arith}
use Rattle.tcp_repair.proofs.Truths.{passed}
use Rattle.tcp_repair.proofs.timed.Timed.pass.Goals as goal

pub invariant_of-self : goal.invariant_of-self
invariant_of-self c = passed c.self.inside.rack c.self.inside.clock c.max-self-inside.result c.self.invariant (omega arith) (let most = c.self.invariant.most in omega (arith, most))
