use Rattle.tcp_congestion.proofs.Roots.{k_most}
use Rattle.tcp_congestion.proofs.cubic.k_of.Goals as goal

pub returns-clause-bound : goal.returns-clause-bound
returns-clause-bound c = k_most c.args.smss c.args.apart _ _ (let e = c.scaled.ensures in let m = c.min.ensures in cc) c.cubic_root.ensures.least
