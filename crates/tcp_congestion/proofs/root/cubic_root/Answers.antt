use Rattle.tcp_congestion.proofs.Roots.{root_between}
use Rattle.tcp_congestion.proofs.root.cubic_root.Goals as goal

pub returns-clause-value : goal.returns-clause-value
returns-clause-value c =
    let i = c.loop-low.invariant in root_between _ _ _ i.least i.most i.order c.loop-low-test.false
