use Rattle.tcp_host.proofs.Due.{timed_without}
use Rattle.tcp_host.proofs.Turned.{wait_without}
use Rattle.tcp_host.proofs.roll.Roll.remove.Goals as goal

pub invariant_of-self-2 : goal.invariant_of-self-2
invariant_of-self-2 g c =
    let ends = c.self.inside.ends in
    let slot = c.args.slot in
    let changes = c.remove.ensures.changes in
    rw c.set.ensures (
      timed_without g.T.Timed.behaviour ends c.self.inside.deadlines c.self.inside.turns.room c.self.invariant.0 c.remove.new.self slot changes,
      wait_without g.T.Timed.behaviour ends c.remove.new.self slot c.self.inside.turns.queue c.self.invariant.1 changes,
    )
