use Rattle.tcp_host.proofs.roll.Roll.next_turn.Goals as goal

pub returns-clause-each_waits : goal.returns-clause-each_waits
returns-clause-each_waits g c = rw (← c.self.view_is) c.self.invariant.1
