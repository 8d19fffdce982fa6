use Rattle.std.proofs.Common.{ap, ◌∙◌}
use Rattle.tcp_c.specs.Lodgers.{lodged, of_connection}
use Rattle.tcp_c.specs.declared.connection.driven.Driven.{Driven}
use Rattle.tcp_c.proofs.host.lodger.LodgerTimed.emit.Goals as goal

pub returns-clause-sent : goal.returns-clause-sent
returns-clause-sent c =
    c.emit.ensures.sent ∙ ap (λ (d : Driven). of_connection.emission d.connection c.args.now c.args.window) c.deref_mut.ensures.value

pub returns-clause-written : goal.returns-clause-written
returns-clause-written c =
    c.emit.ensures.written ∙ ap (λ (d : Driven). of_connection.written d.connection c.args.now c.args.window c.args.out.now) c.deref_mut.ensures.value

pub returns-clause-state : goal.returns-clause-state
returns-clause-state c =
    ap (lodged c.args.self.now)
    (c.emit.ensures.state ∙ ap (λ (d : Driven). of_connection.emitted d.connection c.args.now c.args.window) c.deref_mut.ensures.value)
