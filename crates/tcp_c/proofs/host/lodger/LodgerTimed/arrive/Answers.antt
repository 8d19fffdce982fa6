use Rattle.std.proofs.Common.{ap, ◌∙◌}
use Rattle.tcp_c.specs.Lodgers.{lodged, of_connection}
use Rattle.tcp_c.specs.declared.connection.driven.Driven.{Driven}
use Rattle.tcp_c.proofs.host.lodger.LodgerTimed.arrive.Goals as goal

pub returns-clause-state : goal.returns-clause-state
returns-clause-state c =
    ap (lodged c.args.self.now)
    (c.arrive.ensures.state ∙ ap (λ (d : Driven). of_connection.arrived d.connection c.args.now c.args.src c.args.dst c.args.bytes.now c.args.is_vouched) c.deref_mut.ensures.value)
