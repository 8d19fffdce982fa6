use Rattle.std.proofs.Common.{ap, ◌∙◌}
use Rattle.std.specs.Prelude.{length}
use Rattle.tcp_congestion.specs.AnyWindow.{any_control}
use Rattle.tcp_steady.specs.Steady.{after_train, train_by_emit, written_by_train}
use Rattle.tcp_c.specs.Lodgers.{lodged}
use Rattle.tcp_c.specs.declared.connection.driven.Driven.{Driven}
use Rattle.tcp_c.proofs.host.lodger.LodgerTrained.emit_train.Goals as goal

pub returns-clause-state : goal.returns-clause-state
returns-clause-state c =
    ap (lodged c.args.self.now)
    (c.emit_train.ensures.state
    ∙ ap (λ (d : Driven). after_train any_control d.connection c.args.now c.args.window c.args.most (length c.args.out.now)) c.deref_mut.ensures.value)

pub returns-clause-train : goal.returns-clause-train
returns-clause-train c =
    c.emit_train.ensures.train
    ∙ ap (λ (d : Driven). train_by_emit any_control d.connection c.args.now c.args.window c.args.most (length c.args.out.now)) c.deref_mut.ensures.value

pub returns-clause-written : goal.returns-clause-written
returns-clause-written c =
    c.emit_train.ensures.written
    ∙ ap (λ (d : Driven). written_by_train any_control d.connection c.args.now c.args.window c.args.most c.args.out.now) c.deref_mut.ensures.value
