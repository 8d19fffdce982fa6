use Rattle.std.proofs.Common.{List, ap, refl, sym, ◌∙◌}
use Rattle.tcp_recovery.specs.declared.stretch.Stretch.{Stretch}
use Rattle.tcp_recovery.specs.Delivered.{after_deliveries}
use Rattle.tcp_recovery.proofs.Firsts.{nothing-between}
use Rattle.tcp_recovery.proofs.delivered.Delivered.after_all.Goals as goal

pub loop-s-init : goal.loop-s-init
loop-s-init c = record { made = refl; order = (0, c.requires.0, c.requires.1) }

pub returns-then-end-s : goal.returns-then-end-s
returns-then-end-s c =
    let i = c.loop-s.invariant in
    let none =
    nothing-between c.args.piece.0 c.args.piece.1 i.order.0 i.order.1 c.loop-s.s-index c.args.all.now _ c.loop-s-test.true c.if-end-s.true i.order.2 in
    sym (ap (λ (all : List Stretch). after_deliveries c.loop-s.told all c.args.now c.args.min_rtt c.args.next) none) ∙ i.made
