use Rattle.std.proofs.Common.{[], ◌∷◌, append_assoc, false}
use Rattle.tcp_recovery.specs.Stretches.{segment}
use Rattle.tcp_recovery.proofs.Lists.{appended_extending, appended_apart}
use Rattle.tcp_recovery.proofs.stretches.append.Goals as goal

pub returns-then-extends : goal.returns-then-extends
returns-then-extends c =
    let e =
    appended_extending c.args.start c.args.end c.args.now c.args.span c.pop.new.self.items c.in-Some.s c.args.out.now.items c.in-Some.ensures.items
    (let h = c.extends.ensures in let t = c.if-extends.true in cc) in
    cc (e, c.push.ensures.items)

pub returns-in-Some : goal.returns-in-Some
returns-in-Some c =
    let e =
    appended_apart c.args.start c.args.end c.args.now c.args.span c.pop.new.self.items c.in-Some.s c.args.out.now.items c.in-Some.ensures.items
    (let h = c.extends.ensures in let t = c.if-extends.false in cc) in
    let whole = append_assoc c.pop.new.self.items (c.in-Some.s ∷ []) (segment c.args.start c.args.end c.args.now false ∷ []) in
    cc (e, whole, c.push-in-Some.ensures.items, c.push-in-Some-2.ensures.items)
