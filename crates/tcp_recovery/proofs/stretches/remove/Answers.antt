use Rattle.tcp_recovery.proofs.Firsts.{has-room, trimmed}
use Rattle.tcp_recovery.proofs.stretches.remove.Goals as goal

pub rebuild-requires : goal.rebuild-requires
rebuild-requires c = has-room c.args.start c.args.end c.requires.order.0 c.args.all.now.items c.requires.order.1 c.requires.some c.requires.few

pub returns-in-Some : goal.returns-in-Some
returns-in-Some c =
    trimmed c.args.start c.args.end c.requires.order.0 c.args.all.now.items c.behind.result c.requires.order.1 c.requires.some c.requires.few
    (let h = c.if-not-are_first.false in let e = c.are_first.ensures in let v = c.as_slice.ensures.value in cc)
    c.in-Some.first.now c.in-Some.ensures.value c.behind.ensures
