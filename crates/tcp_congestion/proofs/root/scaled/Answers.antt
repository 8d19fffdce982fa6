use Rattle.std.proofs.Common.{arith, sym}
use Rattle.tcp_congestion.proofs.Roots.{scaled_is}
use Rattle.tcp_congestion.proofs.root.scaled.Goals as goal

pub returns : goal.returns
returns c = sym (scaled_is _ _ _ c.requires.some)

pub overflow_mul-result : goal.overflow_mul-result
overflow_mul-result c =
    let e = scaled_is c.args.value c.args.times c.args.by c.requires.some in
    let w = c.requires.whole in
    grind (arith, e, w)

pub overflow_add-result : goal.overflow_add-result
overflow_add-result c =
    let e = scaled_is c.args.value c.args.times c.args.by c.requires.some in
    let w = c.requires.whole in
    grind (arith, e, w)
