use Rattle.std.proofs.Common.{◌≡◌, ◌≤◌, ◌∷◌, true, length, length-append, arith}
use Rattle.tcp_recovery.specs.Stretches.{before, behind, cut_out, fitted, segment}
use Rattle.tcp_recovery.proofs.Order.{fitted-few}
use Rattle.tcp_recovery.proofs.stretches.place_again.Goals as goal

pub fit-requires-2 : goal.fit-requires-2
fit-requires-2 c =
    let n = length-append (before c.args.start c.args.all.now.items) (segment c.args.start c.args.end c.args.now true ∷ behind c.args.end c.args.all.now.items) in
    let few : length (fitted (cut_out c.args.start c.args.end c.args.now c.args.all.now.items)) ≤ 65 =
    fitted-few 65 (cut_out c.args.start c.args.end c.args.now c.args.all.now.items) (omega (arith, n)) (omega arith) in
    let same : length c.fit.new.all.items ≡ length (fitted (cut_out c.args.start c.args.end c.args.now c.args.all.now.items)) = cc in
    omega (arith, few, same)
