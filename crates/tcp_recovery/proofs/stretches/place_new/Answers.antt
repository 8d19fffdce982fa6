use Rattle.std.proofs.Common.{length, ap, arith}
use Rattle.tcp_recovery.proofs.Order.{appended-few}
use Rattle.tcp_recovery.proofs.stretches.place_new.Goals as goal

pub fit-requires : goal.fit-requires
fit-requires c = omega (arith, ap length c.append.ensures, appended-few c.args.start c.args.end c.args.now c.args.span c.args.all.now.items)
