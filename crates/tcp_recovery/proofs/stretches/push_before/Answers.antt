use Rattle.std.proofs.Common.{rules}
use Rattle.tcp_recovery.proofs.Lists.{room_before}
use Rattle.tcp_recovery.proofs.stretches.push_before.Goals as goal

pub push-requires : goal.push-requires
push-requires c = (search rules, room_before c.args.at c.loop-s.s-index c.loop-s.out.items c.args.out.now.items c.args.all.now _ c.loop-s.invariant c.loop-s-test.true c.if-s-at.true c.requires)
