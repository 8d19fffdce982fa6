use Rattle.std.proofs.Common.{ℕ, ◌≡◌, drop}
use Rattle.tcp_recovery.specs.Stretches.{AreInOrder, between}
use Rattle.tcp_recovery.specs.Delivered.{after_deliveries}
use Rattle.tcp_recovery.proofs.delivered.Delivered.after_all.Given as goal

abbrev pub invariant-loop-s : goal.invariant-loop-s
invariant-loop-s l = record {
  made :
      after_deliveries l.told (between l.start l.end (drop l.s-index l.all)) l.now l.min_rtt l.next
      ≡ after_deliveries l.fn.self (between l.start l.end l.all) l.now l.min_rtt l.next;
  order : (from : ℕ) × (to : ℕ) × AreInOrder from to (drop l.s-index l.all);
}
