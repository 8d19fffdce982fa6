use Rattle.std.proofs.Common.{◌≡◌, ◌++◌, drop}
use Rattle.tcp_recovery.specs.Stretches.{behind}
use Rattle.tcp_recovery.proofs.stretches.push_behind.Given as goal

abbrev pub invariant-loop-s : goal.invariant-loop-s
invariant-loop-s l = l.out.items ++ behind l.at (drop l.s-index l.all) ≡ l.initial.out.items ++ behind l.at l.all
