use Rattle.std.proofs.Common.{◌≡◌, ◌++◌, drop}
use Rattle.tcp_recovery.specs.Stretches.{before}
use Rattle.tcp_recovery.proofs.stretches.push_before.Given as goal

abbrev pub invariant-loop-s : goal.invariant-loop-s
invariant-loop-s l = l.out.items ++ before l.at (drop l.s-index l.all) ≡ l.initial.out.items ++ before l.at l.all
