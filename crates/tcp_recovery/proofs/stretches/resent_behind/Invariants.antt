use Rattle.std.proofs.Common.{◌≡◌, drop}
use Rattle.tcp_recovery.specs.Stretches.{behind, resent_of}
use Rattle.tcp_recovery.proofs.stretches.resent_behind.Given as goal

abbrev pub invariant-loop-s : goal.invariant-loop-s
invariant-loop-s l = resent_of (behind l.at (drop l.s-index l.all)) ≡ resent_of (behind l.at l.all)
