use Rattle.std.proofs.Common.{◌≡◌, drop}
use Rattle.tcp_recovery.specs.Stretches.{behind, first_of}
use Rattle.tcp_recovery.proofs.stretches.first_behind.Given as goal

abbrev pub invariant-loop-s : goal.invariant-loop-s
invariant-loop-s l = first_of (behind l.at (drop l.s-index l.all)) ≡ first_of (behind l.at l.all)
