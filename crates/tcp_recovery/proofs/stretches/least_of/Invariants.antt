use Rattle.std.proofs.Common.{◌≡◌, ◌∷◌, drop}
use Rattle.tcp_recovery.specs.Stretches.{least_distance}
use Rattle.tcp_recovery.proofs.stretches.least_of.Given as goal

abbrev pub invariant-loop-s : goal.invariant-loop-s
invariant-loop-s l = least_distance l.least (l.before ∷ drop l.s-index l.later) ≡ least_distance l.most (l.first ∷ l.later)
