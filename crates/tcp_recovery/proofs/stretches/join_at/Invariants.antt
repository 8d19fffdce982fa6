use Rattle.std.proofs.Common.{◌≡◌, ◌≤◌, ◌∷◌, ◌++◌, drop, length}
use Rattle.std.specs.Prelude.{if◌then◌else◌}
use Rattle.tcp_recovery.specs.Stretches.{with_joined}
use Rattle.tcp_recovery.proofs.stretches.join_at.Given as goal

abbrev pub invariant-loop-s : goal.invariant-loop-s
invariant-loop-s l = record {
  few : length l.out.items ≤ l.s-index;
  made :
      l.out.items ++ (if l.is_joined then l.before ∷ drop l.s-index l.later else with_joined l.least (l.before ∷ drop l.s-index l.later))
      ≡ with_joined l.least (l.first ∷ l.later);
}
