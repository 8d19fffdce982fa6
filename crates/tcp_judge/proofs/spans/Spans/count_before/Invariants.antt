use Rattle.std.proofs.Common.{◌≡◌, ℕ, ◌-◌, ◌+◌, ◌<◌, ◌≤◌, length}
use Rattle.std.specs.Prelude.{true}
use Rattle.tcp_judge.specs.Heard.{has_come}
use Rattle.tcp_judge.specs.Run.{number_before}
use Rattle.tcp_judge.proofs.spans.Spans.count_before.Given as goal

-- each number so far came
abbrev pub invariant-loop-count : goal.invariant-loop-count
invariant-loop-count g l = ((j : ℕ) → j < l.count → has_come l.self (number_before l.acked_number.0 (j + 1)) ≡ true) × (l.at ≤ length l.self)

abbrev pub decreases-loop-count : goal.decreases-loop-count
decreases-loop-count g l = l.most - l.count
