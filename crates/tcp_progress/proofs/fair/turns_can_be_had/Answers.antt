use Rattle.tcp_progress.proofs.turn.TurnsHad.{turns-kept, turns_lem}
use Rattle.tcp_progress.proofs.steady.AlwaysSteady.{in-every-world-with-runs}
use Rattle.std.specs.Prelude.{ℕ}
use Rattle.tcp_progress.specs.Fair.{CanHaveTurns, NoneDiscarded}
use Rattle.tcp_progress.proofs.fair.turns_can_be_had.Goals as goal

pub returns-clause-usual : goal.returns-clause-usual
returns-clause-usual c = turns_lem

pub returns-clause-with_runs : goal.returns-clause-with_runs
returns-clause-with_runs c = in-every-world-with-runs (λ w. NoneDiscarded w → (n : ℕ) → CanHaveTurns n w) turns-kept
