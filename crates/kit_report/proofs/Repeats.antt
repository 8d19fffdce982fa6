-- The turns of an event, the first of those that are left and the others.
use Rattle.std.proofs.Common.{◌≡◌, ℕ, suc, ◌+◌, ◌-◌, ◌<◌, ◌≤◌, [], ◌∷◌, ap, arith}
use Rattle.tcp_replay.specs.Events.{EventContent}
use Rattle.kit_report.specs.Report.{event_in_turn, turns_from}

pub left_is : (i times : ℕ) → i < times → times - i ≡ suc (times - (i + 1))
left_is i times below = omega (arith, below)

pub none_left : (i times : ℕ) → times ≤ i → times - i ≡ 0
none_left i times all = omega (arith, all)

pub next_turn : (e : EventContent) (i times : ℕ) → i < times → turns_from e i (times - i) ≡ event_in_turn e i ∷ turns_from e (i + 1) (times - (i + 1))
unfolding turns_from
next_turn e i times below = ap (turns_from e i) (left_is i times below)

pub no_turn_left : (e : EventContent) (i times : ℕ) → times ≤ i → turns_from e i (times - i) ≡ []
unfolding turns_from
no_turn_left e i times all = ap (turns_from e i) (none_left i times all)
