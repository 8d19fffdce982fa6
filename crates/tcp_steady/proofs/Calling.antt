-- The connection inside is as after calls of its own.
use Rattle.std.proofs.Common.{◌≡◌, ℕ, [], ◌∷◌, Option, Some, None, refl}
use Rattle.tcp_congestion.specs.Control.{Control}
use Rattle.tcp_driver.specs.declared.machine.Timer.{Timer}
use Rattle.tcp_keep_alive.specs.declared.keep_alive.KeepAliveAction.{KeepAliveAction}
use Rattle.tcp_keep_alive.specs.declared.keep_alive.KeepAliveAction.TheVariants.{Asks, GivesUp, Nothing}
use Rattle.tcp_repair.specs.Calls as repair_calls
use Rattle.tcp_steady.specs.declared.steady.Steady.{Steady}
use Rattle.tcp_steady.specs.Steady.{action_of, after_timer, repairing_by, timed, timer_of}
use Rattle.tcp_steady.specs.Calls.{Calls, Comes, Goes, GoesAsOne, Passes, SetsKeepAlive, SetsPacing, SteadyIsRepairing, abort_if, after_all}

module _ {W B A : Type 0} (c : Control W) where
  -- where no timer has expired the peer may be given up
  asked : (s : Steady W B A) (now : ℕ) (action : KeepAliveAction)
      → repairing_by action (timed c s now) now ≡ after_all c s.repairing (abort_if None action now (repair_calls.Passes now ∷ []))
  asked s now Nothing = refl
  asked s now Asks = refl
  asked s now GivesUp = refl

  passed : (s : Steady W B A) (now : ℕ) (timer : Option Timer)
      → (after_timer timer (timed c s now) now).repairing ≡ after_all c s.repairing (abort_if timer (action_of (timed c s now) now) now (repair_calls.Passes now ∷ []))
  passed s now (Some timer) = refl
  passed s now None = asked s now (action_of (timed c s now) now)

  pub repairing_lem : SteadyIsRepairing B A c
  repairing_lem s (Comes now src dst bytes vouched) = refl
  repairing_lem s (Goes now window) = refl
  repairing_lem s (GoesAsOne now window most room) = refl
  repairing_lem s (Passes now) = passed s now (timer_of s now)
  repairing_lem s (SetsKeepAlive rules now) = refl
  repairing_lem s (SetsPacing is_on) = refl
  repairing_lem s (Calls call) = refl
