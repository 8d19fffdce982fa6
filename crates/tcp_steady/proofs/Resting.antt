-- Where nothing goes out no burst is on any more.
use Rattle.std.proofs.Common.{◌≡◌, ℕ, false, Option, Some, None, refl}
use Rattle.tcp_congestion.specs.Control.{Control}
use Rattle.tcp_connection.specs.Wired.{insight}
use Rattle.tcp_end.specs.Wired.{machine}
use Rattle.tcp_host.proofs.Resting.{connection_rests}
use Rattle.tcp_keep_alive.specs.declared.keep_alive.KeepAliveAction.{KeepAliveAction}
use Rattle.tcp_repair.specs.Repairing.{ready}
use Rattle.tcp_repair.specs.Wired.{reports}
use Rattle.tcp_steady.specs.declared.steady.Steady.{Steady}
use Rattle.tcp_steady.specs.Steady.{action_of, after_emit, agreed, end_of, first_of, keep_alive_sent, paced_window, sent_by_emit, sent_first, sent_or}

first-none : {T : Type 0} (sent due : Option T) (action : KeepAliveAction) → sent_or sent action due ≡ None → sent ≡ None
first-none None due action e = refl
first-none (Some sent) due action e = absurd (cc)

pub steady_rests : {W B A : Type 0} (c : Control W) (s : Steady W B A) (now window : ℕ) → sent_by_emit c s now window ≡ None
    → (after_emit c s now window).repairing.connecting.flowing.driving.times.bursting ≡ false
steady_rests c s now window e =
    connection_rests machine insight c (ready machine agreed c reports s.repairing now).connecting now (paced_window c s now window)
    (first-none (sent_first c s now window) (keep_alive_sent (end_of (first_of c s now window))) (action_of (first_of c s now window) now) e)
