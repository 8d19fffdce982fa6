-- WHEN SOMETHING HAS TO BE DONE next (RFC 8985, 6.2, step 5, and 7.3).
use Rattle.std.specs.Prelude.{ℕ, ◌<◌, ◌≤◌, not, ◌&&◌, if◌then◌else◌, Option, Some, None, IfSome, is_some}
use Rattle.tcp_driver.specs.Deadlines.{earlier, last}
use Rattle.tcp_recovery.specs.Rack.{deadline_of}
use Rattle.tcp_repair.specs.declared.seen.Seen.{Seen}
use Rattle.tcp_repair.specs.Recovery.{Repair, is_looking, lost_at, window_of}

-- the next stretch is lost; where one is lost already that can't go out yet nobody is woken for it again (own)
abbrev pub rack_deadline : Repair → Seen → Option ℕ
rack_deadline r s =
    if is_looking r s && not (is_some (lost_at r s r.clock)) then deadline_of r.rack.delivered (window_of r s) r.rack.stretches else None

unfoldable pub own_deadline : Repair → Seen → Option ℕ
own_deadline r s = earlier r.probe.at (rack_deadline r s)

-- ---- READY for an emission at a time: no probe is due any more
abbrev pub IsToCome : Option ℕ → ℕ → Type 0
IsToCome time now = IfSome time (λ time. now < time)

pub record IsReady (r : Repair) (now : ℕ) : Type 0 where
  pub probe : IsToCome r.probe.at r.clock
  pub clock : now ≤ last → now ≤ r.clock
  pub most : r.clock ≤ last

abbrev pub AreReady : Option Repair → ℕ → Type 0
AreReady None now = Unit {0}
AreReady (Some r) now = IsReady r now
