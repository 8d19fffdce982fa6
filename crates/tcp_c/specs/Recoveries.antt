-- Losses found by time (RFC 8985), chosen for a connection.
use Rattle.std.specs.Prelude.{ℕ, true, false, ◌≡◌, IsNone, IsSome, Option, Some, None}
use Rattle.tcp_end.specs.Wired.{machine}
use Rattle.tcp_repair.specs.Repairing.{with_recovery}
use Rattle.tcp_repair.specs.Wired.{reports}
use Rattle.tcp_steady.specs.Steady.{with_repairing}
use Rattle.tcp_c.specs.Congestions.{has_sent}
use Rattle.tcp_c.specs.Connections.{agreed, end_of}
use Rattle.tcp_c.specs.declared.connection.driven.Driven.{Driven}

-- whether a handle has a connection that finds losses so; one that doesn't, and has sent text or a FIN; or one that has sent neither
abbrev pub HasOne : Option Driven → Type 0
HasOne None = ⊥
HasOne (Some d) = IsSome d.connection.repairing.recovery

abbrev pub HasSent : Option Driven → Type 0
HasSent None = ⊥
HasSent (Some d) = IsNone d.connection.repairing.recovery × (has_sent (end_of d) ≡ true)

abbrev pub IsNew : Option Driven → Type 0
IsNew None = ⊥
IsNew (Some d) = IsNone d.connection.repairing.recovery × (has_sent (end_of d) ≡ false)

-- IT FINDS THEM from this time on
abbrev pub recovering : ℕ → Driven → Driven
recovering now d = record { connection = with_repairing d.connection (with_recovery machine agreed reports d.connection.repairing now) }
