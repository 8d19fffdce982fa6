-- WHAT IS IN FLIGHT of an end of a connection, under any window.
use Rattle.std.specs.Prelude.{ℕ, ◌≤◌, IfOk}
use Rattle.tcp_timing.specs.declared.rules.Rules.{Rules}
use Rattle.tcp_congestion.specs.Control.{Control}
use Rattle.tcp_driver.specs.declared.limits.Limits.{Limits}
use Rattle.tcp_halves.specs.declared.config.Config.{Config}
use Rattle.tcp_halves.specs.declared.link.Peer.{Peer}
use Rattle.tcp_halves.specs.Config.{IsConfig, min_mss}
use Rattle.tcp_conn.specs.NewEnd.{end_with_runs}
use Rattle.tcp_end.specs.declared.wired.Wired.{Wired}
use Rattle.tcp_end.specs.Wired.{connected, listening, machine}
use Rattle.tcp_flow.specs.InFlight.{CountsFlight, InFlightStaysInWindow}
use Rattle.tcp_flow.specs.Wired.{smss_of}

-- WHAT ALWAYS HOLDS of an end of a good Config: a full segment has room for text, whatever blocks go with it (RFC 9293, 3.7.1; RFC 2018,
-- 3), so that what is sent again takes a number
abbrev pub IsSized : {A : Type 0} → Wired A → Type 0
IsSized w = (min_mss ≤ w.end.config.mss) × (min_mss ≤ w.end.link.peer_mss)

-- from where it is opened on
abbrev pub EachOpensSized : Type 0 → Type 0
EachOpensSized A =
    (c : Config) (runs : ℕ) (peer : Peer) (rules : Rules) (limits : Limits) (now : ℕ) → IsConfig c
    → IfOk (connected {A = A} (end_with_runs c runs) peer rules limits now) (λ d. IsSized d.core)
    × IfOk (listening {A = A} (end_with_runs c runs) rules limits now) (λ d. IsSized d.core)

abbrev pub EndCountsFlight : Type 0 → Type 0
EndCountsFlight A = CountsFlight (machine {A = A}) IsSized

abbrev pub EndStaysInWindow : Type 0 → {W : Type 0} → Control W → Type 0
EndStaysInWindow A c = InFlightStaysInWindow (machine {A = A}) IsSized (λ w. smss_of w.end) c
