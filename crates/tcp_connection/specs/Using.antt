-- THE USER'S CALLS, and the window that a read opens (RFC 9293, 3.8.6.2.2 and 3.10).
use Rattle.std.specs.Prelude.{ℕ, Bool, true, false, ◌&&◌, ◌==◌, if◌then◌else◌, Option, is_some}
use Rattle.tcp_congestion.specs.Control.{Control}
use Rattle.tcp_congestion.specs.DelayedAck.{after_arrival}
use Rattle.tcp_driver.specs.Machine.{Machine}
use Rattle.tcp_flow.specs.declared.loss.Loss.{Loss}
use Rattle.tcp_flow.specs.Flow.{after_loss, after_patience_of, after_timeout, after_trip, after_use, after_user_limit, with_window}
use Rattle.tcp_connection.specs.declared.policy.Policy.{Policy}
use Rattle.tcp_connection.specs.Connection.{Connecting, core_of, edge_by, new_connecting}
use Rattle.tcp_connection.specs.Insight.{Insight}
use Rattle.tcp_connection.specs.Policy.{holds_any}
use Rattle.tcp_connection.specs.Windows.{has_grown, is_scarce}

-- a call that is the flow's alone
abbrev pub after_call : {S W : Type 0} → Machine S → Connecting S W → ℕ → S → Connecting S W
after_call m k now core = record k { flowing = after_use m k.flowing now core }

-- AN ACKNOWLEDGEMENT IS ASKED FOR, which waits for nothing and answers nobody
abbrev pub urged : {S W : Type 0} → Connecting S W → ℕ → Connecting S W
urged k now = if holds_any k.policy then record k { ack = after_arrival k.ack 0 true now; bare = false } else k

abbrev pub after_acknowledging : {S W : Type 0} → Machine S → Connecting S W → ℕ → Connecting S W
after_acknowledging m k now = urged (after_call m k now (m.acknowledged (core_of k))) now

-- THE WINDOW IS ADVERTISED where it is worth it, and the peer has little of it left
abbrev pub is_update : {S W : Type 0} → Insight S → Connecting S W → Bool
is_update i k = is_some k.policy.override_timeout && (has_grown i k && is_scarce i k)

-- what opens the window isn't said for an answer alone any more
abbrev pub opened : {S W : Type 0} → Insight S → Connecting S W → ℕ → Connecting S W
opened i k edge = record k { bare = if edge_by i (core_of k) == edge then k.bare else false }

abbrev pub updated_if : {S W : Type 0} → Machine S → Insight S → Connecting S W → ℕ → Connecting S W
updated_if m i k now = if is_update i k then after_acknowledging m k now else k

-- A READ
abbrev pub after_reading : {S W : Type 0} → Machine S → Insight S → Connecting S W → ℕ → ℕ → Connecting S W
after_reading m i k now room =
    if holds_any k.policy
    then updated_if m i (opened i (after_call m k now (m.received (core_of k) room)) (edge_by i (core_of k))) now
    else after_call m k now (m.received (core_of k) room)

-- ---- TIME, and what is chosen
abbrev pub after_tick : {S W : Type 0} → Machine S → Control W → Connecting S W → ℕ → Connecting S W
after_tick m c k now = record k { flowing = after_timeout m c k.flowing now }

abbrev pub with_user_limit : {S W : Type 0} → Connecting S W → Option ℕ → Connecting S W
with_user_limit k limit = record k { flowing = after_user_limit k.flowing limit }

abbrev pub with_patience : {S W : Type 0} → Connecting S W → Bool → Connecting S W
with_patience k patient = record k { flowing = after_patience_of k.flowing patient }

abbrev pub choosing : {S W : Type 0} → (S → Option ℕ) → Control W → Connecting S W → W → Connecting S W
choosing smss_of c k window = record k { flowing = with_window smss_of c k.flowing window }

abbrev pub losing : {S W : Type 0} → Machine S → Control W → Connecting S W → Loss → Connecting S W
losing m c k loss = record k { flowing = after_loss m c k.flowing loss }

abbrev pub measuring : {S W : Type 0} → Machine S → Control W → Connecting S W → ℕ → Connecting S W
measuring m c k trip = record k { flowing = after_trip m c k.flowing trip }

abbrev pub with_policy : {S W : Type 0} → Machine S → Insight S → (S → Option ℕ) → Connecting S W → Policy → Connecting S W
with_policy m i smss_of k policy = new_connecting m i smss_of k.flowing policy
