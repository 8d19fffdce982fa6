-- WHEN SOMETHING HAS TO BE DONE next (RFC 9293, 3.8.6.2.1 and 3.8.6.3).
use Rattle.std.specs.Prelude.{◌≡◌, ℕ, ◌<◌, Bool, false, if◌then◌else◌, Option, Some, None, IfSome}
use Rattle.tcp_congestion.specs.DelayedAck.{deadline_of}
use Rattle.tcp_congestion.specs.Sizes.{latest}
use Rattle.tcp_congestion.specs.SwsAvoidance.{deadline_by}
use Rattle.tcp_driver.specs.Deadlines.{earlier}
use Rattle.tcp_driver.specs.Machine.{Machine}
use Rattle.tcp_driver.specs.Times.{next_expiry}
use Rattle.tcp_connection.specs.Connection.{Connecting, is_pending}
use Rattle.tcp_connection.specs.Policy.{holds_any}

-- a pending acknowledgement goes out then, and text by its override timeout
abbrev pub ack_deadline : {S W : Type 0} → Machine S → Connecting S W → Option ℕ
ack_deadline m k = if is_pending m k then deadline_of k.ack else None

abbrev pub text_deadline : {S W : Type 0} → Connecting S W → Option ℕ
text_deadline k = deadline_by k.text.since k.text.timeout

abbrev pub own_deadline : {S W : Type 0} → Machine S → Connecting S W → Option ℕ
own_deadline m k = if holds_any k.policy then earlier (ack_deadline m k) (text_deadline k) else None

abbrev pub next_call : {S W : Type 0} → Machine S → Connecting S W → Option ℕ
next_call m k = earlier (own_deadline m k) (next_expiry k.flowing.driving.times)

-- BEHIND AN EMISSION THAT FINDS NOTHING none of them has come, but at the last of all times: whoever waits for the next call
-- isn't woken by what waits, again and again, though nothing goes out
abbrev pub IsToCome : Option ℕ → ℕ → Type 0
IsToCome deadline now = now < latest → IfSome deadline (λ time. now < time)

abbrev pub RestsAfter : {S W : Type 0} → Machine S → Connecting S W → ℕ → Type 0
RestsAfter m k now = IsToCome (own_deadline m k) now

abbrev pub TextRestsAfter : {S W : Type 0} → Connecting S W → ℕ → Type 0
TextRestsAfter k now = IsToCome (text_deadline k) now
