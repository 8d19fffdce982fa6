-- A CALL OF TWO ENDS AS AN EVENT of the world of the ends inside, or as none: what a driver withholds, or refuses while a burst is on,
-- counts as lost.
use Rattle.std.specs.Prelude.{ℕ, Bool, ◌||◌, if◌then◌else◌, List, [], ◌∷◌, Option, Some, None}
use Rattle.tcp_driver.specs.declared.machine.Timer.{Timer as Which}
use Rattle.tcp_driver.specs.declared.machine.Timer.TheVariants as timers
use Rattle.tcp_driver.specs.Driver.{at, holds, is_withheld}
use Rattle.tcp_driver.specs.Times.{expiry}
use Rattle.tcp_conn.specs.declared.phase.Timer.TheVariants.{Retransmit, Reorder, TimeWait}
use Rattle.tcp_end.specs.Wired.{machine}
use Rattle.tcp_replay.specs.declared.event.Side.{Side}
use Rattle.tcp_replay.specs.World.{bytes_with_damage, other}
use Rattle.tcp_replay.specs.Events.{EventContent, Connect, Listen, Send, Receive, Acknowledge, Close, Abort, Timer, Emit, EmitAcknowledgement, Resend, ResendFirst, Deliver, Damage}
use Rattle.tcp_ends.specs.Pair as pairs
use Rattle.tcp_ends.specs.Pair.{Member, Opening, Pair, PairCall, member_of, pair_after, segment_in}
use Rattle.std.specs.Prelude.{length}

-- AN ARRIVAL IS LOST at an end in a burst, or where it is a reset that the driver withholds
abbrev pub is_lost : {H : Type 0} → Member H → List ℕ → Bool
is_lost m bytes = m.driving.times.bursting || is_withheld machine m.driving.core bytes

abbrev pub unless_lost : Bool → EventContent → Option EventContent
unless_lost lost event = if lost then None else Some event

-- AN EMISSION is of what is due, or of the acknowledgement alone
abbrev pub emission_event : Side → Bool → EventContent
emission_event side held = if held then EmitAcknowledgement side else Emit side

-- AN EXPIRY: the user timeout aborts
abbrev pub expiry_event : Side → Option Which → Option EventContent
expiry_event side None = None
expiry_event side (Some timers.Retransmit) = Some (Timer side Retransmit)
expiry_event side (Some timers.Reorder) = Some (Timer side Reorder)
expiry_event side (Some timers.TimeWait) = Some (Timer side TimeWait)
expiry_event side (Some timers.User) = Some (Abort side)

unfoldable pub event_of : {H : Type 0} → Pair H → PairCall → Option EventContent
event_of p (pairs.Arrives from k now) = unless_lost (is_lost (member_of p (other from)) (segment_in p from k)) (Deliver from k)
event_of p (pairs.ArrivesDamaged from k place value now) =
    unless_lost (is_lost (member_of p (other from)) (bytes_with_damage (segment_in p from k) place value)) (Damage from k place value)
event_of p (pairs.Emits side now window out) = Some (emission_event side (holds machine (member_of p side).driving.core window))
event_of p (pairs.Expires side now) = expiry_event side (expiry (member_of p side).driving.times (at (member_of p side).driving now))
event_of p (pairs.Sends side now text) = Some (Send side text)
event_of p (pairs.Receives side now out) = Some (Receive side (length out))
event_of p (pairs.Acknowledges side now) = Some (Acknowledge side)
event_of p (pairs.Closes side now) = Some (Close side)
event_of p (pairs.Aborts side now) = Some (Abort side)
event_of p (pairs.ResendsFirst side now) = Some (ResendFirst side)
event_of p (pairs.Resends side now from to) = Some (Resend side from to)
event_of p (pairs.SetsUserTimeout side limit) = None
event_of p (pairs.SetsPatience side patient) = None

abbrev pub with_event : Option EventContent → List EventContent → List EventContent
with_event None list = list
with_event (Some event) list = event ∷ list

unfoldable pub events_of : {H : Type 0} → Pair H → List PairCall → List EventContent
events_of p [] = []
events_of p (call ∷ list) = with_event (event_of p call) (events_of (pair_after p call) list)

-- an end is opened
abbrev pub opening_event : Side → Opening → EventContent
opening_event side (pairs.Connects rules limits now) = Connect side
opening_event side (pairs.Listens rules limits now) = Listen side
