-- WHO IS SERVED GETS THROUGH (RFC 9293, 3.8): not only is there a way on, but each turn of a caller's plain loop takes it,
-- whatever the network does in the turn and between turns.
use Rattle.std.specs.Prelude.{◌≡◌, ℕ, zero, suc, ◌^◌, ◌<◌, ◌≤◌, Bool, true, false, List, [], ◌∷◌, ◌++◌, length, None, IfSome, ◌⊎◌}
use Rattle.std.specs.List.{AllByRecursion}
use Rattle.tcp_conn.specs.declared.emit.due.Due.{Due}
use Rattle.tcp_conn.specs.declared.emit.due.Due.TheVariants as dues
use Rattle.tcp_conn.specs.declared.phase.Timer.TheVariants as timers
use Rattle.tcp_conn.specs.Due.{due_of}
use Rattle.tcp_replay.specs.declared.event.Side.{Side}
use Rattle.tcp_replay.specs.declared.event.Side.TheVariants.{A, B}
use Rattle.tcp_replay.specs.Events.{EventContent, Receive, Acknowledge, Timer, Emit, EmitAcknowledgement, ResendFirst, Resend, Deliver, Damage}
use Rattle.tcp_replay.specs.World.{WorldState, party_of, other, world_after, world_after_all}
use Rattle.tcp_replay.specs.Safe.{has_discarded}
use Rattle.tcp_progress.specs.Measure.{left_in}
use Rattle.tcp_progress.specs.Everywhere.{InEveryWorld}
use Rattle.tcp_progress.specs.Settled.{IsLive, IsThrough, IsSettled, HasStreamsOf}

-- CALM: what clock and network do, and users who only read. Nothing is sent, closed or aborted, and TIME-WAIT doesn't expire
-- (RFC 9293, 3.10.8). The network delivers segments any number of times, late and in any order, and damages them; any other
-- timer expires at any time. An acknowledgement may go out alone (3.8.6.3), and the first segment or any
-- stretch of what is in flight again (RFC 5681, 3.2; RFC 6675, 5)
abbrev pub IsCalm : EventContent → Type 0
IsCalm (Receive side room) = Unit {0}
IsCalm (Acknowledge side) = Unit {0}
IsCalm (Timer side timers.TimeWait) = ⊥
IsCalm (Timer side other) = Unit {0}
IsCalm (Emit side) = Unit {0}
IsCalm (EmitAcknowledgement side) = Unit {0}
IsCalm (ResendFirst side) = Unit {0}
IsCalm (Resend side from to) = Unit {0}
IsCalm (Deliver from k) = Unit {0}
IsCalm (Damage from k place value) = value < 256
IsCalm other = ⊥

-- UNTIMED: calm, no timer expires, and each emission is of what is due
abbrev pub IsUntimed : EventContent → Type 0
IsUntimed (Timer side which) = ⊥
IsUntimed (EmitAcknowledgement side) = ⊥
IsUntimed (ResendFirst side) = ⊥
IsUntimed (Resend side from to) = ⊥
IsUntimed other = IsCalm other

-- ---- A CALLER'S LOOP. Both users read all, and once more, for the end of the stream (RFC 9293, 3.9.1, RECEIVE)
abbrev pub all_room : ℕ
all_room = 2 ^ 20

abbrev pub reads : List EventContent
reads = Receive A all_room ∷ Receive A 0 ∷ Receive B all_room ∷ Receive B 0 ∷ []

-- this many emissions of one side
abbrev pub emissions : Side → ℕ → List EventContent
emissions side zero = []
emissions side (suc n) = Emit side ∷ emissions side n

-- ONE SIDE IS SERVED: its retransmission timeout expires (RFC 9293, 3.8.1 and 3.10.8), and at once, before anything arrives,
-- it emits
abbrev pub served : Side → ℕ → List EventContent
served side count = Timer side timers.Retransmit ∷ emissions side count

-- first one side, then the other
abbrev pub both_served : Side → ℕ → ℕ → List EventContent
both_served first count then_count = served first count ++ served (other first) then_count

-- IDLE: nothing is due at a side
abbrev pub IsIdle : WorldState → Side → Type 0
IsIdle w side = due_of (party_of w side).endpoint ≡ None

-- ---- THE NETWORK. The k-th segment of a side is delivered among these events
abbrev pub Delivers : Side → ℕ → List EventContent → Type 0
Delivers side k [] = ⊥
Delivers side k (event ∷ events) = (event ≡ Deliver side k) ⊎ Delivers side k events

-- what is due is a reset
abbrev pub is_reset : Due → Bool
is_reset dues.Reset = true
is_reset other = false

-- what is emitted at an event arrives later, unless it is a reset (RFC 9293, 3.5.2)
abbrev pub Comes : WorldState → EventContent → List EventContent → Type 0
Comes w (Emit side) later =
    IfSome (due_of (party_of w side).endpoint) (λ due. is_reset due ≡ false → Delivers side (length (party_of w side).sent) later)
Comes w other later = Unit {0}

-- ALL ARRIVES that is emitted at some events, among the rest of them or later
abbrev pub AllCome : WorldState → List EventContent → List EventContent → Type 0
AllCome w [] later = Unit {0}
AllCome w (event ∷ events) later = Comes w event (events ++ later) × AllCome (world_after w event) events later

-- ---- A TURN of the loop, there and back. The users read. One side is served, and then the other, each until nothing is due
-- there. Then the network brings all that both sent, and both answer until nothing is due at either; and what they answered
-- arrives. All this arrives in any order, and whatever else is calm happens meanwhile; but until both have answered no timer
-- expires. Resets may be lost. A loop that serves both and then continues until nothing is due at either makes turns with
-- nothing on the way back
pub record IsTurn (w : WorldState) (turn : List EventContent) : Type 0 where
  pub first : Side
  pub count : ℕ
  pub then_count : ℕ
  pub there : List EventContent
  pub back : List EventContent
  pub form : turn ≡ reads ++ (both_served first count then_count ++ (there ++ back))
  pub untimed : AllByRecursion IsUntimed there
  pub calm : AllByRecursion IsCalm back
  -- until nothing is due: at the first, at the other, and at both
  pub first_out : IsIdle (world_after_all w (reads ++ served first count)) first
  pub then_out : IsIdle (world_after_all w (reads ++ both_served first count then_count)) (other first)
  pub answered_a : IsIdle (world_after_all w (reads ++ (both_served first count then_count ++ there))) A
  pub answered_b : IsIdle (world_after_all w (reads ++ (both_served first count then_count ++ there))) B
  -- what both sent arrives there, and what is emitted there arrives there or back
  pub comes_there : AllCome (world_after_all w reads) (both_served first count then_count) there
  pub comes_back : AllCome (world_after_all w (reads ++ both_served first count then_count)) there back

-- THIS MANY TURNS are among calm events, one after another, with whatever is calm before, between and after them
abbrev pub HasTurns : ℕ → WorldState → List EventContent → Type 0
HasTurns zero w events = AllByRecursion IsCalm events
HasTurns (suc n) w events =
    (before : List EventContent) × (turn : List EventContent) × (after : List EventContent) × (events ≡ before ++ (turn ++ after))
    × AllByRecursion IsCalm before × IsTurn (world_after_all w before) turn × HasTurns n (world_after_all (world_after_all w before) turn) after

-- ---- GETS THROUGH: TIME-WAIT expires at both ends, in the end (RFC 9293, 3.10.8)
abbrev pub time_waits : List EventContent
time_waits = Timer A timers.TimeWait ∷ Timer B timers.TimeWait ∷ []

-- GOT THROUGH, from w to v: all that the other's end had accepted was delivered to each user, and all of it is acknowledged.
-- Nothing more was accepted. Once TIME-WAIT has expired at both ends the world is settled: where both users closed, both ends
-- have ended in order
pub record GotThrough (w v : WorldState) : Type 0 where
  pub there : IsThrough v.a v.b
  pub back : IsThrough v.b v.a
  pub streams : HasStreamsOf w v
  pub settles : IsSettled (world_after_all v time_waits)

-- no end was reset or aborted
abbrev pub NoneDiscarded : WorldState → Type 0
NoneDiscarded w = (has_discarded w.a ≡ false) × (has_discarded w.b ≡ false)

-- with one turn more than what is left, unless an end is reset
abbrev pub GetsThrough : WorldState → Type 0
GetsThrough w =
    IsLive w.a → IsLive w.b → (events : List EventContent) → HasTurns (suc (left_in w)) w events → NoneDiscarded (world_after_all w events)
    → GotThrough w (world_after_all w events)

-- THERE ARE TURNS, any number of them, in which no end is reset or aborted
pub record CanHaveTurns (n : ℕ) (w : WorldState) : Type 0 where
  pub events : List EventContent
  pub turns : HasTurns n w events
  pub stays : NoneDiscarded (world_after_all w events)

-- A BURST ENDS: a side that emits and emits, while nothing arrives, has nothing due after this many times
abbrev pub BurstEnds : WorldState → Side → Type 0
BurstEnds w side = (count : ℕ) × IsIdle (world_after_all w (emissions side count)) side

-- NOTHING IS TAKEN BACK: over calm events what is left never grows, nothing more is accepted, and no user closes
abbrev pub NeverGrows : WorldState → Type 0
NeverGrows w =
    (events : List EventContent) → AllByRecursion IsCalm events
    → (left_in (world_after_all w events) ≤ left_in w) × HasStreamsOf w (world_after_all w events)

-- ---- THE LAWS, in every world that any list of events leads to
abbrev pub WhoIsServedGetsThrough : Type 0
WhoIsServedGetsThrough = InEveryWorld GetsThrough

abbrev pub TurnsCanBeHad : Type 0
TurnsCanBeHad = InEveryWorld (λ w. NoneDiscarded w → (n : ℕ) → CanHaveTurns n w)

abbrev pub EachBurstEnds : Type 0
EachBurstEnds = InEveryWorld (λ w. (side : Side) → BurstEnds w side)

abbrev pub WhatIsLeftNeverGrows : Type 0
WhatIsLeftNeverGrows = InEveryWorld NeverGrows
