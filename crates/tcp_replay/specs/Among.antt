-- TWO ENDS AMONG STRANGERS (RFC 5961, 1): who isn't on the path between them may send any bytes at any time, from and to any
-- address. What it can't know are the numbers that they use (RFC 9293, 3.4.1), so that what it sends isn't let in.
use Rattle.std.specs.Prelude.{◌≡◌, ℕ, Bool, true, false, List, [], ◌∷◌, Option, IfSome, Result, Ok, Err, ◌≤◌}
use Rattle.tcp_wire.specs.Checksum.{AreBytes}
use Rattle.tcp_wire.specs.Decoded.{decode_answer}
use Rattle.tcp_wire.specs.Wire.{Content}
use Rattle.tcp_wire.specs.declared.fault.DecodeError.{DecodeError}
use Rattle.tcp_halves.specs.Config.{IsConfig}
use Rattle.tcp_halves.specs.declared.config.Config.{Config}
use Rattle.tcp_halves.specs.declared.link.WaitingReset.{WaitingReset}
use Rattle.tcp_conn.specs.declared.arrive.judgement.Judgement.{Judgement}
use Rattle.tcp_conn.specs.declared.arrive.judgement.Judgement.TheVariants.{PeerOpens, PeerRefuses, PeerAccepts, PeerResets, Taken, TakenShut}
use Rattle.tcp_conn.specs.Arrival.{after_arrival}
use Rattle.tcp_conn.specs.Judgement.{judgement}
use Rattle.tcp_conn.specs.State.{State}
use Rattle.tcp_replay.specs.declared.event.Side.{Side}
use Rattle.tcp_replay.specs.Events.{EventContent, HasBytes}
use Rattle.tcp_replay.specs.World.{WorldState, PartyState, party_of, other, world_from, world_after, new_world_with, world_with_runs, max_life}
use Rattle.tcp_replay.specs.Safe.{IsSafe, HintsAreTrue, FindsDamage}

-- ---- LET IN: the rules that open or end a connection, or take anything of a segment (RFC 9293, 3.10.7)
abbrev pub lets_in : Judgement → Bool
lets_in PeerOpens = true
lets_in PeerRefuses = true
lets_in PeerAccepts = true
lets_in PeerResets = true
lets_in Taken = true
lets_in TakenShut = true
lets_in other = false

-- a segment; and bytes, which may be none
abbrev pub is_let_in : State → List ℕ → List ℕ → Content → Bool
is_let_in s src dst v = lets_in (judgement s src dst v)

abbrev pub is_reading_let_in : State → List ℕ → List ℕ → Result Content DecodeError → Bool
is_reading_let_in s src dst (Ok v) = is_let_in s src dst v
is_reading_let_in s src dst (Err fault) = false

-- AN INJECTION: any bytes that arrive at an end, from and to any addresses
pub record Injection : Type 0 where
  pub src : List ℕ
  pub dst : List ℕ
  pub bytes : List ℕ

abbrev pub is_injection_let_in : State → Injection → Bool
is_injection_let_in s i = is_reading_let_in s i.src i.dst (decode_answer i.src i.dst i.bytes)

-- it arrives as any other segment does
abbrev pub after_injection : State → Injection → State
after_injection s i = after_arrival s i.src i.dst i.bytes

-- NOTHING BUT WHAT IS PENDING is different: an acknowledgement may be, and a reset may wait
abbrev pub with_pending : State → Bool → Option WaitingReset → State
with_pending s ack reset = record s { pending = record s.pending { ack = ack; reset = reset } }

pub record ChangesOnlyPending (s s' : State) : Type 0 where
  pub ack : Bool
  pub reset : Option WaitingReset
  pub same : s' ≡ with_pending s ack reset

-- so it is after whatever isn't let in
abbrev pub WhatIsKeptOutChangesOnlyPending : Type 0
WhatIsKeptOutChangesOnlyPending = (s : State) (i : Injection) → is_injection_let_in s i ≡ false → ChangesOnlyPending s (after_injection s i)

-- ---- BLIND, at p, whose peer is q: it isn't let in, and no reset waits for a stranger after it. An end writes one to whoever
-- wrote in CLOSED and in LISTEN alone (RFC 9293, 3.10.7.1 and 3.10.7.2), and it would stand among what p sent to q
pub record IsBlind (p q : PartyState) (i : Injection) : Type 0 where
  pub are_bytes : AreBytes i.bytes
  pub kept_out : is_injection_let_in p.endpoint i ≡ false
  pub to_peer : IfSome (after_injection p.endpoint i).pending.reset (λ reset. reset.to.addr.0 ≡ q.endpoint.config.addr.0)

-- ---- WHAT HAPPENS: an event of the two ends and of the network between them, or an injection at one side
pub data Happening : Type 0 where
  Happens : EventContent → Happening
  Injects : Side → Injection → Happening

abbrev pub party_after_injection : PartyState → Injection → PartyState
party_after_injection p i = record p { endpoint = after_injection p.endpoint i }

abbrev pub world_with_injection : WorldState → Side → Injection → WorldState
world_with_injection w side i = world_from w.life side (party_after_injection (party_of w side) i) (party_of w (other side))

abbrev pub after_happening : WorldState → Happening → WorldState
after_happening w (Happens event) = world_after w event
after_happening w (Injects side i) = world_with_injection w side i

unfoldable pub after_happenings : WorldState → List Happening → WorldState
after_happenings w [] = w
after_happenings w (happening ∷ list) = after_happenings (after_happening w happening) list

-- each injection is blind when it comes
abbrev pub IsFair : WorldState → Happening → Type 0
IsFair w (Happens event) = HasBytes event
IsFair w (Injects side i) = IsBlind (party_of w side) (party_of w (other side)) i

unfoldable pub AreFair : WorldState → List Happening → Type 0
AreFair w [] = Unit {0}
AreFair w (happening ∷ list) = IsFair w happening × AreFair (after_happening w happening) list

-- ---- THE HEADLINE AMONG STRANGERS, over every list of what happens: whatever the Configs of the two ends, however long
-- segments live, and whether events are refused or not
abbrev pub EveryRunAmongStrangersIsSafe : Type 0
EveryRunAmongStrangersIsSafe =
    (life : ℕ) (a b : Config) (list : List Happening) → life ≤ max_life → IsConfig a → IsConfig b → AreFair (new_world_with life a b) list
    → IsSafe (after_happenings (new_world_with life a b) list) × HintsAreTrue (after_happenings (new_world_with life a b) list)
    × FindsDamage (after_happenings (new_world_with life a b) list)

-- so it is whatever number of runs either end keeps out of order and remembers of its peer's
abbrev pub EveryRunAmongStrangersIsSafeWithRuns : Type 0
EveryRunAmongStrangersIsSafeWithRuns =
    (life : ℕ) (a b : Config) (runs_a runs_b : ℕ) (list : List Happening) → life ≤ max_life → IsConfig a → IsConfig b
    → AreFair (world_with_runs life a b runs_a runs_b) list
    → IsSafe (after_happenings (world_with_runs life a b runs_a runs_b) list)
    × HintsAreTrue (after_happenings (world_with_runs life a b runs_a runs_b) list)
    × FindsDamage (after_happenings (world_with_runs life a b runs_a runs_b) list)
