-- Two ends and all that they emitted, the effect of an event on them (RFC 9293, 3.10), and runs of events.
use Rattle.std.specs.Prelude.{◌≡◌, ℕ, suc, ◌^◌, Bool, true, false, ◌||◌, ◌==◌, nat_le, bit_xor, if◌then◌else◌, is_ok, List, [], ◌∷◌, ◌++◌, length, take, Option, Some, None, unwrap_or, option_to_list, option_map, slice_get, slice_set, slice_index, Result, Ok, Err, IfErr, ◌↔◌, ◌≤◌, ◌+◌, ◌&&◌, not}
use Rattle.byteorder.specs.Endian.{big_from}
use Rattle.tcp_wire.specs.Flags.{rst, ack, has}
use Rattle.tcp_wire.specs.Position.{position_of}
use Rattle.tcp_halves.specs.declared.config.Config.{Config}
use Rattle.tcp_halves.specs.declared.config.ConfigError.{ConfigError}
use Rattle.tcp_halves.specs.declared.config.ConfigError.TheVariants as faults
use Rattle.tcp_halves.specs.declared.link.Peer.{Peer}
use Rattle.tcp_conn.specs.declared.outcome.CallError.{CallError}
use Rattle.tcp_conn.specs.declared.outcome.Received.{Received}
use Rattle.tcp_conn.specs.declared.outcome.Received.TheVariants.{Bytes, EndOfStream}
use Rattle.tcp_conn.specs.declared.phase.Timer.{Timer as Which}
use Rattle.tcp_conn.specs.State.{State}
use Rattle.tcp_halves.specs.Config.{default_limit, HasBadCapacity, HasBadMss, HasBadShift, HasBadLimit, IsGoodConfig}
use Rattle.tcp_conn.specs.NewEnd.{end_with_runs}
use Rattle.tcp_halves.specs.Receiver.{rcv_position}
use Rattle.tcp_reasm.specs.Reassembly.{default_runs}
use Rattle.tcp_conn.specs.Calls.{opening_answer, after_connect, after_listen, send_answer, after_send, receive_answer, after_receive, received_bytes, close_answer, after_close, abort_answer, after_abort, after_acknowledge}
use Rattle.tcp_conn.specs.Timers.{timer_answer, after_timer, sends_again, resends_between, after_resend_first, after_resend}
use Rattle.tcp_conn.specs.declared.emit.due.Due.{Due}
use Rattle.tcp_conn.specs.Due.{ack_alone}
use Rattle.tcp_conn.specs.Writing.{bytes_of}
use Rattle.tcp_conn.specs.Emission.{emitted_bytes, after_due, after_emission}
use Rattle.tcp_conn.specs.Arrival.{arrival_answer, after_arrival}
use Rattle.tcp_replay.specs.declared.event.Side.{Side}
use Rattle.tcp_replay.specs.declared.event.Side.TheVariants.{A, B}
use Rattle.tcp_replay.specs.declared.outcome.Outcome.{Outcome}
use Rattle.tcp_replay.specs.declared.outcome.Outcome.TheVariants as outcomes
use Rattle.tcp_replay.specs.declared.outcome.WorldError.{WorldError}
use Rattle.tcp_replay.specs.declared.outcome.WorldError.TheVariants as worlds
use Rattle.tcp_replay.specs.declared.outcome.StepError.{StepError}
use Rattle.tcp_replay.specs.declared.outcome.StepError.TheVariants.{NoSuchSegment, NoChange, PlaceOutside, Expired}
use Rattle.tcp_replay.specs.Events.{EventContent, side_of, Connect, Listen, Send, Receive, Close, Abort, Acknowledge, Timer, Emit, EmitAcknowledgement, ResendFirst, Resend, Deliver, Damage}

-- a segment that was emitted, and its positions then: that of its sequence number in its own direction, and the next that the
-- end expected of the other direction, which it acknowledges
pub record SentSegment : Type 0 where
  pub bytes : List ℕ
  pub position : ℕ
  pub wanted : ℕ

-- the offsets of the sequence number and of the control bits (RFC 9293, 3.1)
abbrev pub seq_in : List ℕ → ℕ
seq_in bytes = big_from 4 4 bytes

abbrev pub flags_in : List ℕ → ℕ
flags_in bytes = slice_index bytes 13

-- an end in this state emits these bytes
abbrev pub sent_by : State → List ℕ → SentSegment
sent_by s bytes = record { bytes = bytes; position = position_of s.config.isn.0 s.sending.snd_una (seq_in bytes); wanted = rcv_position s.receiving }

-- one end, with what its user did and got, and every segment that it emitted
pub record PartyState : Type 0 where
  pub endpoint : State
  pub sent : List SentSegment
  -- what `send` accepted, and what `receive` delivered
  pub accepted : List ℕ
  pub delivered : List ℕ
  -- a `close` was accepted; the end of the stream was delivered
  pub closed : Bool
  pub ended : Bool

-- two ends, and the lifetime of a segment in positions: one that lies this far behind at an end isn't delivered to it
pub record WorldState : Type 0 where
  pub life : ℕ
  pub a : PartyState
  pub b : PartyState

abbrev pub both : ℕ → PartyState → PartyState → WorldState
both life a b = record { life = life; a = a; b = b }

-- the longest lifetime: with it any number is that of one position alone (RFC 9293, 3.4)
abbrev pub max_life : ℕ
max_life = 2 ^ 31

-- its end keeps at most this many runs out of order, and remembers as many of its peer's (RFC 2018, 5)
abbrev pub party_with_runs : Config → ℕ → PartyState
party_with_runs c runs = record { endpoint = end_with_runs c runs; sent = []; accepted = []; delivered = []; closed = false; ended = false }

abbrev pub new_party : Config → PartyState
new_party c = party_with_runs c default_runs

-- each end has a number of its own
abbrev pub world_with_runs : ℕ → Config → Config → ℕ → ℕ → WorldState
world_with_runs life a b runs_a runs_b = both life (party_with_runs a runs_a) (party_with_runs b runs_b)

abbrev pub new_world_with : ℕ → Config → Config → WorldState
new_world_with life a b = world_with_runs life a b default_runs default_runs

abbrev pub new_world : Config → Config → WorldState
new_world a b = new_world_with max_life a b

-- ---- the effect on one party

abbrev pub address_of : PartyState → Peer
address_of p = record { addr = p.endpoint.config.addr; port = p.endpoint.config.port }

unfoldable pub party_after_connect : PartyState → Peer → PartyState
party_after_connect p peer = record p { endpoint = after_connect p.endpoint peer }

unfoldable pub party_after_listen : PartyState → PartyState
party_after_listen p = record p { endpoint = after_listen p.endpoint }

-- SEND: accepted is what the call accepted
abbrev pub front_taken : Result ℕ CallError → List ℕ → List ℕ
front_taken (Ok count) text = take count text
front_taken (Err error) text = []

unfoldable pub party_after_send : PartyState → List ℕ → PartyState
party_after_send p text = record p {
  endpoint = after_send p.endpoint text;
  accepted = p.accepted ++ front_taken (send_answer p.endpoint text) text;
}

-- RECEIVE: delivered are the bytes that the call delivered
abbrev pub is_end_of_stream : Result Received CallError → Bool
is_end_of_stream (Ok EndOfStream) = true
is_end_of_stream other = false

unfoldable pub party_after_receive : PartyState → ℕ → PartyState
party_after_receive p room = record p {
  endpoint = after_receive p.endpoint room;
  delivered = p.delivered ++ received_bytes p.endpoint room;
  ended = p.ended || is_end_of_stream (receive_answer p.endpoint room);
}

unfoldable pub party_after_close : PartyState → PartyState
party_after_close p = record p { endpoint = after_close p.endpoint; closed = p.closed || is_ok (close_answer p.endpoint) }

unfoldable pub party_after_abort : PartyState → PartyState
party_after_abort p = record p { endpoint = after_abort p.endpoint }

unfoldable pub party_after_acknowledge : PartyState → PartyState
party_after_acknowledge p = record p { endpoint = after_acknowledge p.endpoint }

unfoldable pub party_after_timer : PartyState → Which → PartyState
party_after_timer p timer = record p { endpoint = after_timer p.endpoint timer }

-- EMIT: a segment is appended to the list, from which nothing is removed
unfoldable pub party_after_emission : PartyState → PartyState
party_after_emission p = record p { endpoint = after_emission p.endpoint; sent = p.sent ++ option_to_list (option_map (sent_by p.endpoint) (emitted_bytes p.endpoint)) }

abbrev pub emission_outcome : PartyState → Outcome
emission_outcome p = outcomes.Emitted (option_map (λ _. length p.sent) (emitted_bytes p.endpoint))

-- what goes out is appended likewise, whatever of an end it is
abbrev pub party_out : PartyState → Option Due → PartyState
party_out p due = record p {
  endpoint = after_due p.endpoint due;
  sent = p.sent ++ option_to_list (option_map (sent_by p.endpoint) (option_map (bytes_of p.endpoint) due));
}

abbrev pub outcome_out : PartyState → Option Due → Outcome
outcome_out p due = outcomes.Emitted (option_map (λ _. length p.sent) (option_map (bytes_of p.endpoint) due))

-- EMIT AN ACKNOWLEDGEMENT alone
unfoldable pub party_after_ack_alone : PartyState → PartyState
party_after_ack_alone p = party_out p (ack_alone p.endpoint)

-- RESEND FIRST: the first segment alone is to go out again
unfoldable pub party_after_resend_first : PartyState → PartyState
party_after_resend_first p = record p { endpoint = after_resend_first p.endpoint }

-- RESEND: what lies between two positions is to go out again
unfoldable pub party_after_resend : PartyState → ℕ → ℕ → PartyState
party_after_resend p from to = record p { endpoint = after_resend p.endpoint from to }

-- ARRIVAL: bytes come from the other party, with the true addresses
unfoldable pub party_after_arrival : PartyState → PartyState → List ℕ → PartyState
party_after_arrival p from bytes = record p {
  endpoint = after_arrival p.endpoint from.endpoint.config.addr.0 p.endpoint.config.addr.0 bytes;
}

abbrev pub arrival_outcome : PartyState → PartyState → List ℕ → Outcome
arrival_outcome p from bytes = outcomes.Arrived (arrival_answer p.endpoint from.endpoint.config.addr.0 p.endpoint.config.addr.0 bytes)

-- segment k of a party; where there is none, one without bytes at the first positions
abbrev pub sent_at : PartyState → ℕ → SentSegment
sent_at p k = unwrap_or (slice_get p.sent k) (record { bytes = []; position = 0; wanted = 0 })

abbrev pub segment_at : PartyState → ℕ → List ℕ
segment_at p k = (sent_at p k).bytes

-- the bytes with one of them combined with a value by exclusive or
abbrev pub bytes_with_damage : List ℕ → ℕ → ℕ → List ℕ
bytes_with_damage bytes place value = slice_set bytes place (bit_xor (slice_index bytes place) value)

-- REFUSALS of a delivery but that there is no memory, the first that applies
abbrev pub is_missing : PartyState → ℕ → Bool
is_missing p k = nat_le (length p.sent) k

-- THE LIFETIME of a segment is over where its position lies that far behind the next that its receiver expects, or its
-- acknowledgement that far behind the receiver's SND.UNA (RFC 9293, 3.4). A reset has none
abbrev pub is_late : ℕ → State → SentSegment → Bool
is_late life s g = nat_le (g.position + life) (rcv_position s.receiving)

abbrev pub acks_late : ℕ → State → SentSegment → Bool
acks_late life s g = has ack (flags_in g.bytes) && nat_le (g.wanted + life) s.sending.snd_una

abbrev pub is_expired : ℕ → State → SentSegment → Bool
is_expired life s g = not (has rst (flags_in g.bytes)) && (is_late life s g || acks_late life s g)

abbrev pub age_refusal : ℕ → State → SentSegment → Option StepError
age_refusal life s g = if is_expired life s g then Some Expired else None

-- from p to q
abbrev pub delivery_refusal : ℕ → PartyState → PartyState → ℕ → Option StepError
delivery_refusal life p q k = if is_missing p k then Some NoSuchSegment else age_refusal life q.endpoint (sent_at p k)

abbrev pub damage_refusal : ℕ → PartyState → PartyState → ℕ → ℕ → ℕ → Option StepError
damage_refusal life p q k place value =
    if is_missing p k then Some NoSuchSegment
    else (if value == 0 then Some NoChange
    else (if nat_le (length (segment_at p k)) place then Some PlaceOutside
    else age_refusal life q.endpoint (sent_at p k)))

-- ---- the effect on the world

abbrev pub other : Side → Side
other A = B
other B = A

abbrev pub party_of : WorldState → Side → PartyState
party_of w A = w.a
party_of w B = w.b

-- the world in which one side's party is the first of two
abbrev pub world_from : ℕ → Side → PartyState → PartyState → WorldState
world_from life A p q = both life p q
world_from life B p q = both life q p

-- The effect of an event on the party whose side it names, here, and on the other one, there: why it is refused, apart from
-- memory; where it isn't, both parties after it, and the outcome; and whether the world has to grow for it.
pub record Effect : Type 0 where
  pub refusal : Option StepError
  pub here : PartyState
  pub there : PartyState
  pub outcome : Outcome
  pub grows : Bool

abbrev pub effect_here : PartyState → PartyState → Outcome → Bool → Effect
effect_here here there outcome grows = record { refusal = None; here = here; there = there; outcome = outcome; grows = grows }

-- bytes are sent from here to the other side
abbrev pub effect_there : PartyState → PartyState → List ℕ → Option StepError → Bool → Effect
effect_there here there bytes refusal grows = record {
  refusal = refusal;
  here = here;
  there = party_after_arrival there here bytes;
  outcome = arrival_outcome there here bytes;
  grows = grows;
}

-- THE TABLE OF EVENTS
unfoldable pub effect_of : ℕ → PartyState → PartyState → EventContent → Effect
effect_of life p q (Connect side) = effect_here (party_after_connect p (address_of q)) q (outcomes.Call (opening_answer p.endpoint)) false
effect_of life p q (Listen side) = effect_here (party_after_listen p) q (outcomes.Call (opening_answer p.endpoint)) false
effect_of life p q (Send side bytes) = effect_here (party_after_send p bytes) q (outcomes.Sent (send_answer p.endpoint bytes)) true
effect_of life p q (Receive side room) = effect_here (party_after_receive p room) q (outcomes.Got (receive_answer p.endpoint room)) true
effect_of life p q (Close side) = effect_here (party_after_close p) q (outcomes.Call (close_answer p.endpoint)) false
effect_of life p q (Abort side) = effect_here (party_after_abort p) q (outcomes.Call (abort_answer p.endpoint)) false
effect_of life p q (Acknowledge side) = effect_here (party_after_acknowledge p) q (outcomes.Call (Ok tt)) false
effect_of life p q (Timer side which) = effect_here (party_after_timer p which) q (outcomes.Timer (timer_answer p.endpoint which)) false
effect_of life p q (Emit side) = effect_here (party_after_emission p) q (emission_outcome p) true
effect_of life p q (EmitAcknowledgement side) = effect_here (party_after_ack_alone p) q (outcome_out p (ack_alone p.endpoint)) true
effect_of life p q (ResendFirst side) = effect_here (party_after_resend_first p) q (outcomes.Timer (sends_again p.endpoint)) false
effect_of life p q (Resend side from to) = effect_here (party_after_resend p from to) q (outcomes.Timer (resends_between p.endpoint from to)) false
effect_of life p q (Deliver from k) = effect_there p q (segment_at p k) (delivery_refusal life p q k) false
effect_of life p q (Damage from k place value) = effect_there p q (bytes_with_damage (segment_at p k) place value) (damage_refusal life p q k place value) true

-- in a world, for the side that the event names
abbrev pub effect_in : WorldState → EventContent → Effect
effect_in w e = effect_of w.life (party_of w (side_of e)) (party_of w (other (side_of e))) e

-- why an event is refused, apart from memory
abbrev pub refusal_of : WorldState → EventContent → Option StepError
refusal_of w e = (effect_in w e).refusal

-- the world after one that isn't refused, and the outcome
abbrev pub world_with_effect : WorldState → EventContent → WorldState
world_with_effect w e = world_from w.life (side_of e) (effect_in w e).here (effect_in w e).there

abbrev pub outcome_of : WorldState → EventContent → Outcome
outcome_of w e = (effect_in w e).outcome

-- whether the world has to grow for it
abbrev pub grows_for : WorldState → EventContent → Bool
grows_for w e = (effect_in w e).grows

-- ---- runs

-- ONE EVENT, refused or not: the answer, and the world after it
abbrev pub answer_or : Option StepError → Outcome → Result Outcome StepError
answer_or None outcome = Ok outcome
answer_or (Some error) outcome = Err error

abbrev pub step_answer : WorldState → EventContent → Result Outcome StepError
step_answer w e = answer_or (refusal_of w e) (outcome_of w e)

abbrev pub stay_or : Option StepError → WorldState → WorldState → WorldState
stay_or (Some error) here there = here
stay_or None here there = there

abbrev pub world_after : WorldState → EventContent → WorldState
world_after w e = stay_or (refusal_of w e) w (world_with_effect w e)

-- A RUN THAT CONTINUES takes all its events in order, refused ones too: the world after all of them
unfoldable pub world_after_all : WorldState → List EventContent → WorldState
world_after_all w [] = w
world_after_all w (event ∷ events) = world_after_all (world_after w event) events

-- A RUN THAT STOPS at the first event that is refused: whether one is, its index and why
abbrev pub later : Option (ℕ × StepError) → Option (ℕ × StepError)
later None = None
later (Some stop) = Some (suc stop.0, stop.1)

abbrev pub stop_or : Option StepError → Option (ℕ × StepError) → Option (ℕ × StepError)
stop_or (Some error) rest = Some (0, error)
stop_or None rest = later rest

unfoldable pub stop_of : WorldState → List EventContent → Option (ℕ × StepError)
stop_of w [] = None
stop_of w (event ∷ events) = stop_or (refusal_of w event) (stop_of (world_with_effect w event) events)

-- the world in which it ends
unfoldable pub run_of : WorldState → List EventContent → WorldState
run_of w [] = w
run_of w (event ∷ events) = stay_or (refusal_of w event) w (run_of (world_with_effect w event) events)

-- Where there is no memory a run stops before an event for which the world has to grow: none before it is refused, nor it
-- itself, and all before it stay done.
pub record StopsForMemory (w : WorldState) (list : List EventContent) (index : ℕ) (here : WorldState) : Type 0 where
  pub event : EventContent
  pub event_is : slice_get list index ≡ Some event
  pub going : stop_of w (take (suc index) list) ≡ None
  pub grows : grows_for here event ≡ true
  pub stays : here ≡ run_of w (take index list)

-- NO SEGMENT EXPIRES where the lifetime is the longest, and any two positions of a direction differ by less than it
pub record KeepsAllSegments (w : WorldState) : Type 0 where
  pub life : w.life ≡ max_life
  pub limit_of_a : w.a.endpoint.config.limit ≤ default_limit
  pub limit_of_b : w.b.endpoint.config.limit ≤ default_limit

-- FAULTS of two Configs: whether a world can be made of them, and whose fault a refusal names. Apart from memory, a fault of
-- the second is named only where the first has none.
abbrev pub HasGoodConfigs : Config → Config → Type 0
HasGoodConfigs a b = IsGoodConfig a × IsGoodConfig b

abbrev pub HasFault : Config → ConfigError → Type 0
HasFault c faults.BadCapacity = HasBadCapacity c
HasFault c faults.BadMss = HasBadMss c
HasFault c faults.BadShift = HasBadShift c
HasFault c faults.BadLimit = HasBadLimit c
HasFault c faults.NoMemory = IsGoodConfig c

abbrev pub HasNamedFault : Config → Config → WorldError → Type 0
HasNamedFault a b (worlds.Config A fault) = HasFault a fault
HasNamedFault a b (worlds.Config B fault) = IsGoodConfig a × HasFault b fault

-- THE FAULT that is returned is one of a Config, and each fault of the first Config is returned as what it is
pub record NamesFault (a b : Config) (result : Result WorldState WorldError) : Type 0 where
  pub named : IfErr result (HasNamedFault a b)
  pub bad_capacity_of_a : (result ≡ Err (worlds.Config A faults.BadCapacity)) ↔ HasBadCapacity a
  pub bad_mss_of_a : (result ≡ Err (worlds.Config A faults.BadMss)) ↔ HasBadMss a
  pub bad_shift_of_a : (result ≡ Err (worlds.Config A faults.BadShift)) ↔ HasBadShift a
  pub bad_limit_of_a : (result ≡ Err (worlds.Config A faults.BadLimit)) ↔ HasBadLimit a
