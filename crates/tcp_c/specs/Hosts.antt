-- What the calls of a host report and do. Each record is of one call, between the host before it and the host after it: its facts are
-- those of the proved host's own call, with what C is told in place of what that answers.
use Rattle.std.specs.Prelude.{◌≡◌, ◌≢◌, ℕ, ◌+◌, ◌≤◌, ◌<◌, Bool, true, false, ◌==◌, if◌then◌else◌, List, [], ◌∷◌, drop, Option, Some, None, IfSome, IfNone, MatchOption, is_some, option_map, min, ◌⊎◌}
use Rattle.std.specs.Option.{IsSomeAnd}
use Rattle.std.specs.declared.cmp.Ordering.{Ordering}
use Rattle.tcp_driver.specs.Deadlines.{last}
use Rattle.tcp_driver.specs.declared.driver.Taken.{Taken}
use Rattle.tcp_driver.specs.declared.machine.Sent.{Sent}
use Rattle.tcp_driver.specs.declared.machine.Timer.{Timer}
use Rattle.tcp_driver.specs.declared.machine.Timer.TheVariants.{TimeWait}
use Rattle.tcp_congestion.specs.Limiter.{after_granted, is_granted, new_limiter}
use Rattle.tcp_halves.specs.declared.config.ConfigError.TheVariants.{NoMemory}
use Rattle.tcp_halves.specs.Config.{config_error_number}
use Rattle.tcp_conn.specs.declared.arrive.report.Taken as reports
use Rattle.tcp_conn.specs.declared.outcome.Arrival.{Arrival}
use Rattle.tcp_conn.specs.declared.outcome.CallError.TheVariants.{NotConnected}
use Rattle.tcp_conn.specs.declared.stray.TheConstants.{RESET_LEN}
use Rattle.tcp_conn.specs.Outcome.{call_error_number}
use Rattle.tcp_conn.specs.State.{State}
use Rattle.tcp_conn.specs.Status.{peer_of}
use Rattle.tcp_conn.specs.Stray.{stray_reset, with_front}
use Rattle.tcp_table.specs.declared.held.Id.{Id}
use Rattle.tcp_table.specs.Table.{Changes, HasKey, IsAsBefore, LacksKey, held_at, id_at, slot_of, value_at, with_value}
use Rattle.tcp_table.specs.Turns.{after_adding}
use Rattle.tcp_host.specs.declared.arrived.Arrived.{Arrived}
use Rattle.tcp_host.specs.declared.arrived.Arrived.TheVariants as came
use Rattle.tcp_host.specs.declared.guest.Guest.{Guest}
use Rattle.tcp_host.specs.declared.pair.Pair.{Pair}
use Rattle.tcp_host.specs.declared.pair.Socket.{Socket}
use Rattle.tcp_host.specs.declared.place.Place.{Place}
use Rattle.tcp_host.specs.declared.place.Place.TheVariants as places
use Rattle.tcp_host.specs.declared.record.Record.{Record}
use Rattle.tcp_host.specs.Door.{is_full, new_door}
use Rattle.tcp_host.specs.Hosting.{ByPlace, EndsRest, HasRecordOf, Hosting, IsElsewhere, IsFor, IsForNone, IsHeard, IsLeast, IsNext, IsNobodys, IsOpenedBy, IsUnheard, NoneIsNext, RecordsStand, Stands, admitted_at, after_call, deadline_at, end_at, forgotten_at, listeners_after, new_guest, origin_at, woken}
use Rattle.tcp_host.specs.Pair.{asks, pair_of}
use Rattle.tcp_host.specs.Record.{answer_of_record, left_by, of_record, record_after}
use Rattle.tcp_c.specs.Answers.{arrival_number, backlog_full, done, gone, nobody, not_time_wait, nothing_due, taken, withheld}
use Rattle.tcp_c.specs.Connections.{arrival_told, end_of, taken_report, time_number, timer_number}
use Rattle.tcp_c.specs.Lodgers.{driven_in, lodger_answer, lodger_end, lodger_time_wait, lodger_until, of_lodger}
use Rattle.tcp_c.specs.Reports.{no_arrive_report}
use Rattle.tcp_c.specs.Segments.{nowhere}
use Rattle.tcp_c.specs.declared.connection.driven.Driven.{Driven}
use Rattle.tcp_c.specs.declared.host.lodger.Lodger.{Lodger}
use Rattle.tcp_c.specs.declared.host.lodging.Lodging.{Lodging}
use Rattle.tcp_c.specs.declared.records.CArriveReport.{CArriveReport}
use Rattle.tcp_c.specs.declared.records.CHostArrived.{CHostArrived}
use Rattle.tcp_c.specs.declared.records.CHostId.{CHostId}
use Rattle.tcp_c.specs.declared.records.CHostSent.{CHostSent}
use Rattle.tcp_c.specs.declared.records.CHostTold.{CHostTold}

-- a host of connections, whose listeners keep nothing
abbrev pub Hosted : Type 0
Hosted = Hosting Lodger (Unit {0})

-- WHAT HOLDS OF A CALL: one thing where the handle has no host, which it then hasn't afterwards; another of the host before and after
abbrev pub OnHost : Type 0 → (Hosted → Hosted → Type 0) → Option Lodging → Option Lodging → Type 0
OnHost none some None None = none
OnHost none some (Some old) (Some new) = some old.host new.host
OnHost none some old new = ⊥

-- one thing where a buffer has less than the least room, another where it has that
abbrev pub Within : ℕ → ℕ → Type 0 → Type 0 → Type 0
Within least room little enough = (room < least → little) × (least ≤ room → enough)

-- ---- NAMES
abbrev pub id_of : CHostId → Id
id_of c = record { slot = c.slot; number = c.number }

abbrev pub no_id : CHostId
no_id = record { number = 0; slot = 0 }

abbrev pub id_told : Option Id → CHostId
id_told None = no_id
id_told (Some id) = record { number = id.number; slot = id.slot }

-- there is no memory in the host's block
abbrev pub no_memory : ℕ
no_memory = config_error_number NoMemory

-- the bytes of a segment are too short for ports
abbrev pub too_short : ℕ
too_short = 1

-- a connection has no peer yet
abbrev pub not_connected : ℕ
not_connected = call_error_number NotConnected

-- ---- WHO HAS FOUR VALUES: a connection's own address and port, and its peer's (RFC 9293, 3.3.1)
abbrev pub pair_between : List ℕ → ℕ → List ℕ → ℕ → Pair
pair_between addr port peer_addr peer_port =
    record { local = record { addr = addr; port = port }; peer = record { addr = peer_addr; port = peer_port } }

pub record Finds (cmp : Pair → Pair → Ordering) (h : Hosted) (pair : Pair) (answer : ℕ) (id : CHostId) : Type 0 where
  pub found : answer ≡ done → (slot : ℕ) × HasKey cmp h.ends pair slot × (id ≡ id_told (id_at h.ends slot))
  pub none : answer ≢ done → (answer ≡ nobody) × (id ≡ no_id) × LacksKey cmp h.ends pair

-- ---- A NEW HOST
pub record IsNewHost (h : Hosted) (time_wait stray_interval : ℕ) : Type 0 where
  pub ends : h.ends.slots ≡ []
  pub listeners : h.listeners.slots ≡ []
  pub records : h.records.slots ≡ []
  pub waiting : h.waiting ≡ []
  pub answering : h.answering ≡ []
  pub strays : h.strays ≡ new_limiter stray_interval
  pub span : h.span ≡ time_wait

-- ---- THE END OF A NAME, with what its host keeps of it, while it is there
abbrev pub guest_by : Bool → Option (Guest Lodger) → Option (Guest Lodger)
guest_by is found = if is then found else None

abbrev pub guest_of : Hosted → Id → Option (Guest Lodger)
guest_of h id = guest_by (is_some (slot_of h.ends id)) (value_at h.ends id.slot)

-- the answer of a call of it, or that it is gone; and what is reported of it, 0 where it is gone
abbrev pub asked : (Lodger → ℕ) → Option (Guest Lodger) → ℕ
asked answer None = gone
asked answer (Some guest) = answer guest.end

abbrev pub asked_of : Id → (Lodger → ℕ) → Lodging → ℕ
asked_of id answer l = asked answer (guest_of l.host id)

abbrev pub number_by : (Lodger → ℕ) → Option (Guest Lodger) → ℕ
number_by number None = 0
number_by number (Some guest) = number guest.end

abbrev pub number_of : Id → (Lodger → ℕ) → Lodging → ℕ
number_of id number l = number_by number (guest_of l.host id)

-- its state, if it is there
abbrev pub state_by : Option (Guest Lodger) → Option State
state_by None = None
state_by (Some guest) = Some (lodger_end guest.end)

abbrev pub state_of : Id → Option Lodging → Option State
state_of id None = None
state_of id (Some l) = state_by (guest_of l.host id)

-- AFTER A CALL OF IT it is another, and waits for a turn
abbrev pub after_use_by : Hosted → ℕ → (Lodger → Lodger) → Option (Guest Lodger) → Hosted
after_use_by h slot does None = h
after_use_by h slot does (Some guest) =
    record h { ends = with_value h.ends slot (after_call guest (does guest.end)); waiting = after_adding h.waiting slot }

abbrev pub host_after_use : Hosted → Id → (Lodger → Lodger) → Hosted
host_after_use h id does = after_use_by h id.slot does (guest_of h id)

abbrev pub after_use : Id → (Lodger → Lodger) → Lodging → Lodging
after_use id does l = record { host = host_after_use l.host id does }

-- ---- LISTENERS
module _ (cmp : Socket → Socket → Ordering) where
  pub record Listens (old new : Hosted) (socket : Socket) (backlog answer : ℕ) (id : CHostId) : Type 0 where
    pub is_taken : answer ≡ taken → (slot : ℕ) × HasKey cmp old.listeners socket slot
    pub free : answer ≢ taken → LacksKey cmp old.listeners socket
    pub else_memory : answer ≢ done → answer ≢ taken → answer ≡ no_memory
    pub listens : answer ≡ done → Changes old.listeners new.listeners id.slot (Some (record { key = socket; number = id.number; value = new_door tt backlog }))
    pub was_free : answer ≡ done → held_at old.listeners id.slot ≡ None
    pub number : answer ≡ done → id.number ≡ old.listeners.next
    pub above : answer ≡ done → 0 < id.number
    pub next : answer ≡ done → new.listeners.next ≡ old.listeners.next + 1
    pub refused : answer ≢ done → IsAsBefore old.listeners new.listeners
    pub unnamed : answer ≢ done → id ≡ no_id
    pub ends : EndsRest old new
    pub others : RecordsStand old new

pub record Unlistens (old new : Hosted) (id : Id) (answer : ℕ) : Type 0 where
  pub answered : answer ≡ (if is_some (slot_of old.listeners id) then done else gone)
  pub removed : answer ≡ done → Changes old.listeners new.listeners id.slot None
  pub next : new.listeners.next ≡ old.listeners.next
  pub ends : EndsRest old new
  pub others : RecordsStand old new
  pub refused : answer ≢ done → new ≡ old

pub record Accepts (old new : Hosted) (listener : Id) (answer : ℕ) (id : CHostId) : Type 0 where
  pub first : answer ≡ done → IsSomeAnd (value_at old.listeners listener.slot) (λ door. IsSomeAnd (value_at new.listeners listener.slot) (λ after. door ≡ record after { ready = id_of id ∷ after.ready }))
  pub above : answer ≡ done → 0 < id.number
  pub there : answer ≡ done → is_some (slot_of old.listeners listener) ≡ true
  pub empty : answer ≡ nobody → IsSomeAnd (value_at old.listeners listener.slot) (λ door. door.ready ≡ [])
  pub is_gone : answer ≡ gone → is_some (slot_of old.listeners listener) ≡ false
  pub else_nobody : answer ≢ done → answer ≢ gone → answer ≡ nobody
  pub refused : answer ≢ done → new ≡ old
  pub unnamed : answer ≢ done → id ≡ no_id
  pub other_listeners : (slot : ℕ) → (slot ≡ listener.slot → ⊥) → held_at new.listeners slot ≡ held_at old.listeners slot
  pub ends : EndsRest old new
  pub others : RecordsStand old new

-- ---- A CONNECTION MOVES IN: it lies where it lay
-- its pair, once its peer is known
abbrev pub pair_by : State → Option Pair
pair_by s = option_map (λ peer. record { local = record { addr = s.config.addr.0; port = s.config.port }; peer = record { addr = peer.addr.0; port = peer.port } }) (peer_of s)

abbrev pub pair_in : Driven → Option Pair
pair_in d = pair_by (end_of d)

-- an end of the host is the connection
abbrev pub IsOpened : Hosted → Hosted → Driven → Pair → Option Id → CHostId → Type 0
IsOpened old new d pair origin id =
    (g : Lodger) × (driven_in g ≡ d) × Changes old.ends new.ends id.slot (Some (record { key = pair; number = id.number; value = new_guest g origin }))

module _ (cmp : Pair → Pair → Ordering) where
  -- a connection exists already: an end has its pair, or a TIME-WAIT record (RFC 9293, 3.10.1)
  abbrev pub IsTaken : Hosted → Pair → Type 0
  IsTaken h pair = ((slot : ℕ) × HasKey cmp h.ends pair slot) ⊎ HasRecordOf cmp h pair

  -- what is so of any refusal, and of any name
  pub record MovesIn (old new : Hosted) (d : Driven) (after : Option Driven) (answer : ℕ) (id : CHostId) : Type 0 where
    pub was_free : answer ≡ done → held_at old.ends id.slot ≡ None
    pub number : answer ≡ done → id.number ≡ old.ends.next
    pub above : answer ≡ done → 0 < id.number
    pub next : answer ≡ done → new.ends.next ≡ old.ends.next + 1
    pub turn : answer ≡ done → new.waiting ≡ after_adding old.waiting id.slot
    pub moved : answer ≡ done → after ≡ None
    pub refused : answer ≢ done → (slot : ℕ) → held_at new.ends slot ≡ held_at old.ends slot
    pub refused_next : answer ≢ done → old.ends.next ≤ new.ends.next
    pub refused_waiting : answer ≢ done → new.waiting ≡ old.waiting
    pub unnamed : answer ≢ done → id ≡ no_id
    pub stays : answer ≢ done → after ≡ Some d

  pub record Opens (old new : Hosted) (d : Driven) (after : Option Driven) (answer : ℕ) (id : CHostId) : Type 0 where
    pub moves : MovesIn old new d after answer id
    pub opened : answer ≡ done → IsSomeAnd (pair_in d) (λ pair. IsOpened old new d pair None id)
    pub no_peer : answer ≡ not_connected → pair_in d ≡ None
    pub peer : answer ≢ not_connected → is_some (pair_in d) ≡ true
    pub is_taken : answer ≡ taken → IsSomeAnd (pair_in d) (IsTaken old)
    pub no_record : answer ≡ done → IfSome (pair_in d) (LacksKey cmp old.records)
    pub free : answer ≢ taken → IfSome (pair_in d) (LacksKey cmp old.ends)
    pub else_memory : answer ≢ done → answer ≢ not_connected → answer ≢ taken → answer ≡ no_memory
    pub others : IsElsewhere old new

  pub record Admits (old new : Hosted) (origin : Id) (pair : Pair) (d : Driven) (after : Option Driven) (answer : ℕ) (id : CHostId) : Type 0 where
    pub moves : MovesIn old new d after answer id
    pub opened : answer ≡ done → IsOpened old new d pair (Some origin) id
    pub admitted : answer ≡ done → (g : Lodger) × (driven_in g ≡ d) × (new.listeners ≡ admitted_at old.listeners (of_lodger.established g) origin (id_of id))
    pub room : answer ≡ done → IsSomeAnd (value_at old.listeners origin.slot) (λ door. is_full door ≡ false)
    pub is_taken : answer ≡ taken → IsTaken old pair
    pub no_record : answer ≡ done → LacksKey cmp old.records pair
    pub free : answer ≢ taken → LacksKey cmp old.ends pair
    pub is_gone : answer ≡ gone → slot_of old.listeners origin ≡ None
    pub full : answer ≡ backlog_full → IsSomeAnd (value_at old.listeners origin.slot) (λ door. is_full door ≡ true)
    pub listeners : answer ≢ done → new.listeners ≡ old.listeners
    pub else_memory : answer ≢ done → answer ≢ taken → answer ≢ gone → answer ≢ backlog_full → answer ≡ no_memory
    pub others : RecordsStand old new

-- ---- A CONNECTION MOVES OUT: from its slot, as it is there
pub record Removes (old new : Hosted) (id : Id) (answer : ℕ) (after : Option Driven) : Type 0 where
  pub answered : answer ≡ (if is_some (slot_of old.ends id) then done else gone)
  pub moved : answer ≡ done → IsSomeAnd (end_at old.ends id.slot) (λ g. (after ≡ Some (driven_in g)) × (new.listeners ≡ forgotten_at old.listeners (of_lodger.established g) (origin_at old.ends id.slot)))
  pub removed : answer ≡ done → Changes old.ends new.ends id.slot None
  pub next : new.ends.next ≡ old.ends.next
  pub waiting : new.waiting ≡ old.waiting
  pub others : RecordsStand old new
  pub refused : answer ≢ done → new ≡ old
  pub stays : answer ≢ done → after ≡ None

module _ (cmp : Pair → Pair → Ordering) where
  -- in TIME-WAIT, and a record takes its place
  pub record Retires (old new : Hosted) (id : Id) (answer : ℕ) (after : Option Driven) : Type 0 where
    pub moved : answer ≡ done → IsSomeAnd (end_at old.ends id.slot) (λ g. (after ≡ Some (driven_in g)) × (new.listeners ≡ forgotten_at old.listeners (of_lodger.established g) (origin_at old.ends id.slot)))
    pub removed : answer ≡ done → Changes old.ends new.ends id.slot None
    pub left : answer ≡ done → IsSomeAnd (end_at old.ends id.slot) (λ g. IsSomeAnd (held_at old.ends id.slot) (λ was. IsSomeAnd (left_by (lodger_time_wait g) (lodger_until g) old.span) (λ kept. (slot : ℕ) × (number : ℕ) × (held_at old.records slot ≡ None) × Changes old.records new.records slot (Some (record { key = was.key; number = number; value = new_guest kept None })) × (new.answering ≡ after_adding old.answering slot))))
    pub is_gone : answer ≡ gone → slot_of old.ends id ≡ None
    pub active : answer ≡ not_time_wait → IsSomeAnd (end_at old.ends id.slot) (λ g. left_by (lodger_time_wait g) (lodger_until g) old.span ≡ None)
    pub is_taken : answer ≡ taken → IsSomeAnd (held_at old.ends id.slot) (λ was. (slot : ℕ) × HasKey cmp old.records was.key slot)
    pub else_memory : answer ≢ done → answer ≢ gone → answer ≢ not_time_wait → answer ≢ taken → answer ≡ no_memory
    pub waiting : new.waiting ≡ old.waiting
    pub others : Stands old new
    pub next : new.ends.next ≡ old.ends.next
    pub ends_rest : answer ≢ done → new.ends ≡ old.ends
    pub listeners_rest : answer ≢ done → new.listeners ≡ old.listeners
    pub records_rest : answer ≢ done → (slot : ℕ) → held_at new.records slot ≡ held_at old.records slot
    pub answering_rest : answer ≢ done → new.answering ≡ old.answering
    pub stays : answer ≢ done → after ≡ None

-- ---- ARRIVALS
abbrev pub late_number : Option Arrival → ℕ
late_number None = withheld
late_number (Some arrival) = arrival_number arrival

-- what is answered and reported of what became of a segment
abbrev pub number_told : Arrived (Taken reports.Taken) → ℕ
number_told (came.Taken slot found) = arrival_told found
number_told (came.Late slot answer) = late_number answer
number_told (came.Listening slot) = done
number_told (came.Full slot) = done
number_told came.Stray = done
number_told came.Short = done

abbrev pub report_told : Arrived (Taken reports.Taken) → CArriveReport
report_told (came.Taken slot found) = taken_report found
report_told (came.Late slot answer) = no_arrive_report
report_told (came.Listening slot) = no_arrive_report
report_told (came.Full slot) = no_arrive_report
report_told came.Stray = no_arrive_report
report_told came.Short = no_arrive_report

abbrev pub at_place : CHostId → ℕ → CHostArrived
at_place id place = record { id = id; place = place }

-- whose it is: what asks a listener for nothing is a stray
abbrev pub place_told : Hosted → Bool → Arrived (Taken reports.Taken) → CHostArrived
place_told h asking (came.Taken slot found) = at_place (id_told (id_at h.ends slot)) 1
place_told h asking (came.Late slot answer) = at_place no_id 2
place_told h asking (came.Listening slot) = if asking then at_place (id_told (id_at h.listeners slot)) 3 else at_place no_id 5
place_told h asking (came.Full slot) = if asking then at_place (id_told (id_at h.listeners slot)) 4 else at_place no_id 5
place_told h asking came.Stray = at_place no_id 5
place_told h asking came.Short = at_place no_id 0

module _ (cmp : Pair → Pair → Ordering) (socket_cmp : Socket → Socket → Ordering) where
  -- of a segment that a device has vouched for, or not: then it is summed
  pub record Arrives (old new : Hosted) (now : ℕ) (src dst bytes : List ℕ) (vouched : Bool) (answer : ℕ) (place : CHostArrived) (report : CArriveReport) : Type 0 where
    pub found : Arrived (Taken reports.Taken)
    pub answered : answer ≡ number_told found
    pub placed : place ≡ place_told new (asks bytes) found
    pub reported : report ≡ report_told found
    pub taken : (slot : ℕ) → IsFor cmp old.ends src dst bytes slot → IsSomeAnd (value_at old.ends slot) (λ guest. found ≡ came.Taken slot (lodger_answer guest.end src dst bytes vouched))
    pub state : (slot : ℕ) → IsFor cmp old.ends src dst bytes slot → IsSomeAnd (value_at old.ends slot) (λ guest. new.ends ≡ with_value old.ends slot (after_call guest (of_lodger.arrived guest.end now src dst bytes vouched)))
    pub turn : (slot : ℕ) → IsFor cmp old.ends src dst bytes slot → new.waiting ≡ after_adding old.waiting slot
    pub announces : (slot : ℕ) → IsFor cmp old.ends src dst bytes slot → IsSomeAnd (value_at old.ends slot) (λ guest. new.listeners ≡ listeners_after old.listeners (of_lodger.established guest.end) (of_lodger.established (of_lodger.arrived guest.end now src dst bytes vouched)) guest.origin (id_at old.ends slot))
    pub records_rest : (slot : ℕ) → IsFor cmp old.ends src dst bytes slot → (new.records ≡ old.records) × (new.answering ≡ old.answering)
    pub others : (slot : ℕ) → (IsFor cmp old.ends src dst bytes slot → ⊥) → held_at new.ends slot ≡ held_at old.ends slot
    pub late : (slot : ℕ) → IsForNone cmp old.ends src dst bytes → IsFor cmp old.records src dst bytes slot → IsSomeAnd (value_at old.records slot) (λ guest. found ≡ came.Late slot (answer_of_record guest.end src dst bytes))
    pub record_state : (slot : ℕ) → IsForNone cmp old.ends src dst bytes → IsFor cmp old.records src dst bytes slot → IsSomeAnd (value_at old.records slot) (λ guest. new.records ≡ with_value old.records slot (after_call guest (record_after guest.end now src dst bytes)))
    pub record_turn : (slot : ℕ) → IsForNone cmp old.ends src dst bytes → IsFor cmp old.records src dst bytes slot → new.answering ≡ after_adding old.answering slot
    pub ends_rest : IsForNone cmp old.ends src dst bytes → EndsRest old new
    pub other_records : (slot : ℕ) → (IsFor cmp old.records src dst bytes slot → ⊥) → held_at new.records slot ≡ held_at old.records slot
    pub listeners : IsForNone cmp old.ends src dst bytes → new.listeners ≡ old.listeners
    pub other_listeners : (slot : ℕ) → (IsOpenedBy cmp old src dst bytes slot → ⊥) → held_at new.listeners slot ≡ held_at old.listeners slot
    pub stands : Stands old new
    pub none : IsForNone cmp old.ends src dst bytes → IsForNone cmp old.records src dst bytes → new ≡ old
    pub listening : (slot : ℕ) → IsForNone cmp old.ends src dst bytes → IsForNone cmp old.records src dst bytes → IsHeard socket_cmp old.listeners src dst bytes slot → IsSomeAnd (value_at old.listeners slot) (λ door. found ≡ (if is_full door then came.Full slot else came.Listening slot))
    pub stray : IsForNone cmp old.ends src dst bytes → IsForNone cmp old.records src dst bytes → IsUnheard socket_cmp old.listeners src dst bytes → found ≡ came.Stray
    pub short : pair_of src dst bytes ≡ None → found ≡ came.Short

  -- ---- STRAYS, into a buffer that a reset fits
  pub record AnswersStray (old new : Hosted) (now : ℕ) (src dst bytes out after : List ℕ) (answer count : ℕ) : Type 0 where
    pub nobodys : answer ≡ done → IsNobodys cmp socket_cmp old src dst bytes
    pub answered : IsNobodys cmp socket_cmp old src dst bytes → answer ≡ (if is_granted old.strays now then (if is_some (stray_reset src dst bytes) then done else nothing_due) else nothing_due)
    pub written : answer ≡ done → after ≡ with_front (stray_reset src dst bytes) out
    pub length : count ≡ (if answer == done then RESET_LEN else 0)
    pub limited : answer ≡ done → new ≡ record old { strays = after_granted old.strays now }
    pub refused : answer ≢ done → (new ≡ old) × (after ≡ out)

-- ---- TURNS
abbrev pub place_named : Hosted → Place → CHostId
place_named h (places.End slot) = id_told (id_at h.ends slot)
place_named h (places.Record slot) = no_id

abbrev pub place_number : Place → ℕ
place_number (places.End slot) = 1
place_number (places.Record slot) = 2

-- the address of the end or the record in a place
abbrev pub end_address : Option Lodger → List ℕ
end_address None = nowhere
end_address (Some g) = (lodger_end g).config.addr.0

abbrev pub record_address : Option Record → List ℕ
record_address None = nowhere
record_address (Some r) = r.time_wait.addr.0

abbrev pub place_address : Hosted → Place → List ℕ
place_address h (places.End slot) = end_address (end_at h.ends slot)
place_address h (places.Record slot) = record_address (end_at h.records slot)

abbrev pub nothing_sent : CHostId → ℕ → CHostSent
nothing_sent id place = record { id = id; length = 0; position = 0; count = 0; from = record { byte = nowhere }; to = record { byte = nowhere }; place = place }

-- what is answered and reported of a turn
abbrev pub turn_number : Option (Place × Option Sent) → ℕ
turn_number None = nobody
turn_number (Some (place, None)) = nothing_due
turn_number (Some (place, Some sent)) = done

abbrev pub turn_told : Hosted → Option (Place × Option Sent) → CHostSent
turn_told h None = nothing_sent no_id 0
turn_told h (Some (place, None)) = nothing_sent (place_named h place) (place_number place)
turn_told h (Some (place, Some sent)) = record {
  id = place_named h place;
  length = sent.len;
  position = sent.start;
  count = sent.count;
  from = record { byte = place_address h place };
  to = record { byte = sent.to };
  place = place_number place;
}

-- into a buffer that each segment fits
pub record Turns (old new : Hosted) (now window : ℕ) (out after : List ℕ) (answer : ℕ) (told : CHostSent) : Type 0 where
  pub turn : Option (Place × Option Sent)
  pub answered : answer ≡ turn_number turn
  pub reported : told ≡ turn_told new turn
  pub first : IfSome turn (λ turn. ByPlace turn.0 (λ slot. (old.answering ≡ []) × (old.waiting ≡ slot ∷ drop 1 old.waiting)) (λ slot. old.answering ≡ slot ∷ drop 1 old.answering))
  pub sent : IfSome turn (λ turn. ByPlace turn.0 (λ slot. MatchOption (value_at old.ends slot) (turn.1 ≡ None) (λ guest. turn.1 ≡ of_lodger.emission guest.end now window)) (λ slot. MatchOption (value_at old.records slot) (turn.1 ≡ None) (λ guest. turn.1 ≡ of_record.emission guest.end now window)))
  pub written : IfSome turn (λ turn. ByPlace turn.0 (λ slot. MatchOption (value_at old.ends slot) (after ≡ out) (λ guest. after ≡ of_lodger.written guest.end now window out)) (λ slot. MatchOption (value_at old.records slot) (after ≡ out) (λ guest. after ≡ of_record.written guest.end now window out)))
  pub state : IfSome turn (λ turn. ByPlace turn.0 (λ slot. MatchOption (value_at old.ends slot) (new.ends ≡ old.ends) (λ guest. new.ends ≡ with_value old.ends slot (after_call guest (of_lodger.emitted guest.end now window)))) (λ slot. MatchOption (value_at old.records slot) (new.records ≡ old.records) (λ guest. new.records ≡ with_value old.records slot (after_call guest (of_record.emitted guest.end now window)))))
  pub behind : IfSome turn (λ turn. ByPlace turn.0 (λ slot. new.waiting ≡ (if is_some turn.1 then after_adding (drop 1 old.waiting) slot else drop 1 old.waiting)) (λ slot. new.answering ≡ (if is_some turn.1 then after_adding (drop 1 old.answering) slot else drop 1 old.answering)))
  pub listeners : new.listeners ≡ old.listeners
  pub others : IfSome turn (λ turn. ByPlace turn.0 (λ slot. IsElsewhere old new) (λ slot. EndsRest old new × Stands old new))
  pub none : IfNone turn ((old.waiting ≡ []) × (old.answering ≡ []) × (new ≡ old) × (after ≡ out))

-- ---- TIME
abbrev pub timer_named : Option Timer → ℕ
timer_named None = 4
timer_named (Some timer) = timer_number timer

abbrev pub nobody_told : CHostTold
nobody_told = record { id = no_id; place = 0; timer = 4 }

abbrev pub tick_number : Option (Place × Option Timer) → ℕ
tick_number None = nobody
tick_number (Some told) = done

abbrev pub tick_told : Hosted → Option (Place × Option Timer) → CHostTold
tick_told h None = nobody_told
tick_told h (Some told) = record { id = place_named h told.0; place = place_number told.0; timer = timer_named told.1 }

pub record Tells (old new : Hosted) (now answer : ℕ) (reported : CHostTold) : Type 0 where
  pub told : Option (Place × Option Timer)
  pub answered : answer ≡ tick_number told
  pub named : reported ≡ tick_told new told
  pub due : IfSome told (λ told. ByPlace told.0 (λ slot. IsSomeAnd (deadline_at of_lodger old.ends slot) (λ time. (time ≤ min last now) × IsLeast of_lodger old.ends time)) (λ slot. IsSomeAnd (deadline_at of_record old.records slot) (λ time. (time ≤ min last now) × IsLeast of_record old.records time)))
  pub expired : IfSome told (λ told. ByPlace told.0 (λ slot. IsSomeAnd (value_at old.ends slot) (λ guest. told.1 ≡ of_lodger.expiry guest.end now)) (λ slot. told.1 ≡ Some TimeWait))
  pub state : IfSome told (λ told. ByPlace told.0 (λ slot. IsSomeAnd (value_at old.ends slot) (λ guest. new.ends ≡ with_value old.ends slot (woken guest (of_lodger.told guest.end now)))) (λ slot. Changes old.records new.records slot None))
  pub due_no_more : IfSome told (λ told. ByPlace told.0 (λ slot. deadline_at of_lodger new.ends slot ≡ None) (λ slot. deadline_at of_record new.records slot ≡ None))
  pub turn : IfSome told (λ told. ByPlace told.0 (λ slot. new.waiting ≡ after_adding old.waiting slot) (λ slot. new.answering ≡ old.answering))
  pub listeners : new.listeners ≡ old.listeners
  pub others : IfSome told (λ told. ByPlace told.0 (λ slot. IsElsewhere old new) (λ slot. EndsRest old new × Stands old new))
  pub later : IfNone told ((slot : ℕ) → IfSome (deadline_at of_lodger old.ends slot) (λ time. min last now < time))
  pub later_records : IfNone told ((slot : ℕ) → IfSome (deadline_at of_record old.records slot) (λ time. min last now < time))
  pub none : IfNone told (new ≡ old)

-- THE NEXT TIME OF ALL is reported, or that there is none
pub record IsNextTime (h : Hosted) (at : ℕ) : Type 0 where
  pub time : Option ℕ
  pub reported : at ≡ time_number time
  pub next : IfSome time (IsNext of_lodger h)
  pub none : IfNone time (NoneIsNext of_lodger h)
