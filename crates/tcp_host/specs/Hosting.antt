-- MANY ENDS (RFC 9293, 3.3.1): those that are open, each under its pair of sockets, and the listeners, each under its
-- socket (3.10.7.2). That they are in tables, and that the slots whose ends may have something to send wait for a turn,
-- is the project's choice (own).
use Rattle.std.specs.Prelude.{◌≡◌, ℕ, ◌<◌, ◌≤◌, Bool, true, false, ◌||◌, not, ◌&&◌, if◌then◌else◌, List, Option, Some, None, IfSome, length, option_map, is_some, min, ◌⊎◌}
use Rattle.std.specs.Option.{IsSomeAnd}
use Rattle.std.specs.declared.cmp.Ordering.{Ordering}
use Rattle.tcp_driver.specs.Deadlines.{last}
use Rattle.tcp_driver.specs.Driver.{Driving, at}
use Rattle.tcp_driver.specs.Machine.{Machine}
use Rattle.tcp_driver.specs.Times.{expiry}
use Rattle.tcp_table.specs.Deadlines.{Times, due_at}
use Rattle.tcp_table.specs.declared.held.Id.{Id}
use Rattle.tcp_table.specs.Table.{HasKey, LacksKey, Table, held_at, slot_of, value_at, with_value}
use Rattle.tcp_table.specs.Turns.{waits}
use Rattle.tcp_host.specs.Behaviour.{Behaviour, of_driver}
use Rattle.tcp_host.specs.Pair.{acknowledges, pair_of}
use Rattle.tcp_host.specs.Door.{Door, admitted, announced, forgotten, is_full}
use Rattle.tcp_host.specs.Record.{left_by, of_record}
use Rattle.tcp_conn.specs.TimeWait.{TimeWaitRecord}
use Rattle.tcp_host.specs.declared.backlog.NotAdmitted.{NotAdmitted}
use Rattle.tcp_host.specs.declared.backlog.NotAdmitted.TheVariants as admitting
use Rattle.tcp_host.specs.declared.keeping.NotOpened.{NotOpened}
use Rattle.tcp_host.specs.declared.keeping.NotOpened.TheVariants as opening
use Rattle.tcp_host.specs.declared.retiring.NotRetired.{NotRetired}
use Rattle.tcp_host.specs.declared.retiring.NotRetired.TheVariants.{Gone, IsActive, HasRecord, NoMemory}
use Rattle.tcp_congestion.specs.declared.limiter.Limiter.{Limiter}
use Rattle.tcp_host.specs.declared.guest.Guest.{Guest}
use Rattle.tcp_host.specs.declared.record.Record.{Record}
use Rattle.tcp_host.specs.declared.pair.Pair.{Pair}
use Rattle.tcp_host.specs.declared.place.Place.{Place}
use Rattle.tcp_host.specs.declared.place.Place.TheVariants as places
use Rattle.tcp_host.specs.declared.pair.Socket.{Socket}

-- ends of one kind, and the slots of those that wait
pub record Rolled (S : Type 0) : Type 0 where
  pub ends : Table Pair (Guest S)
  pub waiting : List ℕ

pub record Hosting (S L : Type 0) : Type 0 where
  pub ends : Table Pair (Guest S)
  pub waiting : List ℕ
  pub listeners : Table Socket (Door L)
  -- TIME-WAIT records, and the slots of those that may have to answer
  pub records : Table Pair (Guest Record)
  pub answering : List ℕ
  -- when a stray is answered
  pub strays : Limiter
  -- how long TIME-WAIT lasts where the peer's FIN comes again
  pub span : ℕ

-- ---- WHAT STAYS AS IT WAS: what is chosen, and when a stray was answered
pub record Stands {S L : Type 0} (old new : Hosting S L) : Type 0 where
  pub strays : new.strays ≡ old.strays
  pub span : new.span ≡ old.span

-- the ends
pub record EndsRest {S L : Type 0} (old new : Hosting S L) : Type 0 where
  pub ends : new.ends ≡ old.ends
  pub waiting : new.waiting ≡ old.waiting

-- all but the ends and the listeners
pub record RecordsStand {S L : Type 0} (old new : Hosting S L) : Type 0 where
  pub records : new.records ≡ old.records
  pub answering : new.answering ≡ old.answering
  pub strays : new.strays ≡ old.strays
  pub span : new.span ≡ old.span

-- all but the ends
pub record IsElsewhere {S L : Type 0} (old new : Hosting S L) : Type 0 where
  pub listeners : new.listeners ≡ old.listeners
  pub records : new.records ≡ old.records
  pub answering : new.answering ≡ old.answering
  pub strays : new.strays ≡ old.strays
  pub span : new.span ≡ old.span

-- of an end, or of a record
abbrev pub ByPlace : Place → (ℕ → Type 0) → (ℕ → Type 0) → Type 0
ByPlace (places.End slot) ended recorded = ended slot
ByPlace (places.Record slot) ended recorded = recorded slot

module _ {S : Type 0} where
  -- an end that comes was told nothing yet
  abbrev pub new_guest : S → Option Id → Guest S
  new_guest end origin = record { end = end; is_woken = false; origin = origin }

  -- the end in a slot, without what the host keeps of it
  abbrev pub end_at : Table Pair (Guest S) → ℕ → Option S
  end_at ends slot = option_map (λ guest. guest.end) (value_at ends slot)

  -- the listener for which the end in a slot was opened, if one was
  abbrev pub origin_of : Option (Guest S) → Option Id
  origin_of None = None
  origin_of (Some guest) = guest.origin

  abbrev pub origin_at : Table Pair (Guest S) → ℕ → Option Id
  origin_at ends slot = origin_of (value_at ends slot)

  -- AFTER A CALL OF AN END it is this
  abbrev pub after_call : Guest S → S → Guest S
  after_call guest end = record guest { end = end; is_woken = false }

  -- AFTER IT WAS TOLD THE TIME (own): it is woken, until something is called of it
  abbrev pub woken : Guest S → S → Guest S
  woken guest end = record guest { end = end; is_woken = true }

module _ {S : Type 0} (b : Behaviour S) where
  -- whether the handshake of the end in a slot is over, if it has one
  abbrev pub is_open : Option (Guest S) → Bool
  is_open None = false
  is_open (Some guest) = b.established guest.end

  abbrev pub open_at : Table Pair (Guest S) → ℕ → Bool
  open_at ends slot = is_open (value_at ends slot)

  -- what is due of an end has to go out before it is told the time again (own): it was woken, or a burst is on
  abbrev pub is_owed : Guest S → Bool
  is_owed guest = guest.is_woken || b.bursting guest.end

  -- WHEN AN END HAS TO BE TOLD THE TIME (own): when its next call has to come, unless it has to emit before
  abbrev pub due_of : Guest S → Option ℕ
  due_of guest = if is_owed guest then None else b.next_call guest.end

  -- the same of a slot, if it has an end
  abbrev pub deadline_of : Option (Guest S) → Option ℕ
  deadline_of None = None
  deadline_of (Some guest) = due_of guest

  -- the deadline of the end in a slot
  abbrev pub deadline_at : Table Pair (Guest S) → ℕ → Option ℕ
  deadline_at ends slot = deadline_of (value_at ends slot)

  -- NO DEADLINE IS BEFORE this
  abbrev pub IsLeast : Table Pair (Guest S) → ℕ → Type 0
  IsLeast ends time = (slot : ℕ) → IfSome (deadline_at ends slot) (λ t. time ≤ t)

  -- THE FIRST: an end is due at this time, and none before
  pub record IsFirst (ends : Table Pair (Guest S)) (time slot : ℕ) : Type 0 where
    pub due : deadline_at ends slot ≡ Some time
    pub least : IsLeast ends time

  -- whether an end has to emit, if a slot has one
  abbrev pub owes : Option (Guest S) → Bool
  owes None = false
  owes (Some guest) = is_owed guest

  -- EACH END THAT HAS TO EMIT WAITS FOR A TURN (own), since the emissions are to come that have it rest
  abbrev pub EachWaits : Table Pair (Guest S) → List ℕ → Type 0
  EachWaits ends waiting = (slot : ℕ) → owes (value_at ends slot) ≡ true → waits waiting slot ≡ true

  -- the deadlines are those of the ends, in a tree (own), and there is room for the turn of each. No public clause
  -- cites it
  pub record IsTimed (ends : Table Pair (Guest S)) (deadlines : Times) (room : ℕ) : Type 0 where
    pub due : (slot : ℕ) → due_at deadlines slot ≡ deadline_at ends slot
    pub timed : (slot : ℕ) → IfSome (held_at ends slot) (λ held. slot < length deadlines)
    pub roomy : (slot : ℕ) → IfSome (held_at ends slot) (λ held. slot < room)

-- ---- WHO HAS A SEGMENT (RFC 9293, 3.3.1): the end in a slot, by an order of the pairs
module _ {S : Type 0} (cmp : Pair → Pair → Ordering) where
  abbrev pub IsFor : Table Pair (Guest S) → List ℕ → List ℕ → List ℕ → ℕ → Type 0
  IsFor ends src dst bytes slot = IsSomeAnd (pair_of src dst bytes) (λ pair. HasKey cmp ends pair slot)

  -- no end has it: there the state is CLOSED or LISTEN (RFC 9293, 3.10.7.1 and 3.10.7.2)
  abbrev pub IsForNone : Table Pair (Guest S) → List ℕ → List ℕ → List ℕ → Type 0
  IsForNone ends src dst bytes = IfSome (pair_of src dst bytes) (λ pair. LacksKey cmp ends pair)

-- WHO LISTENS where a segment goes to (RFC 9293, 3.10.7.2)
module _ {L : Type 0} (cmp : Socket → Socket → Ordering) where
  abbrev pub IsHeard : Table Socket L → List ℕ → List ℕ → List ℕ → ℕ → Type 0
  IsHeard listeners src dst bytes slot = IsSomeAnd (pair_of src dst bytes) (λ pair. HasKey cmp listeners pair.local slot)

  -- nobody does, and it has ports (RFC 9293, 3.10.7.1)
  abbrev pub IsUnheard : Table Socket L → List ℕ → List ℕ → List ℕ → Type 0
  IsUnheard listeners src dst bytes = IsSomeAnd (pair_of src dst bytes) (λ pair. LacksKey cmp listeners pair.local)

-- ---- A BACKLOG (own): the door of a handle changes, while it is there
module _ {L : Type 0} where
  -- what its user keeps of the listener in a slot
  abbrev pub kept_at : Table Socket (Door L) → ℕ → Option L
  kept_at t slot = option_map (λ door. door.kept) (value_at t slot)

  abbrev pub with_door_by : Table Socket (Door L) → ℕ → (Door L → Door L) → Option (Door L) → Table Socket (Door L)
  with_door_by t slot does None = t
  with_door_by t slot does (Some door) = with_value t slot (does door)

  abbrev pub with_door : Table Socket (Door L) → Id → (Door L → Door L) → Table Socket (Door L)
  with_door t id does = if is_some (slot_of t id) then with_door_by t id.slot does (value_at t id.slot) else t

  -- THE HANDSHAKE OF AN END IS OVER, which a listener has opened: it waits there to be accepted
  abbrev pub announced_at : Table Socket (Door L) → Option Id → Option Id → Table Socket (Door L)
  announced_at t (Some origin) (Some id) = with_door t origin (λ door. announced door id)
  announced_at t origin id = t

  -- once, when it is over
  abbrev pub listeners_after : Table Socket (Door L) → Bool → Bool → Option Id → Option Id → Table Socket (Door L)
  listeners_after t was is origin id = if not was && is then announced_at t origin id else t

  -- AN END GOES, whose handshake wasn't over: its listener may open another
  abbrev pub forgotten_at : Table Socket (Door L) → Bool → Option Id → Table Socket (Door L)
  forgotten_at t was None = t
  forgotten_at t was (Some origin) = if was then t else with_door t origin forgotten

  -- AN END COMES for a listener, whose handshake is over already or isn't
  abbrev pub admitted_at : Table Socket (Door L) → Bool → Id → Id → Table Socket (Door L)
  admitted_at t is origin id = with_door t origin (λ door. if is then announced (admitted door) id else admitted door)

-- ---- NOBODY HAS A SEGMENT, which has ports: no end and no record, where it acknowledges something, since nothing of a listener's is to
-- be acknowledged; and no listener, where it doesn't (RFC 9293, 3.10.7.1, and 3.10.7.2, second)
module _ {S L : Type 0} (cmp : Pair → Pair → Ordering) (socket_cmp : Socket → Socket → Ordering) where
  abbrev pub IsFree : Hosting S L → Pair → Bool → Type 0
  IsFree h pair acknowledging =
      LacksKey cmp h.ends pair × LacksKey cmp h.records pair × (acknowledging ≡ false → LacksKey socket_cmp h.listeners pair.local)

  abbrev pub IsNobodys : Hosting S L → List ℕ → List ℕ → List ℕ → Type 0
  IsNobodys h src dst bytes = IsSomeAnd (pair_of src dst bytes) (λ pair. IsFree h pair (acknowledges bytes))

-- ---- AN ARRIVAL IS ONE'S (RFC 9293, 3.3.1): of the end of its four values, or where there is none of their record; and of the
-- listener that has opened that end, at most
module _ {S L : Type 0} (cmp : Pair → Pair → Ordering) where
  -- it is for an end that the listener in a slot has opened
  abbrev pub IsOpenedBy : Hosting S L → List ℕ → List ℕ → List ℕ → ℕ → Type 0
  IsOpenedBy h src dst bytes slot =
      (end : ℕ) × IsFor cmp h.ends src dst bytes end × IsSomeAnd (origin_at h.ends end) (λ origin. origin.slot ≡ slot)

  pub record IsOnes (old new : Hosting S L) (src dst bytes : List ℕ) : Type 0 where
    pub ends : (slot : ℕ) → (IsFor cmp old.ends src dst bytes slot → ⊥) → held_at new.ends slot ≡ held_at old.ends slot
    pub records : (slot : ℕ) → (IsFor cmp old.records src dst bytes slot → ⊥) → held_at new.records slot ≡ held_at old.records slot
    pub not_both : (slot : ℕ) → IsFor cmp old.ends src dst bytes slot → new.records ≡ old.records
    pub listeners : (slot : ℕ) → (IsOpenedBy old src dst bytes slot → ⊥) → held_at new.listeners slot ≡ held_at old.listeners slot
    pub stands : Stands old new

-- ---- THE NEXT TIME OF ALL is the least deadline, of an end or of a record
module _ {S L : Type 0} (b : Behaviour S) where
  abbrev pub IsOfOne : Hosting S L → ℕ → Type 0
  IsOfOne h time = ((slot : ℕ) × (deadline_at b h.ends slot ≡ Some time)) ⊎ ((slot : ℕ) × (deadline_at of_record h.records slot ≡ Some time))

  abbrev pub IsNext : Hosting S L → ℕ → Type 0
  IsNext h time = IsLeast b h.ends time × IsLeast of_record h.records time × IsOfOne h time

  abbrev pub NoneIsNext : Hosting S L → Type 0
  NoneIsNext h = (slot : ℕ) → (deadline_at b h.ends slot ≡ None) × (deadline_at of_record h.records slot ≡ None)

-- ---- WHY AN END DOESN'T RETIRE
module _ {S L : Type 0} (cmp : Pair → Pair → Ordering) (time_wait : S → Option TimeWaitRecord) (until : S → Option ℕ) where
  abbrev pub IsReason : Hosting S L → Id → NotRetired → Type 0
  IsReason h id Gone = slot_of h.ends id ≡ None
  IsReason h id IsActive = IsSomeAnd (end_at h.ends id.slot) (λ end. left_by (time_wait end) (until end) h.span ≡ None)
  IsReason h id HasRecord = IsSomeAnd (held_at h.ends id.slot) (λ was. (slot : ℕ) × HasKey cmp h.records was.key slot)
  IsReason h id NoMemory = Unit {0}

-- ---- WHY AN END ISN'T OPENED OR ADMITTED: it comes back. Where a record has its pair the connection exists already (RFC 9293, 3.10.1)
module _ {S L : Type 0} (cmp : Pair → Pair → Ordering) where
  abbrev pub HasRecordOf : Hosting S L → Pair → Type 0
  HasRecordOf h pair = (slot : ℕ) × HasKey cmp h.records pair slot

  abbrev pub IsUnopened : Hosting S L → Pair → S → NotOpened S → Type 0
  IsUnopened h pair end (opening.HasRecord back) = (back ≡ end) × HasRecordOf h pair
  IsUnopened h pair end (opening.NoMemory back) = (back ≡ end) × LacksKey cmp h.records pair

  abbrev pub IsRefused : Hosting S L → Id → Pair → S → NotAdmitted S → Type 0
  IsRefused h origin pair end (admitting.Gone back) = (back ≡ end) × (slot_of h.listeners origin ≡ None)
  IsRefused h origin pair end (admitting.Full back) = (back ≡ end) × IsSomeAnd (value_at h.listeners origin.slot) (λ door. is_full door ≡ true)
  IsRefused h origin pair end (admitting.HasRecord back) = (back ≡ end) × HasRecordOf h pair
  IsRefused h origin pair end (admitting.NoMemory back) = (back ≡ end) × LacksKey cmp h.records pair

-- ---- A DRIVER IS TOLD for a timer alone: where the deadline of one has come, a timer of it expires (RFC 6298, 5)
abbrev pub ToldDriversExpire : {S : Type 0} → Machine S → Type 0
ToldDriversExpire {S = S} m =
    (guest : Guest (Driving S)) (now : ℕ)
    → IfSome (due_of (of_driver m) guest) (λ time. time ≤ min last now → is_some (expiry guest.end.times (at guest.end now)) ≡ true)
