-- The marked bytes of a queue (RFC 2018, 5) as a table of intervals: its view, and what the private calls on the table do.
use Rattle.std.specs.Prelude.{ℕ, suc, ◌+◌, ◌-◌, ◌<◌, ◌≤◌, min, max, Bool, false, ◌&&◌, ◌||◌, nat_lt, nat_le, if◌then◌else◌, List, [], ◌∷◌, map, length, slice_get, Option, Some, None}
use Rattle.std.specs.Option.{option_map}
use Rattle.std.specs.List.{range_with_len, AllByRecursion}
use Rattle.tcp_sendq.specs.SendQueue.{Queue, IsQueue}
use Rattle.tcp_sendq.specs.declared.marks.Interval.{Interval}

abbrev pub interval : ℕ → ℕ → Interval
interval start end = record { start = start; end = end }

abbrev pub has_place : Interval → ℕ → Bool
has_place one place = nat_le one.start place && nat_lt place one.end

-- whether some interval has the offset
abbrev pub covers : List Interval → ℕ → Bool
covers [] place = false
covers (one ∷ rest) place = has_place one place || covers rest place

-- the marks that a table gives the first `count` bytes
abbrev pub marks_of : List Interval → ℕ → List Bool
marks_of table count = map (covers table) (range_with_len 0 count)

-- The intervals are in order between two offsets, and between any two of them is an offset that neither has.
abbrev pub IsTableFrom : ℕ → ℕ → List Interval → Type 0
IsTableFrom low high [] = Unit {0}
IsTableFrom low high (one ∷ rest) = (low ≤ one.start) × (one.start < one.end) × (one.end ≤ high) × IsTableFrom (one.end + 1) high rest

-- a table of marks of the first `count` bytes
abbrev pub IsTable : ℕ → List Interval → Type 0
IsTable count table = IsTableFrom 0 count table

-- none of the intervals is empty, and each begins after the end of those before it
abbrev pub AreInOrder : List Interval → Type 0
AreInOrder [] = Unit {0}
AreInOrder (one ∷ rest) = (one.start < one.end) × AllByRecursion (λ later. one.end < later.start) rest × AreInOrder rest

-- ---- the table after the calls

-- without the first n bytes: what follows them moves down
abbrev pub moved_down : ℕ → List Interval → List Interval
moved_down n [] = []
moved_down n (one ∷ rest) =
    if nat_lt 0 (one.end - n) then interval (one.start - n) (one.end - n) ∷ moved_down n rest else moved_down n rest

-- both intervals as one
abbrev pub union : Interval → Interval → Interval
union one other = interval (min one.start other.start) (max one.end other.end)

-- the table with another interval in front, which is joined with those at the front that it overlaps or touches
abbrev pub joined_front : Interval → List Interval → List Interval
joined_front one [] = one ∷ []
joined_front one (next ∷ rest) =
    if nat_lt one.end next.start then one ∷ next ∷ rest else joined_front (union one next) rest

-- the table with another interval after those that end before it begins
abbrev pub joined : Interval → List Interval → List Interval
joined one [] = one ∷ []
joined one (next ∷ rest) =
    if nat_lt next.end one.start then next ∷ joined one rest else joined_front one (next ∷ rest)

-- how many intervals at the front end before the offset
abbrev pub count_before : ℕ → List Interval → ℕ
count_before place [] = 0
count_before place (one ∷ rest) = if nat_lt one.end place then suc (count_before place rest) else 0

-- how many at the front begin at the offset or before it
abbrev pub count_to : ℕ → List Interval → ℕ
count_to place [] = 0
count_to place (one ∷ rest) = if nat_le one.start place then suc (count_to place rest) else 0

-- how many at the front end at the offset or before it
abbrev pub count_ended : ℕ → List Interval → ℕ
count_ended place [] = 0
count_ended place (one ∷ rest) = if nat_le one.end place then suc (count_ended place rest) else 0

-- ---- what the calls return

-- the first offset from this one on that no interval has
abbrev pub first_uncovered : ℕ → List Interval → ℕ
first_uncovered at [] = at
first_uncovered at (one ∷ rest) = if has_place one at then one.end else first_uncovered at rest

-- the first start of an interval after the offset
abbrev pub next_start : ℕ → List Interval → Option ℕ
next_start from [] = None
next_start from (one ∷ rest) = if nat_lt from one.start then Some one.start else next_start from rest

-- the end of the last interval
abbrev pub last_end : List Interval → Option ℕ
last_end table = option_map (λ one. one.end) (slice_get table (length table - 1))

-- how many offsets they have, none of them twice
abbrev pub total : List Interval → ℕ
total [] = 0
total (one ∷ rest) = (one.end - one.start) + total rest

-- ---- places that count from a base, so that a release moves none

-- intervals of such places, as offsets from the base
abbrev pub lowered : ℕ → List Interval → List Interval
lowered base table = map (λ one. interval (one.start - base) (one.end - base)) table

-- the greatest base
abbrev pub greatest_base : ℕ
greatest_base = 2147483648

-- each of them ends behind the base
pub record IsBased (base : ℕ) (table : List Interval) : Type 0 where
  pub behind : AllByRecursion (λ one. base < one.end) table
  pub most : base ≤ greatest_base

-- ---- the queue as it is kept

-- a queue whose marks are given by a table
abbrev pub queue_of : ℕ → ℕ → List ℕ → List Interval → Queue
queue_of most capacity bytes table = record { capacity = capacity; most_runs = most; bytes = bytes; marks = marks_of table (length bytes) }

pub record IsKept (most capacity : ℕ) (bytes : List ℕ) (table : List Interval) : Type 0 where
  pub sound : IsQueue (queue_of most capacity bytes table)
  pub in_order : IsTable (length bytes) table
