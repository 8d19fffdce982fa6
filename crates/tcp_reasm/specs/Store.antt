-- The view of the store (RFC 9293, 3.10.7.4; RFC 2018, 4), its invariant, and what the private steps do.
use Rattle.std.specs.Prelude.{ℕ, zero, suc, min, max, ◌-◌, ◌<◌, ◌≤◌, ◌⊎◌, Bool, List, [], ◌∷◌, ◌++◌, length, map, take, drop, replicate, Option, Some, None, nat_lt, nat_le, ◌&&◌, if◌then◌else◌}
use Rattle.std.specs.List.{AllByRecursion}
use Rattle.tcp_reasm.specs.declared.table.Run.{Run as Entry}
use Rattle.tcp_reasm.specs.Reassembly.{Cell, Inbox, Run, is_within, stamp_of_run, overlay, greatest_stamp, runs, greatest_runs, max_capacity}

-- ---- the view

-- a block of bytes seen from one of its offsets on, over its end
abbrev pub turned : ℕ → List ℕ → List ℕ
turned start bytes = drop start bytes ++ take start bytes

-- the bytes that were written, and zeros after them up to this size
abbrev pub filled : ℕ → List ℕ → List ℕ
filled size bytes = bytes ++ replicate (size - length bytes) 0

-- how many bytes from a start on lie in what was written of a block: all of them once it is full
abbrev pub ready_from : ℕ → ℕ → ℕ → ℕ
ready_from start capacity written = if nat_lt written capacity then written - start else capacity

-- a ring as it is seen: its bytes, and how many of the first of them were written for certain
pub record Turned : Type 0 where
  pub bytes : List ℕ
  pub ready : ℕ

abbrev pub run_of : Entry → Run
run_of entry = record { from = entry.from; to = entry.to; stamp = 0 }

abbrev pub runs_in : List Entry → List Run
runs_in table = map run_of table

-- Runs by the time of their latest data, the newest first: each takes its rank as its stamp, the oldest 1.
abbrev pub ranked : List Run → List Run
ranked [] = []
ranked (run ∷ older) = record run { stamp = suc (length older) } ∷ ranked older

-- the cell at a place, by its stamp and the byte there: none at stamp 0
abbrev pub cell_of : ℕ → ℕ → Option Cell
cell_of zero byte = None
cell_of (suc n) byte = Some (record { byte = byte; stamp = suc n })

-- the places from one on, by their stamps and their bytes
abbrev pub cells : (ℕ → ℕ) → ℕ → List ℕ → List (Option Cell)
cells stamps place [] = []
cells stamps place (byte ∷ bytes) = cell_of (stamps place) byte ∷ cells stamps (suc place) bytes

-- the places of the window, which lie after the unread bytes in the ring
abbrev pub held_of : List ℕ → ℕ → List Entry → List (Option Cell)
held_of ring unread table = cells (stamp_of_run (ranked (runs_in table))) 0 (drop unread ring)

-- the unread bytes are first in the ring, and the window's places after them
abbrev pub inbox_of : ℕ → List ℕ → ℕ → List Entry → Inbox
inbox_of most ring unread table = record {
  capacity = length ring;
  most_runs = most;
  unread = take unread ring;
  held = held_of ring unread table;
}

-- ---- the invariant

-- a run that isn't empty, within the window, and without place 0
abbrev pub IsInside : ℕ → Run → Type 0
IsInside window run = (0 < run.from) × (run.from < run.to) × (run.to ≤ window)

-- two runs that don't touch
abbrev pub Away : Run → Run → Type 0
Away run other = (run.to < other.from) ⊎ (other.to < run.from)

abbrev pub AreAway : List Run → Type 0
AreAway [] = Unit {0}
AreAway (run ∷ others) = AllByRecursion (Away run) others × AreAway others

-- of a block with this room: no more was written than there are bytes, and there is room for all of them
pub record IsRing (room capacity start : ℕ) (written : List ℕ) : Type 0 where
  pub within : length written ≤ capacity
  pub fits : capacity ≤ room
  pub most : capacity ≤ max_capacity
  pub starts : start ≤ capacity

pub record IsKept (most_runs : ℕ) (ring : List ℕ) (unread : ℕ) (table : List Run) : Type 0 where
  pub some : 0 < length ring
  pub most : length ring ≤ max_capacity
  pub fits : unread ≤ length ring
  pub inside : AllByRecursion (IsInside (length ring - unread)) table
  pub away : AreAway table
  pub least_runs : 1 ≤ most_runs
  pub most_of_runs : most_runs ≤ greatest_runs
  pub few : length table ≤ most_runs

-- ---- steps

-- whether a run overlaps a piece or touches it
abbrev pub touches : Run → Run → Bool
touches piece run = nat_le run.from piece.to && nat_le piece.from run.to

-- the runs that a piece leaves as they are
abbrev pub rest_of : Run → List Run → List Run
rest_of piece [] = []
rest_of piece (run ∷ others) = if touches piece run then rest_of piece others else run ∷ rest_of piece others

abbrev pub joined : Run → Run → Run
joined union run = record { from = min union.from run.from; to = max union.to run.to; stamp = union.stamp }

-- a union, with those runs that touch a piece
abbrev pub union_of : Run → Run → List Run → Run
union_of union piece [] = union
union_of union piece (run ∷ others) = union_of (if touches piece run then joined union run else union) piece others

-- a run after this many bytes came in order
abbrev pub moved : ℕ → Run → Run
moved count run = record run { from = run.from - count; to = run.to - count }

-- where the run that a place is in ends, or the place itself where no byte is kept
abbrev pub held_to : List Run → ℕ → ℕ
held_to [] place = place
held_to (run ∷ others) place = if is_within place run then run.to else held_to others place

-- how far no byte of a run is kept from a place on, up to an end
abbrev pub gap_before : Run → ℕ → ℕ → ℕ
gap_before run place end = if nat_lt place run.from then min run.from end else if nat_lt place run.to then place else end

-- how far no byte is kept from a place on, up to an end
abbrev pub gap_to : List Run → ℕ → ℕ → ℕ
gap_to [] place end = end
gap_to (run ∷ others) place end = gap_to others place (gap_before run place end)

-- bytes written over others from a place on
abbrev pub put : ℕ → List ℕ → List ℕ → List ℕ
put start text [] = []
put zero [] (byte ∷ bytes) = byte ∷ bytes
put zero (new ∷ text) (byte ∷ bytes) = new ∷ put zero text bytes
put (suc start) text (byte ∷ bytes) = byte ∷ put start text bytes

-- the new byte where the stamp says that none is kept
abbrev pub fresh_byte : ℕ → ℕ → ℕ → ℕ
fresh_byte zero new old = new
fresh_byte (suc n) new old = old

-- a text laid over bytes, from the offset `start` on. What is kept stays.
abbrev pub laid : (ℕ → ℕ) → ℕ → ℕ → List ℕ → List ℕ → List ℕ
laid stamps place start text [] = []
laid stamps place zero [] (byte ∷ bytes) = byte ∷ bytes
laid stamps place zero (new ∷ text) (byte ∷ bytes) = fresh_byte (stamps place) new byte ∷ laid stamps (suc place) zero text bytes
laid stamps place (suc start) text (byte ∷ bytes) = byte ∷ laid stamps (suc place) start text bytes

-- a piece laid over what is kept, with the stamp above all others
abbrev pub overlay_at : Inbox → ℕ → List ℕ → List (Option Cell)
overlay_at q start text = overlay start text (suc (greatest_stamp q.held)) q.held

-- whether a text that isn't in order makes too many runs
abbrev pub has_too_many : ℕ → ℕ → List (Option Cell) → Bool
has_too_many most start over = nat_lt 0 start && nat_lt most (length (runs over))
