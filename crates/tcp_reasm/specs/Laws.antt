-- Laws of runs, blocks and placing, apart from the recursions that define them (RFC 2018, 3 and 4; RFC 9293, 3.10.7.4).
use Rattle.std.specs.Prelude.{◌≡◌, ℕ, zero, suc, ◌+◌, ◌<◌, ◌≤◌, ◌⊎◌, Bool, true, false, List, [], ◌∷◌, ◌++◌, length, map, slice_get, slice_index_or, Option, Some, None, IsSome}
use Rattle.std.specs.List.{AllByRecursion}
use Rattle.std.specs.List.Sorted.{IsPermutation}
use Rattle.tcp_reasm.specs.Reassembly.{Cell, Inbox, Piece, Run, window, runs, stamp_at, runs_newest_first, with_ranks, blocks}

-- the cell at a place
abbrev pub cell_at : List (Option Cell) → ℕ → Option Cell
cell_at [] place = None
cell_at (cell ∷ places) zero = cell
cell_at (cell ∷ places) (suc place) = cell_at places place

abbrev pub IsHeld : List (Option Cell) → ℕ → Type 0
IsHeld held place = IsSome (cell_at held place)

-- A run is a maximal interval of kept bytes: it isn't empty, each place in it has a byte, and neither the place right before
-- it nor the one right after it has one. Its stamp is the greatest in it.
pub record IsMaximal (held : List (Option Cell)) (run : Run) : Type 0 where
  pub some : run.from < run.to
  pub inside : (place : ℕ) → run.from ≤ place → place < run.to → IsHeld held place
  pub before : (place : ℕ) → suc place ≡ run.from → ¬ IsHeld held place
  pub after : ¬ IsHeld held run.to
  pub stamps : (place : ℕ) → run.from ≤ place → place < run.to → stamp_at (cell_at held place) ≤ run.stamp
  pub newest : (place : ℕ) × (run.from ≤ place) × (place < run.to) × (stamp_at (cell_at held place) ≡ run.stamp)

abbrev pub RunsAreMaximal : Type 0
RunsAreMaximal = (held : List (Option Cell)) → AllByRecursion (IsMaximal held) (runs held)

abbrev pub SomeCovers : List Run → ℕ → Type 0
SomeCovers [] place = ⊥
SomeCovers (run ∷ others) place = ((run.from ≤ place) × (place < run.to)) ⊎ SomeCovers others place

-- each kept byte is in a run
abbrev pub RunsCover : Type 0
RunsCover = (held : List (Option Cell)) (place : ℕ) → IsHeld held place → SomeCovers (runs held) place

-- from the left, and no two touch
abbrev pub StandApart : List Run → Type 0
StandApart [] = Unit {0}
StandApart (run ∷ others) = AllByRecursion (λ later. run.to < later.from) others × StandApart others

abbrev pub RunsStandApart : Type 0
RunsStandApart = (held : List (Option Cell)) → StandApart (runs held)

-- how many kept bytes have none kept right before them, after a place with a byte or without
abbrev pub beginnings : Bool → List (Option Cell) → ℕ
beginnings before [] = 0
beginnings before (None ∷ places) = beginnings false places
beginnings true (Some cell ∷ places) = beginnings true places
beginnings false (Some cell ∷ places) = suc (beginnings true places)

-- there are as many runs as kept bytes with none kept right before them
abbrev pub RunsAreCounted : Type 0
RunsAreCounted = (held : List (Option Cell)) → length (runs held) ≡ beginnings false held

abbrev pub Falls : List Run → Type 0
Falls [] = Unit {0}
Falls (run ∷ others) = AllByRecursion (λ other. other.stamp ≤ run.stamp) others × Falls others

-- newest first: the same runs, with falling stamps
abbrev pub NewestComeFirst : Type 0
NewestComeFirst = (all : List Run) → IsPermutation all (runs_newest_first all) × Falls (runs_newest_first all)

-- Renumbered stamps change no block: only the order of stamps matters.
abbrev pub RanksKeepBlocks : Type 0
RanksKeepBlocks = (q : Inbox) → blocks (record q { held = with_ranks q.held }) ≡ blocks q

-- ---- placing, place by place

-- the byte that is kept
abbrev pub byte_of : Option Cell → Option ℕ
byte_of None = None
byte_of (Some cell) = Some cell.byte

-- the peer's text, from the first unread byte on: the byte at each place, none where it is missing
abbrev pub bytes_by_place : Inbox → List (Option ℕ)
bytes_by_place q = map (λ (byte : ℕ). Some byte) q.unread ++ map byte_of q.held

-- the byte at a place. Places count from the first unread byte here, so that a byte that comes in order keeps its place.
abbrev pub byte_at : Inbox → ℕ → Option ℕ
byte_at q place = slice_index_or (bytes_by_place q) place None

-- a byte that is there stays
abbrev pub KeepsBytes : Inbox → Inbox → Type 0
KeepsBytes old new = (place byte : ℕ) → byte_at old place ≡ Some byte → byte_at new place ≡ Some byte

-- each byte of the piece inside the window is there afterwards, unless another was there before
abbrev pub TakesPiece : Inbox → Inbox → Piece → Type 0
TakesPiece old new p =
    (i byte : ℕ) → slice_get p.text i ≡ Some byte → p.start + i < window old
    → byte_at old (length old.unread + (p.start + i)) ≡ None → byte_at new (length old.unread + (p.start + i)) ≡ Some byte

-- a place that the piece doesn't cover is as it was
abbrev pub LeavesOthers : Inbox → Inbox → Piece → Type 0
LeavesOthers old new p =
    (place : ℕ) → (place < length old.unread + p.start) ⊎ (length old.unread + (p.start + length p.text) ≤ place)
    → byte_at new place ≡ byte_at old place

-- the bytes that came in order go up to the first that is missing
abbrev pub EndsAtMissing : Inbox → Type 0
EndsAtMissing q = byte_at q (length q.unread) ≡ None
