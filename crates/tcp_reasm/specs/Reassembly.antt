-- What one end has of its peer's text (RFC 9293, 3.4 and 3.10.7.4): the bytes that came in order and aren't read yet, and a
-- map from place to byte and stamp for those that came out of order (`held`). A place is an offset from RCV.NXT, which is at
-- 0. The map is a list as long as the window, so that there is no place beyond the window.
use Rattle.std.specs.Prelude.{◌≡◌, ◌≤◌, ◌+◌, ℕ, zero, suc, ◌-◌, min, max, ℤ, pos, negsuc, Bool, ◌&&◌, ◌||◌, ◌==◌, nat_lt, nat_le, if◌then◌else◌, List, [], ◌∷◌, ◌++◌, length, take, drop, map, replicate, Option, Some, None}
use Rattle.std.specs.List.{count_by}
use Rattle.tcp_reasm.specs.declared.placed.Placed.{Placed}
use Rattle.tcp_reasm.specs.declared.placed.Placed.TheVariants.{Advanced, Held, NotKept}

-- a byte that came out of order; of two stamps the greater is that of the run that received data later
pub record Cell : Type 0 where
  pub byte : ℕ
  pub stamp : ℕ

pub record Inbox : Type 0 where
  pub capacity : ℕ
  -- the greatest number of runs that are kept out of order
  pub most_runs : ℕ
  pub unread : List ℕ
  -- one place for each byte of the window
  pub held : List (Option Cell)

-- the greatest capacity, in bytes
abbrev pub max_capacity : ℕ
max_capacity = 1048576

-- the receive window (RFC 9293, 3.3.1)
abbrev pub window : Inbox → ℕ
window q = q.capacity - length q.unread

-- how many runs are kept where no number is given, and the greatest number
abbrev pub default_runs : ℕ
default_runs = 16

abbrev pub greatest_runs : ℕ
greatest_runs = 4096

abbrev pub empty_with_runs : ℕ → ℕ → Inbox
empty_with_runs capacity most = record { capacity = capacity; most_runs = most; unread = []; held = replicate capacity None }

abbrev pub empty_inbox : ℕ → Inbox
empty_inbox capacity = empty_with_runs capacity default_runs

-- THE PIECE: what is left of a text at an offset when the bytes before place 0 are cut off. The window's end cuts by itself,
-- since there is no place beyond it.
pub record Piece : Type 0 where
  pub start : ℕ
  pub text : List ℕ

abbrev pub piece : ℤ → List ℕ → Piece
piece (pos start) text = record { start = start; text = text }
piece (negsuc n) text = record { start = 0; text = drop (suc n) text }

-- whether no byte of it is inside the window
abbrev pub is_empty : Piece → List (Option Cell) → Bool
is_empty p held = (length p.text == 0) || nat_le (length held) p.start

-- a byte that is kept already stays
abbrev pub first_byte : Option Cell → ℕ → ℕ
first_byte None byte = byte
first_byte (Some cell) byte = cell.byte

-- the piece laid over what is kept: each of its places takes the stamp
abbrev pub overlay : ℕ → List ℕ → ℕ → List (Option Cell) → List (Option Cell)
overlay start text stamp [] = []
overlay zero [] stamp (place ∷ places) = place ∷ places
overlay zero (byte ∷ text) stamp (place ∷ places) =
    Some (record { byte = first_byte place byte; stamp = stamp }) ∷ overlay zero text stamp places
overlay (suc start) text stamp (place ∷ places) = place ∷ overlay start text stamp places

abbrev pub stamp_at : Option Cell → ℕ
stamp_at None = 0
stamp_at (Some cell) = cell.stamp

abbrev pub greatest_stamp : List (Option Cell) → ℕ
greatest_stamp [] = 0
greatest_stamp (place ∷ places) = max (stamp_at place) (greatest_stamp places)

-- RUNS: the maximal intervals of kept bytes, each with its first place, the place after its last, and its greatest stamp
pub record Run : Type 0 where
  pub from : ℕ
  pub to : ℕ
  pub stamp : ℕ

-- a kept byte before some runs begins a run of its own, or joins the one that begins right after it
abbrev pub with_place : ℕ → ℕ → List Run → List Run
with_place place stamp [] = record { from = place; to = suc place; stamp = stamp } ∷ []
with_place place stamp (run ∷ runs) =
    if run.from == suc place
    then record { from = place; to = run.to; stamp = max stamp run.stamp } ∷ runs
    else record { from = place; to = suc place; stamp = stamp } ∷ run ∷ runs

-- the runs of the places from this one on, from the left
abbrev pub runs_from : ℕ → List (Option Cell) → List Run
runs_from place [] = []
runs_from place (None ∷ places) = runs_from (suc place) places
runs_from place (Some cell ∷ places) = with_place place cell.stamp (runs_from (suc place) places)

abbrev pub runs : List (Option Cell) → List Run
runs held = runs_from 0 held

-- the bytes at the front, up to the first place that is missing
abbrev pub bytes_in_order : List (Option Cell) → List ℕ
bytes_in_order [] = []
bytes_in_order (None ∷ places) = []
bytes_in_order (Some cell ∷ places) = cell.byte ∷ bytes_in_order places

-- how many runs received no data after this one, itself among them
abbrev pub rank_in : List Run → ℕ → ℕ
rank_in others stamp = count_by (λ run. nat_le run.stamp stamp) others

abbrev pub is_within : ℕ → Run → Bool
is_within place run = nat_le run.from place && nat_lt place run.to

-- the greatest stamp of the run that a place is in
abbrev pub stamp_of_run : List Run → ℕ → ℕ
stamp_of_run [] place = 0
stamp_of_run (run ∷ others) place = if is_within place run then run.stamp else stamp_of_run others place

abbrev pub with_ranks_from : List Run → ℕ → List (Option Cell) → List (Option Cell)
with_ranks_from all place [] = []
with_ranks_from all place (None ∷ places) = None ∷ with_ranks_from all (suc place) places
with_ranks_from all place (Some cell ∷ places) =
    Some (record cell { stamp = rank_in all (stamp_of_run all place) }) ∷ with_ranks_from all (suc place) places

-- Only the order of stamps matters: each place takes the rank of its run, the oldest run's being 1.
unfoldable pub with_ranks : List (Option Cell) → List (Option Cell)
with_ranks held = with_ranks_from (runs held) 0 held

-- the overlay goes to the unread bytes as far as it is in order, and the rest moves up
abbrev pub with_overlay : Inbox → List (Option Cell) → Inbox
with_overlay q over = record q {
  unread = q.unread ++ bytes_in_order over;
  held = with_ranks (drop (length (bytes_in_order over)) over);
}

abbrev pub overlay_of : Inbox → Piece → List (Option Cell)
overlay_of q p = overlay p.start p.text (suc (greatest_stamp q.held)) q.held

-- no byte is inside the window, or a piece that isn't in order would make too many runs
abbrev pub is_refused : Inbox → Piece → Bool
is_refused q p = is_empty p q.held || (nat_lt 0 p.start && nat_lt q.most_runs (length (runs (overlay_of q p))))

abbrev pub answer_for : ℕ → Placed
answer_for zero = Held
answer_for (suc n) = Advanced (suc n)

-- the longest text of a segment, in bytes (RFC 9293, 3.1: what an IPv4 packet carries after both headers)
abbrev pub max_text_len : ℕ
max_text_len = 65495

-- PLACING (RFC 9293, 3.10.7.4): a text whose first byte is at this offset from RCV.NXT
unfoldable pub after_place : Inbox → ℤ → List ℕ → Inbox
after_place q offset text = if is_refused q (piece offset text) then q else with_overlay q (overlay_of q (piece offset text))

unfoldable pub place_answer : Inbox → ℤ → List ℕ → Placed
place_answer q offset text =
    if is_refused q (piece offset text) then NotKept else answer_for (length (bytes_in_order (overlay_of q (piece offset text))))

-- the user reads n bytes, and the window grows by as many places
unfoldable pub after_read : Inbox → ℕ → Inbox
after_read q n = record q {
  unread = drop n q.unread;
  held = q.held ++ replicate (min n (length q.unread)) None;
}

abbrev pub without_held : Inbox → Inbox
without_held q = record q { held = replicate (window q) None }

-- BLOCKS (RFC 2018, 4): the runs by stamp, the newest first, at most four of them
abbrev pub insertion_by_stamp : Run → List Run → List Run
insertion_by_stamp run [] = run ∷ []
insertion_by_stamp run (other ∷ others) =
    if nat_lt other.stamp run.stamp then run ∷ other ∷ others else other ∷ insertion_by_stamp run others

unfoldable pub runs_newest_first : List Run → List Run
runs_newest_first [] = []
runs_newest_first (run ∷ others) = insertion_by_stamp run (runs_newest_first others)

abbrev pub max_blocks : ℕ
max_blocks = 4

unfoldable pub blocks : Inbox → List (ℕ × ℕ)
blocks q = map (λ (run : Run). (run.from, run.to)) (take max_blocks (runs_newest_first (runs q.held)))

-- THE INVARIANT: what is unread and the window make up the capacity, no more runs are kept than its number, which is from 1
-- to 4,096, and the byte at place 0 is missing
pub record IsInbox (q : Inbox) : Type 0 where
  pub least : 1 ≤ q.capacity
  pub most : q.capacity ≤ max_capacity
  pub whole : length q.unread + length q.held ≡ q.capacity
  pub least_runs : 1 ≤ q.most_runs
  pub most_of_runs : q.most_runs ≤ greatest_runs
  pub few : length (runs q.held) ≤ q.most_runs
  pub missing : bytes_in_order q.held ≡ []
