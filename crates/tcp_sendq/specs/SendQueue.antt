-- The bytes that one end still keeps for its peer (RFC 9293, 3.3.1): a list of bytes, the oldest first, and for each byte a
-- flag, whether the peer has reported it as received (RFC 2018, 4 and 5). A place is the offset of a byte from the oldest.
use Rattle.std.specs.Prelude.{◌≡◌, ℕ, zero, suc, ◌+◌, ◌-◌, ◌<◌, ◌≤◌, ◌⊎◌, min, Bool, true, false, not, ◌&&◌, ◌||◌, nat_lt, nat_le, if◌then◌else◌, List, [], ◌∷◌, ◌++◌, length, take, drop, replicate, slice_get, slice_index_or, count_by, Option, Some, None}
use Rattle.std.specs.List.{range_with_len}

pub record Queue : Type 0 where
  pub capacity : ℕ
  -- the greatest number of runs of marked bytes
  pub most_runs : ℕ
  -- accepted and not yet released
  pub bytes : List ℕ
  -- for each byte, whether it is marked
  pub marks : List Bool

-- how many runs of marked bytes there can be where no number is given, and the greatest number
abbrev pub default_runs : ℕ
default_runs = 16

abbrev pub greatest_runs : ℕ
greatest_runs = 4096

abbrev pub empty_with_runs : ℕ → ℕ → Queue
empty_with_runs capacity most = record { capacity = capacity; most_runs = most; bytes = []; marks = [] }

abbrev pub empty_queue : ℕ → Queue
empty_queue capacity = empty_with_runs capacity default_runs

abbrev pub room : Queue → ℕ
room q = q.capacity - length q.bytes

-- how many bytes of a text the queue accepts: the longest prefix that fits
abbrev pub count_taken : Queue → List ℕ → ℕ
count_taken q text = min (room q) (length text)

abbrev pub after_offer : Queue → List ℕ → Queue
after_offer q text = record q {
  bytes = q.bytes ++ take (count_taken q text) text;
  marks = q.marks ++ replicate (count_taken q text) false;
}

-- n bytes are acknowledged: they leave the front, with their marks (RFC 9293, 3.10.7.4)
abbrev pub after_release : Queue → ℕ → Queue
after_release q n = record q { bytes = drop n q.bytes; marks = drop n q.marks }

-- ---- marks

-- a byte is at this place, and it is marked
abbrev pub IsMarked : Queue → ℕ → Type 0
IsMarked q place = slice_get q.marks place ≡ Some true

-- a byte is at this place, and it isn't marked
abbrev pub IsUnmarked : Queue → ℕ → Type 0
IsUnmarked q place = slice_get q.marks place ≡ Some false

-- every byte from the first place on and before the second is marked
abbrev pub marks_with : ℕ → ℕ → List Bool → List Bool
marks_with from to marks = take from marks ++ replicate (to - from) true ++ drop to marks

-- How many runs there are, a run being a maximal interval of marked bytes: each has one byte that is marked while the byte
-- before it isn't. The first argument is whether the byte before the list is marked.
abbrev pub count_runs : Bool → List Bool → ℕ
count_runs before [] = 0
count_runs before (marked ∷ marks) = (if marked && not before then 1 else 0) + count_runs marked marks

-- The count of runs without a recursion. Whether the byte at a place is marked:
abbrev pub is_marked : List Bool → ℕ → Bool
is_marked marks place = slice_index_or marks place false

-- whether the byte before it is; the first has none before it;
abbrev pub follows_mark : List Bool → ℕ → Bool
follows_mark marks zero = false
follows_mark marks (suc place) = is_marked marks place

-- whether a maximal interval of marked bytes begins there;
abbrev pub begins_run : List Bool → ℕ → Bool
begins_run marks place = is_marked marks place && not (follows_mark marks place)

-- and at how many of all places one begins.
abbrev pub runs_begun : List Bool → ℕ
runs_begun marks = count_by (begins_run marks) (range_with_len 0 (length marks))

-- how many bytes are marked
abbrev pub count_marked : List Bool → ℕ
count_marked [] = 0
count_marked (marked ∷ marks) = (if marked then 1 else 0) + count_marked marks

-- whether the peer's report can be kept
unfoldable pub can_mark : Queue → ℕ → ℕ → Bool
can_mark q from to = nat_le (count_runs false (marks_with from to q.marks)) q.most_runs

-- the peer reported these bytes as received (RFC 2018, 5); what would make too many runs changes nothing
unfoldable pub after_mark : Queue → ℕ → ℕ → Queue
after_mark q from to = record q { marks = if can_mark q from to then marks_with from to q.marks else q.marks }

-- a retransmission timeout forgets what the peer reported (RFC 2018, 5)
unfoldable pub without_marks : Queue → Queue
without_marks q = record q { marks = replicate (length q.bytes) false }

-- how many flags at the front are this one
abbrev pub count_leading : Bool → List Bool → ℕ
count_leading flag [] = 0
count_leading true (true ∷ marks) = suc (count_leading true marks)
count_leading true (false ∷ marks) = 0
count_leading false (true ∷ marks) = 0
count_leading false (false ∷ marks) = suc (count_leading false marks)

-- the first unmarked byte from at on, if there is one
abbrev pub first_unmarked : Queue → ℕ → ℕ
first_unmarked q at = at + count_leading true (drop at q.marks)

-- that byte, and the end of its run of unmarked bytes
unfoldable pub next_unmarked : Queue → ℕ → Option (ℕ × ℕ)
next_unmarked q at =
    if nat_lt (first_unmarked q at) (length q.marks) then Some (first_unmarked q at, first_unmarked q at + count_leading false (drop (first_unmarked q at) q.marks)) else None

-- next_unmarked as a relation: `run` is the first unmarked byte from `at` on, and the end of its run
pub record IsNextUnmarked (q : Queue) (at : ℕ) (run : ℕ × ℕ) : Type 0 where
  pub from_at : at ≤ run.0
  pub ordered : run.0 < run.1
  pub within : run.1 ≤ length q.bytes
  pub passed_over : (place : ℕ) → at ≤ place → place < run.0 → IsMarked q place
  pub unmarked_run : (place : ℕ) → run.0 ≤ place → place < run.1 → IsUnmarked q place
  -- the run is maximal: the queue ends there, or a marked byte follows
  pub maximal : (run.1 ≡ length q.bytes) ⊎ IsMarked q run.1

-- no unmarked byte is left from `at` on
abbrev pub AllMarkedFrom : Queue → ℕ → Type 0
AllMarkedFrom q at = (place : ℕ) → at ≤ place → place < length q.bytes → IsMarked q place

-- the place after the last marked byte
abbrev pub end_of_marks : List Bool → ℕ
end_of_marks [] = 0
end_of_marks (marked ∷ marks) = if nat_lt 0 (end_of_marks marks) || marked then suc (end_of_marks marks) else 0

unfoldable pub last_mark_end : Queue → Option ℕ
last_mark_end q = if nat_lt 0 (end_of_marks q.marks) then Some (end_of_marks q.marks) else None

-- no byte from this place on is marked
abbrev pub NoneMarkedFrom : Queue → ℕ → Type 0
NoneMarkedFrom q from = (place : ℕ) → from ≤ place → place < length q.bytes → IsUnmarked q place

-- last_mark_end as a relation: the byte before `end` is marked, and none from `end` on is
pub record IsLastMarkEnd (q : Queue) (end : ℕ) : Type 0 where
  pub within : end ≤ length q.bytes
  pub positive : 0 < end
  pub last_marked : IsMarked q (end - 1)
  pub none_beyond : NoneMarkedFrom q end

-- ---- the invariant of a queue

-- the greatest capacity, in bytes
abbrev pub max_capacity : ℕ
max_capacity = 1048576

pub record IsQueue (q : Queue) : Type 0 where
  pub least : 1 ≤ q.capacity
  pub most : q.capacity ≤ max_capacity
  pub within : length q.bytes ≤ q.capacity
  -- one flag for each byte
  pub flags : length q.marks ≡ length q.bytes
  pub least_runs : 1 ≤ q.most_runs
  pub most_of_runs : q.most_runs ≤ greatest_runs
  pub few_runs : count_runs false q.marks ≤ q.most_runs
