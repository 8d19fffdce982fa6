-- WHEN EACH ID IS DUE (own): a list that has the time of each id at its place, if it is due at all. Past the end of the
-- list none is.
use Rattle.std.specs.Prelude.{◌≡◌, ℕ, ◌+◌, ◌*◌, ◌<◌, ◌≤◌, ◌≢◌, List, Option, Some, None, IfSome, length, min, slice_index_or}

abbrev pub Times : Type 0
Times = List (Option ℕ)

-- the time at which an id is due
abbrev pub due_at : Times → ℕ → Option ℕ
due_at times id = slice_index_or times id None

-- THE FIRST: an id is due at this time, and none is due before
pub record IsFirst (times : Times) (time id : ℕ) : Type 0 where
  pub due : due_at times id ≡ Some time
  pub least : (other : ℕ) → IfSome (due_at times other) (λ t. time ≤ t)

-- no id is due
abbrev pub NoneIsDue : Times → Type 0
NoneIsDue times = (id : ℕ) → due_at times id ≡ None

-- ---- A TREE of times: the two below `at` are at twice its place and the one after, and it has the earlier of theirs.
-- Its leaves are the times of the ids, from the place `count` on. No public clause cites what follows
abbrev pub earlier : Option ℕ → Option ℕ → Option ℕ
earlier (Some one) (Some other) = Some (min one other)
earlier (Some one) None = Some one
earlier None other = other

abbrev pub IsEarlier : List (Option ℕ) → ℕ → Type 0
IsEarlier tree at = due_at tree at ≡ earlier (due_at tree (2 * at)) (due_at tree (2 * at + 1))

-- all but this one have the earlier of the two
abbrev pub IsTreeBut : List (Option ℕ) → ℕ → ℕ → Type 0
IsTreeBut tree count but = (at : ℕ) → 1 ≤ at → at < count → at ≢ but → IsEarlier tree at

pub record IsTree (tree : List (Option ℕ)) (count : ℕ) : Type 0 where
  pub size : length tree ≡ 2 * count
  pub earlier : (at : ℕ) → 1 ≤ at → at < count → IsEarlier tree at
