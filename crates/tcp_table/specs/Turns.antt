-- WHO WAITS FOR A TURN (own): the ids in the order in which they came, each once, and how many ids there is room for.
use Rattle.std.specs.Prelude.{◌≡◌, ℕ, ◌==◌, Bool, false, if◌then◌else◌, List, [], ◌∷◌, ◌++◌, slice_index_or, length, count_by, ◌≤◌}
use Rattle.std.specs.List.{list_any}

pub record Turns : Type 0 where
  pub queue : List ℕ
  pub room : ℕ

-- whether an id waits
abbrev pub waits : List ℕ → ℕ → Bool
waits queue id = list_any (λ other. other == id) queue

-- an id comes: it waits behind all others, unless it waits already
abbrev pub after_adding : List ℕ → ℕ → List ℕ
after_adding queue id = if waits queue id then queue else queue ++ id ∷ []

-- no id waits twice
abbrev pub IsOnce : List ℕ → Type 0
IsOnce [] = Unit {0}
IsOnce (id ∷ queue) = (waits queue id ≡ false) × IsOnce queue

-- what is noted of each id is whether it waits. No public clause cites what follows
abbrev pub AreNoted : List Bool → List ℕ → Type 0
AreNoted notes queue = (id : ℕ) → slice_index_or notes id false ≡ waits queue id

-- how many are noted as waiting
abbrev pub noted_count : List Bool → ℕ
noted_count notes = count_by (λ noted. noted) notes

-- the queue and its notes, and there is room for all
pub record IsQueue (notes : List Bool) (queue : List ℕ) (capacity : ℕ) : Type 0 where
  pub noted : AreNoted notes queue
  pub once : IsOnce queue
  pub counted : noted_count notes ≡ length queue
  pub fits : length notes ≤ capacity
