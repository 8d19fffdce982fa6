-- A LISTENER AND ITS BACKLOG (RFC 4987, 3.2): what its user keeps of it, and the ends that it has opened and
-- that its user hasn't accepted. That there are so many at most is the project's choice (own).
use Rattle.std.specs.Prelude.{ℕ, ◌+◌, ◌-◌, nat_le, Bool, ◌==◌, if◌then◌else◌, List, [], ◌∷◌, ◌++◌, length}
use Rattle.tcp_table.specs.declared.held.Id.{Id}

pub record Door (L : Type 0) : Type 0 where
  pub kept : L
  -- the most ends
  pub limit : ℕ
  -- how many are in their handshake
  pub half_open : ℕ
  -- the others, in the order in which their handshake was over
  pub ready : List Id

module _ {L : Type 0} where
  abbrev pub new_door : L → ℕ → Door L
  new_door kept limit = record { kept = kept; limit = limit; half_open = 0; ready = [] }

  abbrev pub is_full : Door L → Bool
  is_full d = nat_le d.limit (d.half_open + length d.ready)

  -- an end is opened, its handshake is over, or it is gone before
  abbrev pub admitted : Door L → Door L
  admitted d = record d { half_open = d.half_open + 1 }

  abbrev pub announced : Door L → Id → Door L
  announced d id = record d { half_open = d.half_open - 1; ready = if d.half_open == 0 then d.ready else d.ready ++ id ∷ [] }

  abbrev pub forgotten : Door L → Door L
  forgotten d = record d { half_open = d.half_open - 1 }
