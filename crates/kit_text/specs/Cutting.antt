-- Where a byte comes first.
use Rattle.std.specs.Prelude.{◌≡◌, ℕ, zero, suc, ◌<◌, ◌==◌, Bool, false, ◌||◌, List, slice_index, Option, Some, None}

-- none of the first n bytes is this one
abbrev pub IsNowhere : ℕ → List ℕ → ℕ → Type 0
IsNowhere at bytes n = (k : ℕ) → k < n → (slice_index bytes k == at) ≡ false

-- the first such byte is at i, before the end
pub record IsFirstAt (at : ℕ) (bytes : List ℕ) (end i : ℕ) : Type 0 where
  pub inside : i < end
  pub before : IsNowhere at bytes i
  pub here : slice_index bytes i ≡ at

-- THE PLACE of the first such byte before the end, if there is one
abbrev pub FindsWithin : ℕ → List ℕ → ℕ → Option ℕ → Type 0
FindsWithin at bytes end None = IsNowhere at bytes end
FindsWithin at bytes end (Some i) = IsFirstAt at bytes end i

-- whether a test passes at one of the first n places
abbrev pub any_below : (ℕ → Bool) → ℕ → Bool
any_below test zero = false
any_below test (suc n) = any_below test n || test n
