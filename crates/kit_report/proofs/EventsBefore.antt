-- The events of a script that come before one, and that one, in its content as in the script.
use Rattle.std.proofs.Common.{ℕ, zero, suc, ◌+◌, ◌≡◌, ◌<◌, ◌≤◌, List, [], ◌∷◌, map, take, length, slice_get, slice_index_or, Some, None, refl, arith}
use Rattle.std.proofs.lemmas.List.{take-map}
use Rattle.std.proofs.lemmas.Option.{slice_get_past}

pub events_before : {X Y : Type 0} (f : X → Y) (n : ℕ) (xs : List X) → take n (map f xs) ≡ map f (take n xs)
events_before f n xs = take-map f n xs

-- the event with this index in the script
pub event_at : {X Y : Type 0} (f : X → Y) (n : ℕ) (xs : List X) (x : X) → n < length xs → slice_get (map f xs) n ≡ Some (f (slice_index_or xs n x))
event_at f n [] x below = absurd (omega (arith, below))
event_at f zero (y ∷ ys) x below = refl
event_at f (suc n) (y ∷ ys) x below = event_at f n ys x (omega (arith, below))

pub none_past : {X : Type 0} (xs : List X) (n : ℕ) → length xs ≤ n → slice_get xs n ≡ None
none_past xs n past = slice_get_past xs n past
