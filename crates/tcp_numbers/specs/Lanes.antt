-- The content of two vectors of lanes of 16 bits, of which the first wraps: the sums of words' high halves with 256 times
-- those of their low halves, and the sums of the low halves alone.
use Rattle.std.specs.Prelude.{ℕ, ◌+◌, ◌*◌, ◌%◌, ◌≤◌, List, [], ◌∷◌}

-- the sum of high halves in a lane: 256 times that of low ones is taken from it
abbrev pub high : ℕ → ℕ → ℕ
high mixed low = (mixed + 65280 * low) % 65536

-- the sum of the words
abbrev pub held : List ℕ → List ℕ → ℕ
held [] lows = 0
held (m ∷ mixed) [] = 0
held (m ∷ mixed) (l ∷ lows) = 256 * high m l + l + held mixed lows

-- no lane's sum of high or of low halves is greater
abbrev pub AtMost : ℕ → List ℕ → List ℕ → Type 0
AtMost n [] lows = Unit {0}
AtMost n (m ∷ mixed) [] = Unit {0}
AtMost n (m ∷ mixed) (l ∷ lows) = (high m l ≤ n) × (l ≤ n) × AtMost n mixed lows
