-- Hexadecimal digits in lanes.
use Rattle.std.specs.Prelude.{ℕ, ◌+◌, ◌*◌, ◌%◌, nat_lt, min, if◌then◌else◌, List, [], ◌∷◌, ◌++◌, Result, Ok, Err, bit_or}
use Rattle.hex.specs.declared.error.FromHexError.{FromHexError}

-- a digit's value, and 16 or more for any other byte: both cases of a letter are its distance from `a` and 10
abbrev pub lane_of : ℕ → ℕ
lane_of c = if nat_lt ((c + 208) % 256) 10 then (c + 208) % 256 else min 245 ((bit_or c 32 + 159) % 256) + 10

-- two values of digits as one byte
abbrev pub joined_pairs : List ℕ → List ℕ
joined_pairs [] = []
joined_pairs (a ∷ []) = []
joined_pairs (a ∷ b ∷ values) = ((16 * a + b) % 256) ∷ joined_pairs values

-- the lower case digit of a value below 16
abbrev pub digit_of : ℕ → ℕ
digit_of v = (v + (if nat_lt 9 v then 87 else 48)) % 256

-- what is decoded, with these bytes in front
abbrev pub with_front : List ℕ → Result (List ℕ) FromHexError → Result (List ℕ) FromHexError
with_front bytes (Ok more) = Ok (bytes ++ more)
with_front bytes (Err fault) = Err fault
