-- The cubic root in whole numbers.
use Rattle.std.specs.Prelude.{ℕ, zero, suc, ◌*◌, nat_le, if◌then◌else◌}

abbrev pub cube : ℕ → ℕ
cube n = n * n * n

-- the greatest number up to a bound whose cube is at most `value`
unfoldable pub root_below : ℕ → ℕ → ℕ
root_below zero value = 0
root_below (suc n) value = if nat_le (cube (suc n)) value then suc n else root_below n value

-- THE CUBIC ROOT: the greatest number whose cube is at most `value`
abbrev pub cubic_root : ℕ → ℕ
cubic_root value = root_below value value
