-- How many of the numbers below a limit pass a test.
use Rattle.std.specs.Prelude.{ℕ, zero, suc, ◌+◌, Bool, if◌then◌else◌}

unfoldable pub count_where : ℕ → (ℕ → Bool) → ℕ
count_where zero test = 0
count_where (suc n) test = count_where n test + (if test n then 1 else 0)
