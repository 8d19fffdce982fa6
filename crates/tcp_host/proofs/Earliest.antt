-- The earlier of two times is one of them.
use Rattle.std.proofs.Common.{◌≡◌, ℕ, ◌≤◌, ◌<◌, ◌⊎◌, inl, inr, Option, Some, None, subst, arith}
use Rattle.std.proofs.lemmas.Bool.{cases_lt}
use Rattle.std.specs.Prelude.{IfSome, min}
use Rattle.tcp_table.specs.Deadlines.{earlier}

pub of_one : (P Q : ℕ → Type 0) (one other : Option ℕ) → IfSome one P → IfSome other Q
    → IfSome (earlier one other) (λ time. P time ⊎ Q time)
of_one P Q None None p q = tt
of_one P Q (Some one) None p q = inl p
of_one P Q None (Some other) p q = inr q
of_one P Q (Some one) (Some other) p q = by (cases_lt other one)
  where
    by : (other < one) ⊎ (one ≤ other) → P (min one other) ⊎ Q (min one other)
    by (inl less) = let e : other ≡ min one other = omega (arith, less) in inr (subst Q e q)
    by (inr more) = let e : one ≡ min one other = omega (arith, more) in inl (subst P e p)
