-- A number of 64 bits has nothing left once it is shifted by 64 places or more.
use Rattle.std.proofs.Common.{◌≡◌, ℕ, ◌/◌, ◌^◌, ◌<◌, ◌≤◌, arith}
use Rattle.std.proofs.Math.Nat.{div-eq_of_lt}
use Rattle.std.proofs.Math.Pow.{pow_mono}

pub shifted_out : (n k : ℕ) → n < 2 ^ 64 → 64 ≤ k → n / 2 ^ k ≡ 0
shifted_out n k fits far =
    let more : 2 ^ 64 ≤ 2 ^ k = pow_mono far in
    div-eq_of_lt (omega (arith, fits, more))
