-- Laws of `near` and `offset`, apart from how they are computed (RFC 9293, 3.4).
use Rattle.std.specs.Prelude.{◌≡◌, ℕ, ◌%◌, ◌^◌, ◌<◌, ℤ, pos, ◌+ℤ◌, ◌-ℤ◌, ◌*ℤ◌, ◌≤ℤ◌, ◌<ℤ◌}
use Rattle.tcp_numbers.specs.Position.{near, offset}

-- 32 bits keep w of the whole number z, which is w with some times 2^32 added or taken off
pub record IsCongruent (z : ℤ) (w : ℕ) : Type 0 where
  pub times : ℤ
  pub equal : z ≡ pos w +ℤ times *ℤ pos (2 ^ 32)

-- z is a whole number that 32 bits keep as w, and it lies from n - 2^31 up to n + 2^31, the end left out
pub record IsNearest (n w : ℕ) (z : ℤ) : Type 0 where
  pub congruent : IsCongruent z w
  pub from : (pos n -ℤ pos (2 ^ 31)) ≤ℤ z
  pub below : z <ℤ (pos n +ℤ pos (2 ^ 31))

-- `near n w` is such a number, and there is no other
abbrev pub NearIsNearest : Type 0
NearIsNearest = (n w : ℕ) → w < 2 ^ 32 → IsNearest n w (near n w) × ((z : ℤ) → IsNearest n w z → z ≡ near n w)

-- how far ahead of a position a number lies depends on what 32 bits keep of the position alone
abbrev pub OffsetIsModular : Type 0
OffsetIsModular = (n m w : ℕ) → n % 2 ^ 32 ≡ m % 2 ^ 32 → offset n w ≡ offset m w
