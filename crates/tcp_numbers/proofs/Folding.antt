-- The ones' complement sum of 16 bits, and what a device makes of a partial one.
use Rattle.std.proofs.Common.{◌≡◌, ℕ, ◌+◌, ◌-◌, ◌%◌, ◌<◌, ◌≤◌, ◌∙◌, arith}
use Rattle.tcp_numbers.specs.Checksum.{completion}
use Rattle.tcp_numbers.specs.Partial.{carried, folded}

carried_modulo : (n : ℕ) → carried n % 65535 ≡ n % 65535
carried_modulo n = omega arith

pub folded_modulo : (n : ℕ) → folded n % 65535 ≡ n % 65535
folded_modulo n = carried_modulo (carried n) ∙ carried_modulo n

pub folded_some : (n : ℕ) → 0 < n → 0 < folded n
folded_some n some = omega arith

pub folded_small : (n : ℕ) → n < 4294967296 → folded n ≤ 65535
folded_small n small = omega arith

complement_is : (x m : ℕ) → 0 < x → x ≤ 65535 → x % 65535 ≡ m % 65535 → 65535 - x ≡ completion m
complement_is x m some small same = omega arith

same_sum : (t p q : ℕ) → q % 65535 ≡ p % 65535 → (t + q) % 65535 ≡ (p + t) % 65535
same_sum t p q same = omega arith

-- what the device adds up, over a field that has the pseudo-header's sum, complements to the field that makes the segment check
pub completed_field : (t p : ℕ) → 0 < folded p → t + folded p < 4294967296 → 65535 - folded (t + folded p) ≡ completion (p + t)
completed_field t p some small =
    complement_is (folded (t + folded p)) (p + t) (folded_some (t + folded p) (omega arith)) (folded_small (t + folded p) small)
    (folded_modulo (t + folded p) ∙ same_sum t p (folded p) (folded_modulo p))
