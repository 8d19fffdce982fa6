-- Cubic roots, and products that are divided.
use Rattle.std.proofs.Common.{◌≡◌, ℕ, zero, suc, ◌+◌, ◌*◌, ◌/◌, ◌%◌, ◌<◌, ◌≤◌, Bool, true, false, arith, refl, ap, sym}
use Rattle.std.specs.Prelude.{min, nat_le, if◌then◌else◌}
use Rattle.std.proofs.Math.Nat.{div-le_of_le-mul, mul-add-div_right}
use Rattle.std.proofs.lemmas.Nat.{div-add-mod', mul-le}
use Rattle.std.proofs.lemmas.Bool.Decides.{nat_tests}
use Rattle.tcp_congestion.specs.Root.{cube, root_below, cubic_root}

pub cube_le : (a b : ℕ) → a ≤ b → cube a ≤ cube b
cube_le a b h = mul-le (a * a) a (b * b) b (mul-le a a b b h h) h

apart : (x y v : ℕ) → x ≤ y → y ≤ v → v < x → ⊥
apart x y v h g f = omega (arith, h, g, f)

-- a number whose cube is at most what is below the next one's cube is no greater
beyond-by : (value k n : ℕ) (b : Bool) → nat_le (suc k) n ≡ b → cube n ≤ value → value < cube (suc k) → n ≤ k
beyond-by value k n true e h g = absurd (apart (cube (suc k)) (cube n) value (cube_le (suc k) n (grind (arith, nat_tests, e))) h g)
beyond-by value k n false e h g = grind (arith, nat_tests, e)

pub beyond : (value k n : ℕ) → cube n ≤ value → value < cube (suc k) → n ≤ k
beyond value k n = beyond-by value k n (nat_le (suc k) n) refl

stops : (value k n : ℕ) (fits : Bool) → nat_le (cube (suc n)) value ≡ fits → cube k ≤ value → value < cube (suc k) → k ≤ suc n
    → (k ≤ n → root_below n value ≡ k) → (if fits then suc n else root_below n value) ≡ k
stops value k n true e least most up goes =
    let fits : cube (suc n) ≤ value = grind (arith, nat_tests, e) in
    let more : suc n ≤ k = beyond value k (suc n) fits most in
    omega (arith, more, up)
stops value k n false e least most up goes =
    let past : value < cube (suc n) = grind (arith, nat_tests, e) in
    goes (beyond value n k least past)

root_is_below : (value k n : ℕ) → cube k ≤ value → value < cube (suc k) → k ≤ n → root_below n value ≡ k
unfolding root_below
root_is_below value k zero least most up = let e : k ≡ 0 = omega (arith, up) in sym e
root_is_below value k (suc n) least most up =
    stops value k n (nat_le (cube (suc n)) value) refl least most up (root_is_below value k n least most)

cube_least : (k : ℕ) → k ≤ cube k
cube_least zero = omega arith
cube_least (suc k) =
    let a : 1 * suc k ≤ suc k * suc k * suc k = mul-le 1 (suc k) (suc k * suc k) (suc k) (mul-le 1 1 (suc k) (suc k) (omega arith) (omega arith)) (omega arith) in
    omega (arith, a)

-- THE ROOT is the one number whose cube is at most the value, and the next one's isn't
pub root_is : (value k : ℕ) → cube k ≤ value → value < cube (suc k) → cubic_root value ≡ k
root_is value k least most = root_is_below value k value least most (let c = cube_least k in omega (arith, c, least))

-- two neighbours that lie around the value
pub root_between : (value low high : ℕ) → cube low ≤ value → value < cube high → low < high → high ≤ low + 1 → low ≡ cubic_root value
root_between value low high least most order near =
    let e : high ≡ suc low = omega (arith, order, near) in
    let up : value < cube (suc low) = rw (sym e) most in
    sym (root_is value low least up)

-- value = q * by + r, so that the product with `times` is q * times * by + r * times
pub scaled_is : (value times by : ℕ) → 0 < by → value * times / by ≡ value / by * times + value % by * times / by
scaled_is value times by some =
    let parts : value / by * by + value % by ≡ value = div-add-mod' value by in
    let whole : value / by * times * by + value % by * times ≡ value * times =
    let e : (value / by * by + value % by) * times ≡ value * times = ap (λ x. x * times) parts in
    let d : value / by * times * by + value % by * times ≡ (value / by * by + value % by) * times = omega arith in
    cc in
    let one : (value / by * times * by + value % by * times) / by ≡ value / by * times + value % by * times / by =
    mul-add-div_right some (value / by * times) (value % by * times) in
    let two : value * times / by ≡ (value / by * times * by + value % by * times) / by = ap (λ x. x / by) (sym whole) in
    cc

-- so many milliseconds at most are between any two windows
pub k_most : (smss apart value root : ℕ) → value ≡ min apart (2147483648 * smss) * 2500000000 / smss → cube root ≤ value → root ≤ 2000000
k_most smss apart value root e least =
    let most : min apart (2147483648 * smss) * 2500000000 / smss ≤ 5368709120000000000 =
    div-le_of_le-mul smss (omega arith) in
    beyond value 2000000 root least (omega (arith, e, most))
