-- HOW MANY NUMBERS pass a test: those of an interval that may pass 2^32, and those of a test that is met wherever another is.
use Rattle.std.proofs.Common.{◌≡◌, ℕ, zero, suc, ◌+◌, ◌-◌, ◌%◌, ◌^◌, ◌<◌, ◌≤◌, min, Bool, true, false, ◌||◌, nat_lt, if◌then◌else◌, refl, arith, ap}
use Rattle.std.proofs.lemmas.Bool.{ltb-true, ltb-false}
unfoldable use Rattle.tcp_strangers.specs.Counts.{count_where}

by_test : (b : Bool) (P : ℕ → Type 0) → (b ≡ true → P 1) → (b ≡ false → P 0) → P (if b then 1 else 0)
by_test true P holds fails = holds refl
by_test false P holds fails = fails refl

one-of-either : (a b : Bool) → (if a || b then 1 else 0) ≤ (if a then 1 else 0) + (if b then 1 else 0)
one-of-either true true = omega arith
one-of-either true false = omega arith
one-of-either false true = omega arith
one-of-either false false = omega arith

-- of either of two tests
pub count-either : (n : ℕ) (P Q : ℕ → Bool) → count_where n (λ m. P m || Q m) ≤ count_where n P + count_where n Q
unfolding count_where
count-either zero P Q = omega arith
count-either (suc n) P Q = omega (arith, count-either n P Q, one-of-either (P n) (Q n))

one-within : (a b : Bool) → (a ≡ true → b ≡ true) → (if a then 1 else 0) ≤ (if b then 1 else 0)
one-within true true h = omega arith
one-within false true h = omega arith
one-within false false h = omega arith
one-within true false h = absurd (let no : false ≡ true = h refl in cc)

-- of a test that another holds wherever it does
pub count-within : (n : ℕ) (P Q : ℕ → Bool) → ((m : ℕ) → m < n → P m ≡ true → Q m ≡ true) → count_where n P ≤ count_where n Q
unfolding count_where
count-within zero P Q h = omega arith
count-within (suc n) P Q h =
    omega (arith, count-within n P Q (λ m less. h m (omega arith)), one-within (P n) (Q n) (h n (omega arith)))

-- no number
pub count-none : (n : ℕ) → count_where n (λ m. false) ≡ 0
unfolding count_where
count-none zero = refl
count-none (suc n) = omega (arith, count-none n)

-- of two tests that are the same
pub count-same : (n : ℕ) (P Q : ℕ → Bool) → ((m : ℕ) → m < n → P m ≡ Q m) → count_where n P ≡ count_where n Q
unfolding count_where
count-same zero P Q h = refl
count-same (suc n) P Q h =
    let before = count-same n P Q (λ m less. h m (omega arith)) in
    let last = ap {B = ℕ} (λ (b : Bool). if b then 1 else 0) (h n (omega arith)) in
    omega (arith, before, last)

-- all numbers
pub count-all : (n : ℕ) → count_where n (λ m. true) ≡ n
unfolding count_where
count-all zero = refl
count-all (suc n) = omega (arith, count-all n)

-- ---- AHEAD: the numbers that are less than k behind 2^32 - b
abbrev ahead_up_to : ℕ → ℕ → ℕ → ℕ
ahead_up_to b k m = min m (k - b) + min (m - (2 ^ 32 - b)) k

ahead-in : (b k m : ℕ) → b < 2 ^ 32 → m < 2 ^ 32 → k ≤ 2 ^ 32 → (m + b) % 2 ^ 32 < k → ahead_up_to b k m + 1 ≡ ahead_up_to b k (suc m)
ahead-in b k m fits less most near = omega (arith, near)

ahead-out : (b k m : ℕ) → b < 2 ^ 32 → m < 2 ^ 32 → k ≤ 2 ^ 32 → k ≤ (m + b) % 2 ^ 32 → ahead_up_to b k m + 0 ≡ ahead_up_to b k (suc m)
ahead-out b k m fits less most far = omega (arith, far)

ahead-up : (b k n : ℕ) → b < 2 ^ 32 → n ≤ 2 ^ 32 → k ≤ 2 ^ 32 → count_where n (λ m. nat_lt ((m + b) % 2 ^ 32) k) ≡ ahead_up_to b k n
unfolding count_where
ahead-up b k zero fits most wide = omega arith
ahead-up b k (suc n) fits most wide =
    let before = ahead-up b k n fits (omega arith) wide in
    let step = by_test (nat_lt ((n + b) % 2 ^ 32) k) (λ t. ahead_up_to b k n + t ≡ ahead_up_to b k (suc n))
    (λ e. ahead-in b k n fits (omega arith) wide (ltb-true ((n + b) % 2 ^ 32) k e))
    (λ e. ahead-out b k n fits (omega arith) wide (ltb-false ((n + b) % 2 ^ 32) k e)) in
    omega (arith, before, step)

pub count-ahead : (b k : ℕ) → b < 2 ^ 32 → k ≤ 2 ^ 32 → count_where (2 ^ 32) (λ m. nat_lt ((m + b) % 2 ^ 32) k) ≡ k
count-ahead b k fits wide = let all = ahead-up b k (2 ^ 32) fits (omega arith) wide in omega (arith, all, wide, fits)

-- ---- BEHIND: the numbers that are less than k before b, at most
abbrev behind_up_to : ℕ → ℕ → ℕ → ℕ
behind_up_to b k m = (min m (b + 1) - ((b + 1) - k)) + (m - (b + 1 + (2 ^ 32 - k)))

behind-step : (b k m : ℕ) (t : ℕ) → b < 2 ^ 32 → m < 2 ^ 32 → t ≤ 1 → (t ≡ 1 → (b + (2 ^ 32 - m)) % 2 ^ 32 < k)
    → behind_up_to b k m + t ≤ behind_up_to b k (suc m)
behind-step b k m zero fits less most h = omega arith
behind-step b k m (suc t) fits less most h = let one : t ≡ 0 = omega arith in let near : (b + (2 ^ 32 - m)) % 2 ^ 32 < k = h (omega arith) in omega arith

behind-up : (b k n : ℕ) → b < 2 ^ 32 → n ≤ 2 ^ 32 → count_where n (λ m. nat_lt ((b + (2 ^ 32 - m)) % 2 ^ 32) k) ≤ behind_up_to b k n
unfolding count_where
behind-up b k zero fits most = omega arith
behind-up b k (suc n) fits most =
    let before = behind-up b k n fits (omega arith) in
    let step = by_test (nat_lt ((b + (2 ^ 32 - n)) % 2 ^ 32) k) (λ t. behind_up_to b k n + t ≤ behind_up_to b k (suc n))
    (λ e. behind-step b k n 1 fits (omega arith) (omega arith) (λ _. ltb-true ((b + (2 ^ 32 - n)) % 2 ^ 32) k e))
    (λ e. behind-step b k n 0 fits (omega arith) (omega arith) (λ no. absurd (omega (arith, no)))) in
    omega (arith, before, step)

pub count-behind : (b k : ℕ) → b < 2 ^ 32 → count_where (2 ^ 32) (λ m. nat_lt ((b + (2 ^ 32 - m)) % 2 ^ 32) k) ≤ k
count-behind b k fits = let all = behind-up b k (2 ^ 32) fits (omega arith) in omega (arith, all)
