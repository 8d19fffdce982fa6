-- Portions and intervals keep to their rate.
use Rattle.std.proofs.Common.{◌≡◌, ℕ, suc, ◌+◌, ◌*◌, ◌/◌, ◌^◌, ◌<◌, ◌≤◌, inl, inr, Bool, true, false, arith, ap, ◌∙◌}
use Rattle.std.specs.Prelude.{max, min, ◌⊎◌, if◌then◌else◌}
use Rattle.std.proofs.lemmas.Bool.{cases_lt}
use Rattle.std.proofs.Math.Logic.{⊎_elim}
use Rattle.std.proofs.Math.Nat.{div-mul-le_self, lt-div-mul-add, le_of_mul-le-mul_right, lt_of_mul-lt-mul_right, mul-le-mul_left, mul-le-mul_right}
use Rattle.std.proofs.lemmas.Grind.{div_ceil_times}
use Rattle.std.proofs.lemmas.Nat.{mul-le}
use Rattle.tcp_pacing.specs.declared.pace.Pace.{Pace}
use Rattle.tcp_pacing.specs.Pace.{burst, cwnd_of, gain, interval, period, portion, rate_bytes, rate_time, rounded_up, smss_of, srtt_of}
use Rattle.tcp_pacing.specs.Spread.{AWindowGoesInARoundTrip}

-- the greater is one of both
either-of : (x y : ℕ) → (max x y ≡ x) ⊎ (max x y ≡ y)
either-of x y = ⊎_elim (λ less. inr (omega (arith, less))) (λ more. inl (omega (arith, more))) (cases_lt x y)

most-by : (s m u q t n : ℕ) → (m ≡ u) ⊎ (m ≡ q) → q * (t * s) ≤ n → s * m * t ≤ max (s * u * t) n
most-by s m u q t n (inl e) h = let p : s * m * t ≡ s * u * t = ap (λ x. s * x * t) e in omega (arith, p)
most-by s m u q t n (inr e) h = let p : s * m * t ≡ q * (t * s) = ap (λ x. s * x * t) e ∙ omega arith in omega (arith, p, h)

-- a burst is two segments, or no more than the window has
held-by : (s c u w : ℕ) → (u ≡ 2) ⊎ (u ≡ w) → w * s ≤ c → s * u ≤ max (2 * s) c
held-by s c u w (inl e) h = let p : s * u ≡ 2 * s = ap (λ x. s * x) e ∙ omega arith in omega (arith, p)
held-by s c u w (inr e) h = let p : s * u ≡ w * s = ap (λ x. s * x) e ∙ omega arith in omega (arith, p, h)

least-by : (s m q t n : ℕ) → 2 ≤ m → q ≤ m → n < q * (t * s) + t * s → n < 2 * (s * m * t)
least-by s m q t n two more h =
    let a : suc q * (t * s) ≤ (2 * m) * (t * s) = mul-le-mul_right (t * s) (omega (arith, two, more)) in
    let b : suc q * (t * s) ≡ q * (t * s) + t * s = omega arith in
    let d : (2 * m) * (t * s) ≡ 2 * (s * m * t) = omega arith in
    omega (arith, a, b, d, h)

-- a burst, a portion and its interval at a rate of g * c bytes in 4 * r
pub record Keeps (s g c r burst portion interval : ℕ) : Type 0 where
  pub segment : 1 ≤ s
  pub short : s ≤ 65535
  pub window : s ≤ c
  pub narrow : c ≤ 2 ^ 40
  pub trip : 1 ≤ r
  pub quick : r ≤ 2 ^ 40
  pub slow : 5 ≤ g
  pub fast : g ≤ 8
  pub ten : burst ≤ 10 * s
  pub held : burst ≤ max (2 * s) c
  pub two : 2 * s ≤ portion
  pub most : portion * (4 * r) ≤ max (burst * (4 * r)) (g * c * 1000)
  pub least : g * c * 1000 < 2 * (portion * (4 * r))
  pub over : portion * (4 * r) ≤ interval * (g * c)
  pub within : interval * (g * c) < portion * (4 * r) + g * c

twice : (s m : ℕ) → 2 ≤ m → 2 * s ≤ s * m
twice s m more = let h : s * 2 ≤ s * m = mul-le-mul_left s more in omega (arith, h)

gain-most : (b : Bool) → (if b then 8 else 5) ≤ 8
gain-most true = omega arith
gain-most false = omega arith

gain-least : (b : Bool) → 5 ≤ (if b then 8 else 5)
gain-least true = omega arith
gain-least false = omega arith

keeps-by : (s g c r : ℕ) → 1 ≤ s → s ≤ 65535 → s ≤ c → c ≤ 2 ^ 40 → 1 ≤ r → r ≤ 2 ^ 40 → 5 ≤ g → g ≤ 8
    → let w : ℕ = min 10 (c / s) in let q : ℕ = g * c * 1000 / (4 * r * s) in let p : ℕ = s * max 2 (max w q) in
    Keeps s g c r (s * max 2 w) p (rounded_up (p * (4 * r)) (g * c))
keeps-by s g c r s1 s2 c1 c2 r1 r2 g1 g2 =
    let n = g * c * 1000 in
    let t = 4 * r in
    let w = min 10 (c / s) in
    let u = max 2 w in
    let q = n / (t * s) in
    let m = max 2 (max w q) in
    let p = s * m in
    let few : s * u ≤ s * 10 = mul-le-mul_left s (omega arith) in
    let part : w * s ≤ c / s * s = mul-le-mul_right s (omega arith) in
    let whole = div-mul-le_self c s in
    let one : (m ≡ u) ⊎ (m ≡ q) = ⊎_elim (λ e. inl (omega (arith, e))) (λ e. inr (omega (arith, e))) (either-of u q) in
    let some : 1 * 1 ≤ t * s = mul-le 1 1 t s (omega (arith, r1)) s1 in
    let any : 5 * 1 ≤ g * c = mul-le 5 1 g c g1 (omega (arith, s1, c1)) in
    let up = div_ceil_times (p * t) (g * c) (omega (arith, any)) in
    record {
      segment = s1;
      short = s2;
      window = c1;
      narrow = c2;
      trip = r1;
      quick = r2;
      slow = g1;
      fast = g2;
      ten = omega (arith, few);
      held = held-by s c u w (either-of 2 w) (omega (arith, part, whole));
      two = twice s m (omega arith);
      most = most-by s m u q t n one (div-mul-le_self n (t * s));
      least = least-by s m q t n (omega arith) (omega arith) (lt-div-mul-add (omega (arith, some)));
      over = up.0;
      within = up.1;
    }

pub keeps : (p : Pace) → Keeps (smss_of p) (gain p) (cwnd_of p) (srtt_of p) (smss_of p * max 2 (burst p)) (portion p) (interval p)
keeps p =
    keeps-by (smss_of p) (gain p) (cwnd_of p) (srtt_of p) (omega arith) (omega arith) (omega arith) (omega arith) (omega arith) (omega arith)
    (gain-least p.is_slow_start) (gain-most p.is_slow_start)

-- ---- what fits
pub fits-by : (s g c r b p i : ℕ) → Keeps s g c r b p i → p * (4 * r) ≤ 2 ^ 62
fits-by s g c r b p i k =
    let ten = k.ten in
    let short = k.short in
    let a : b * (4 * r) ≤ (10 * 65535) * (4 * 2 ^ 40) = mul-le b (4 * r) (10 * 65535) (4 * 2 ^ 40) (omega (arith, ten, short)) (omega (arith, k.quick)) in
    let d : g * c ≤ 8 * 2 ^ 40 = mul-le g c 8 (2 ^ 40) k.fast k.narrow in
    let most = k.most in
    omega (arith, a, d, most)

pub time_fits : (p : Pace) → rate_time p * smss_of p ≤ 2 ^ 60
time_fits p =
    let h : rate_time p * smss_of p ≤ (4 * 2 ^ 40) * 65535 = mul-le (rate_time p) (smss_of p) (4 * 2 ^ 40) 65535 (omega arith) (omega arith) in
    omega (arith, h)

pub product_fits : (p : Pace) → portion p * rate_time p ≤ 2 ^ 62
product_fits p = fits-by _ _ _ _ _ _ _ (keeps p)

below-product : (p t : ℕ) → 1 ≤ t → p ≤ p * t
below-product p t some = let a : p * 1 ≤ p * t = mul-le-mul_left p some in omega (arith, a)

pub portion_fits : (p : Pace) → portion p ≤ 2 ^ 62
portion_fits p =
    let a = below-product (portion p) (rate_time p) (omega arith) in
    let b = product_fits p in
    omega (arith, a, b)

-- ---- soon
soon-by : (s g c r b p i m : ℕ) → Keeps s g c r b p i → 1000 ≤ m → 2 * r ≤ m → i ≤ m
soon-by s g c r b p i m k long trips =
    let a : (g * c) * 1000 ≤ (g * c) * m = mul-le-mul_left (g * c) long in
    let five : 5 * c ≤ g * c = mul-le-mul_right c k.slow in
    let window = k.window in
    let held = k.held in
    let d : (2 * r) * (2 * b) ≤ m * (g * c) = mul-le (2 * r) (2 * b) m (g * c) trips (omega (arith, held, window, five)) in
    let most = k.most in
    let within = k.within in
    let bound : p * (4 * r) ≤ m * (g * c) = omega (arith, a, d, most) in
    let next : suc m * (g * c) ≡ m * (g * c) + g * c = omega arith in
    let under : i * (g * c) < suc m * (g * c) = omega (arith, bound, next, within) in
    let less : i < suc m = lt_of_mul-lt-mul_right (g * c) under in
    omega (arith, less)

pub soon : (p : Pace) → interval p ≤ max period (2 * srtt_of p)
soon p = soon-by _ _ _ _ _ _ _ (max period (2 * srtt_of p)) (keeps p) (omega arith) (omega arith)

pub two_segments : (p : Pace) → 2 * smss_of p ≤ portion p
two_segments p = (keeps p).two

-- ---- no faster than the rate
rate-by : (s g c r b p i time bytes : ℕ) → Keeps s g c r b p i → g * c * time ≤ bytes * (4 * r) → time * p ≤ bytes * i
rate-by s g c r b p i time bytes k rate =
    let a : time * (p * (4 * r)) ≤ time * (i * (g * c)) = mul-le-mul_left time k.over in
    let d : i * (g * c * time) ≤ i * (bytes * (4 * r)) = mul-le-mul_left i rate in
    let all : time * p * (4 * r) ≤ bytes * i * (4 * r) = omega (arith, a, d) in
    let trip = k.trip in
    le_of_mul-le-mul_right all (omega (arith, trip))

pub portion_keeps_rate : (p : Pace) (time bytes : ℕ) → rate_bytes p * time ≤ bytes * rate_time p → time * portion p ≤ bytes * interval p
portion_keeps_rate p time bytes rate = rate-by _ _ _ _ _ _ _ time bytes (keeps p) rate

-- ---- and no slower than a window in a round trip
window-by : (s g c r b p i : ℕ) → Keeps s g c r b p i → c * i ≤ r * p
window-by s g c r b p i k =
    let a : 5 * (c * i) ≤ g * (c * i) = mul-le-mul_right (c * i) k.slow in
    let least = k.least in
    let within = k.within in
    omega (arith, a, least, within)

pub window_lem : AWindowGoesInARoundTrip
window_lem p = window-by _ _ _ _ _ _ _ (keeps p)
