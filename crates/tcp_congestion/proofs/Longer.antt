-- HyStart++: growth is limited, jitter ends no slow start, and CSS is short.
use Rattle.std.proofs.Common.{◌≡◌, ℕ, suc, ◌+◌, ◌*◌, ◌/◌, ◌<◌, ◌≤◌, Bool, true, false, List, [], ◌∷◌, arith, refl}
use Rattle.std.specs.Prelude.{min, nat_lt, nat_le, ◌==◌, if◌then◌else◌}
use Rattle.std.proofs.Math.Nat.{mul-le-mul_right}
use Rattle.std.proofs.lemmas.Bool.Decides.{nat_tests}
use Rattle.tcp_congestion.specs.Sizes.{max_limit}
use Rattle.tcp_congestion.specs.Reno.{Window, is_first_start, started_by}
use Rattle.tcp_congestion.specs.HyStart.{SlowStart, HyStartGrowthIsLimited, Trip, AreNear, JitterIsNoDelay, CssIsShort, after_trips, begun, checked, css_rounds, enters_css, ends_round, growth_of, has_samples, in_css, in_round, in_slow_start, infinity, is_complete, is_conservative, is_measured, limit_with, longest_trip, min_rtt_thresh, new_start, resumes, rtt_thresh, sampled}

-- what holds of both ways of a test holds of it
if_keeps : {A : Type 0} (P : A → Type 0) (b : Bool) (x y : A) → (b ≡ true → P x) → (b ≡ false → P y) → P (if b then x else y)
if_keeps P true x y px py = px refl
if_keeps P false x y px py = py refl

-- ---- growth
limit-most : (b : Bool) (limit : ℕ) → limit ≤ max_limit → (if b then max_limit else limit) ≤ max_limit
limit-most true limit h = omega arith
limit-most false limit h = h

quarter : (b : Bool) (n : ℕ) → n / (if b then 4 else 1) ≤ n
quarter true n = omega arith
quarter false n = omega arith

pub growth_lem : HyStartGrowthIsLimited
growth_lem h acked smss limit most =
    let l : ℕ = limit_with h limit in
    let s : ℕ = l * smss in
    let few : s ≤ max_limit * smss = mul-le-mul_right smss (limit-most (is_measured h) limit most) in
    let part : growth_of h acked smss limit ≤ min acked s = quarter (is_conservative h) (min acked s) in
    record {
      acknowledged = omega (arith, part);
      limited = omega (arith, part, few);
    }

-- slow start grows by what is acknowledged at most
grown-le : (h : SlowStart) (acked smss limit : ℕ) → growth_of h acked smss limit ≤ acked
grown-le h acked smss limit =
    let part : growth_of h acked smss limit ≤ min acked (limit_with h limit * smss) =
    quarter (is_conservative h) (min acked (limit_with h limit * smss)) in omega (arith, part)

start-le : (w : Window) (acked : ℕ) (b : Bool) → (if b then growth_of w.start acked w.smss w.limit else min acked w.smss) ≤ acked
start-le w acked true = grown-le w.start acked w.smss w.limit
start-le w acked false = omega arith

pub started-le : (w : Window) (acked : ℕ) → started_by w acked ≤ acked
started-le w acked = start-le w acked (is_first_start w)

-- ---- jitter
-- no round trip is short, of the last round or of this one
record IsNear (least : ℕ) (h : SlowStart) : Type 0 where
  standard : h.css_round ≡ 0
  last : min least longest_trip ≤ h.last_round_min_rtt
  current : min least longest_trip ≤ h.current_round_min_rtt

near-new : (least : ℕ) → IsNear least new_start
near-new least = record { standard = refl; last = omega arith; current = omega arith }

near-begun : (least : ℕ) (h : SlowStart) (snd_nxt : ℕ) → IsNear least h → IsNear least (begun h snd_nxt)
near-begun least h snd_nxt n =
    let none : h.css_round ≡ 0 = n.standard in
    record {
      standard = grind (arith, nat_tests, none);
      last = n.current;
      current = omega arith;
    }

near-round : (least : ℕ) (h : SlowStart) (snd_una snd_nxt : ℕ) → IsNear least h → IsNear least (in_round h snd_una snd_nxt)
near-round least h snd_una snd_nxt n =
    if_keeps (IsNear least) (ends_round h snd_una) (begun h snd_nxt) h (λ e. near-begun least h snd_nxt n) (λ e. n)

near-sampled : (least : ℕ) (h : SlowStart) (curr_rtt : ℕ) → IsNear least h → least ≤ curr_rtt → IsNear least (sampled h curr_rtt)
near-sampled least h curr_rtt n long = record {
  standard = n.standard;
  last = n.last;
  current = let c = n.current in omega (arith, c, long);
}

-- and this one isn't long
short-sampled : (least : ℕ) (h : SlowStart) (curr_rtt : ℕ) → IsNear least h → curr_rtt < least + min_rtt_thresh
    → (sampled h curr_rtt).current_round_min_rtt < h.last_round_min_rtt + min_rtt_thresh
short-sampled least h curr_rtt n short = let l = n.last in omega (arith, l, short)

longer-than : (a b : Bool) (x y : ℕ) → (if a then (if b then nat_le x y else false) else false) ≡ true → x ≤ y
longer-than true true x y e = grind (arith, nat_tests, e)
longer-than true false x y e = absurd (cc)
longer-than false b x y e = absurd (cc)

near-checked : (least : ℕ) (h : SlowStart) → IsNear least h → h.current_round_min_rtt < h.last_round_min_rtt + min_rtt_thresh
    → IsNear least (checked h)
near-checked least h n short =
    let none : h.css_round ≡ 0 = n.standard in
    if_keeps (IsNear least) (is_conservative h) (in_css h) (in_slow_start h)
    (λ e. absurd (grind (arith, nat_tests, none, e)))
    (λ e. if_keeps (IsNear least) (enters_css h) (record h { css_baseline_min_rtt = h.current_round_min_rtt; css_round = 1 }) h
    (λ longer.
    let long : h.last_round_min_rtt + rtt_thresh h.last_round_min_rtt ≤ h.current_round_min_rtt
    = longer-than (has_samples h) (nat_lt h.last_round_min_rtt infinity) (h.last_round_min_rtt + rtt_thresh h.last_round_min_rtt) h.current_round_min_rtt longer in
    absurd (omega (arith, long, short)))
    (λ e. n))

near : (least : ℕ) (trips : List Trip) → AreNear least trips → IsNear least (after_trips trips)
near least [] a = near-new least
near least (t ∷ earlier) (long, short, rest) =
    let h : SlowStart = after_trips earlier in
    let r : SlowStart = in_round h t.snd_una t.snd_nxt in
    let n : IsNear least r = near-round least h t.snd_una t.snd_nxt (near least earlier rest) in
    if_keeps (IsNear least) (is_complete h t.snd_una) new_start (checked (sampled r t.curr_rtt))
    (λ e. near-new least)
    (λ e. near-checked least (sampled r t.curr_rtt) (near-sampled least r t.curr_rtt n long) (short-sampled least r t.curr_rtt n short))

pub jitter_lem : JitterIsNoDelay
jitter_lem least trips a =
    let n : IsNear least (after_trips trips) = near least trips a in
    let none : (after_trips trips).css_round ≡ 0 = n.standard in
    grind (arith, nat_tests, none)

-- ---- CSS is short
abbrev IsShort : SlowStart → Type 0
IsShort h = h.css_round ≤ css_rounds

not-last : (a ends : Bool) → (if a then ends else false) ≡ false → ends ≡ true → a ≡ false
not-last true ends e f = absurd (cc)
not-last false ends e f = refl

next-short : (b : Bool) (round : ℕ) → round ≤ css_rounds → (round == css_rounds) ≡ false
    → (if b then suc round else 0) ≤ css_rounds
next-short true round h e = grind (arith, nat_tests, h, e)
next-short false round h e = omega arith

short-round : (h : SlowStart) (snd_una snd_nxt : ℕ) → IsShort h → is_complete h snd_una ≡ false → IsShort (in_round h snd_una snd_nxt)
short-round h snd_una snd_nxt s e =
    if_keeps IsShort (ends_round h snd_una) (begun h snd_nxt) h
    (λ ends. next-short (is_conservative h) h.css_round s (not-last (h.css_round == css_rounds) (ends_round h snd_una) e ends))
    (λ f. s)

short-checked : (h : SlowStart) → IsShort h → IsShort (checked h)
short-checked h s =
    if_keeps IsShort (is_conservative h) (in_css h) (in_slow_start h)
    (λ e. if_keeps IsShort (resumes h) (record h { css_baseline_min_rtt = infinity; css_round = 0 }) h (λ f. omega arith) (λ f. s))
    (λ e. if_keeps IsShort (enters_css h) (record h { css_baseline_min_rtt = h.current_round_min_rtt; css_round = 1 }) h (λ f. omega arith) (λ f. s))

pub short_lem : CssIsShort
short_lem [] = omega arith
short_lem (t ∷ earlier) =
    let h : SlowStart = after_trips earlier in
    let r : SlowStart = in_round h t.snd_una t.snd_nxt in
    if_keeps IsShort (is_complete h t.snd_una) new_start (checked (sampled r t.curr_rtt))
    (λ e. omega arith)
    (λ e. short-checked (sampled r t.curr_rtt) (short-round h t.snd_una t.snd_nxt (short_lem earlier) e))
