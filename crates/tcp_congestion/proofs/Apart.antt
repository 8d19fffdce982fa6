-- Answers lie an interval apart.
use Rattle.std.proofs.Common.{◌≡◌, ℕ, suc, ◌+◌, ◌-◌, ◌*◌, ◌≤◌, Bool, true, false, List, [], ◌∷◌, Option, Some, None, arith, refl}
use Rattle.std.specs.Prelude.{if◌then◌else◌}
use Rattle.std.proofs.lemmas.Bool.Decides.{nat_tests}
use Rattle.tcp_congestion.specs.declared.limiter.Limiter.{Limiter}
use Rattle.tcp_congestion.specs.Limiter.{limiter_after, is_over, is_granted, answers, IsAfter, AreApart, OneInAnInterval, is_between, count_between, FewAnswers}

-- the limiter knows the newest answer
abbrev newest : List ℕ → Option ℕ
newest [] = None
newest (now ∷ earlier) = Some now

record IsLimited (interval : ℕ) (l : Limiter) (given : List ℕ) : Type 0 where
  same : l.interval ≡ interval
  last : l.last ≡ newest given
  apart : AreApart interval given

over-after : (interval now : ℕ) (given : List ℕ) → is_over interval (newest given) now ≡ true → IsAfter interval now given
over-after interval now [] e = tt
over-after interval now (last ∷ earlier) e = grind (arith, nat_tests, e)

asked : (interval now : ℕ) (l : Limiter) (given : List ℕ) (b : Bool) → is_over interval (newest given) now ≡ b → IsLimited interval l given
    → IsLimited interval (if b then record { interval = l.interval; last = Some now } else l) (if b then now ∷ given else given)
asked interval now l given true e h = record { same = h.same; last = refl; apart = (over-after interval now given e, h.apart) }
asked interval now l given false e h = h

limited : (interval : ℕ) (times : List ℕ) → IsLimited interval (limiter_after interval times) (answers interval times)
limited interval [] = record { same = refl; last = refl; apart = tt }
limited interval (now ∷ earlier) =
    let h : IsLimited interval (limiter_after interval earlier) (answers interval earlier) = limited interval earlier in
    let s = h.same in
    let l = h.last in
    let e : is_over interval (newest (answers interval earlier)) now ≡ is_granted (limiter_after interval earlier) now = cc in
    asked interval now (limiter_after interval earlier) (answers interval earlier) (is_granted (limiter_after interval earlier) now) e h

pub apart_lem : OneInAnInterval
apart_lem interval times = (limited interval times).apart

-- those before `before`, an interval at least, within a span
abbrev FewBefore : ℕ → ℕ → ℕ → ℕ → List ℕ → Type 0
FewBefore interval from to before given = interval * count_between from to given ≤ before - from

few-more : (interval from to before now : ℕ) (earlier : List ℕ) (b : Bool) → is_between from to now ≡ b → now + interval ≤ before
    → FewBefore interval from to now earlier
    → interval * (if b then suc (count_between from to earlier) else count_between from to earlier) ≤ before - from
few-more interval from to before now earlier true e after h =
    let least : from ≤ now = grind (arith, nat_tests, e) in
    let more : interval * suc (count_between from to earlier) ≡ interval * count_between from to earlier + interval = omega arith in
    omega (arith, least, more, after, h)
few-more interval from to before now earlier false e after h = omega (arith, after, h)

few-before : (interval from to before : ℕ) (given : List ℕ) → IsAfter interval before given → AreApart interval given → FewBefore interval from to before given
few-before interval from to before [] after apart = omega arith
few-before interval from to before (now ∷ earlier) after apart =
    few-more interval from to before now earlier (is_between from to now) refl after (few-before interval from to now earlier (apart.0) (apart.1))

-- the newest that lies within the span has the others before it
few-newest : (interval from to now : ℕ) (earlier : List ℕ) (b : Bool) → is_between from to now ≡ b → from ≤ to
    → FewBefore interval from to now earlier → interval * count_between from to earlier ≤ (to - from) + interval
    → interval * (if b then suc (count_between from to earlier) else count_between from to earlier) ≤ (to - from) + interval
few-newest interval from to now earlier true e h rest all =
    let least : from ≤ now = grind (arith, nat_tests, e) in
    let most : now ≤ to = grind (arith, nat_tests, e) in
    let more : interval * suc (count_between from to earlier) ≡ interval * count_between from to earlier + interval = omega arith in
    omega (arith, least, most, more, rest)
few-newest interval from to now earlier false e h rest all = all

few : (interval from to : ℕ) (given : List ℕ) → from ≤ to → AreApart interval given → interval * count_between from to given ≤ (to - from) + interval
few interval from to [] h apart = omega arith
few interval from to (now ∷ earlier) h apart =
    few-newest interval from to now earlier (is_between from to now) refl h (few-before interval from to now earlier (apart.0) (apart.1))
    (few interval from to earlier h (apart.1))

pub few_lem : FewAnswers
few_lem interval from to times h = few interval from to (answers interval times) h (apart_lem interval times)
