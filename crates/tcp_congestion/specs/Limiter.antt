-- How often an end answers what an attacker may have sent (RFC 5961, 7): once in an interval.
use Rattle.std.specs.Prelude.{ℕ, suc, ◌+◌, ◌-◌, ◌*◌, ◌≤◌, Bool, true, false, nat_le, if◌then◌else◌, List, [], ◌∷◌, Option, Some, None}
use Rattle.tcp_congestion.specs.declared.limiter.Limiter.{Limiter}

abbrev pub new_limiter : ℕ → Limiter
new_limiter interval = record { interval = interval; last = None }

-- the interval since an answer is over, where there was one
abbrev pub is_over : ℕ → Option ℕ → ℕ → Bool
is_over interval None now = true
is_over interval (Some last) now = nat_le (last + interval) now

abbrev pub is_granted : Limiter → ℕ → Bool
is_granted l now = is_over l.interval l.last now

abbrev pub after_granted : Limiter → ℕ → Limiter
after_granted l now = if is_granted l now then record { interval = l.interval; last = Some now } else l

-- asked at these times, the newest of which comes first
abbrev pub limiter_after : ℕ → List ℕ → Limiter
limiter_after interval [] = new_limiter interval
limiter_after interval (now ∷ earlier) = after_granted (limiter_after interval earlier) now

-- the times at which an answer was granted
abbrev pub answers : ℕ → List ℕ → List ℕ
answers interval [] = []
answers interval (now ∷ earlier) =
    if is_granted (limiter_after interval earlier) now then now ∷ answers interval earlier else answers interval earlier

-- an answer is at least an interval after the one before it
abbrev pub IsAfter : ℕ → ℕ → List ℕ → Type 0
IsAfter interval now [] = Unit {0}
IsAfter interval now (before ∷ earlier) = before + interval ≤ now

abbrev pub AreApart : ℕ → List ℕ → Type 0
AreApart interval [] = Unit {0}
AreApart interval (now ∷ earlier) = IsAfter interval now earlier × AreApart interval earlier

-- ONE IN AN INTERVAL: whenever one is asked, answers lie an interval apart
abbrev pub OneInAnInterval : Type 0
OneInAnInterval = (interval : ℕ) (times : List ℕ) → AreApart interval (answers interval times)

-- how many of these times lie from one to another
abbrev pub is_between : ℕ → ℕ → ℕ → Bool
is_between from to now = if nat_le from now then nat_le now to else false

abbrev pub count_between : ℕ → ℕ → List ℕ → ℕ
count_between from to [] = 0
count_between from to (now ∷ earlier) = if is_between from to now then suc (count_between from to earlier) else count_between from to earlier

-- SO MANY AT MOST in any span of time: as many as it has intervals, and one
abbrev pub FewAnswers : Type 0
FewAnswers =
    (interval from to : ℕ) (times : List ℕ) → from ≤ to
    → interval * count_between from to (answers interval times) ≤ (to - from) + interval
