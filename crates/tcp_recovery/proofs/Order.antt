-- Stretches in order stay in order, and they are few.
use Rattle.std.proofs.Common.{◌≡◌, ℕ, suc, ◌+◌, ◌<◌, ◌≤◌, inl, inr, Bool, true, false, List, [], ◌∷◌, ◌++◌, length, length-append, arith, refl}
use Rattle.std.specs.Prelude.{◌⊎◌, min, max, nat_lt, nat_le, if◌then◌else◌}
use Rattle.std.proofs.lemmas.Bool.Decides.{nat_tests}
use Rattle.tcp_recovery.specs.declared.stretch.Stretch.{Stretch}
use Rattle.tcp_recovery.specs.Stretches.{AreInOrder, appended, before, behind, cut_out, distance, extends, fitted, followed_by, joined, least_distance, max_stretches, segment, thinned, with_joined, without}

pub lower : (low from to : ℕ) (all : List Stretch) → low ≤ from → AreInOrder from to all → AreInOrder low to all
lower low from to [] h o = omega arith
lower low from to (s ∷ later) h o =
    let least : from ≤ s.start = o.0 in
    (omega (arith, least, h), o.1, o.2)

pub higher : (from to high : ℕ) (all : List Stretch) → to ≤ high → AreInOrder from to all → AreInOrder from high all
higher from to high [] h o = omega arith
higher from to high (s ∷ later) h o = (o.0, o.1, higher s.end to high later h (o.2))

pub append-order : (from mid to : ℕ) (all more : List Stretch) → AreInOrder from mid all → AreInOrder mid to more → AreInOrder from to (all ++ more)
append-order from mid to [] more o p = lower from mid to more o p
append-order from mid to (s ∷ later) more o p = (o.0, o.1, append-order s.end mid to later more (o.2) p)

before-step : (from at : ℕ) (s : Stretch) (later : List Stretch) (b : Bool) → nat_lt s.start at ≡ b → from ≤ s.start → s.start < s.end
    → AreInOrder (min s.end at) at (before at later)
    → AreInOrder (min from at) at (if b then record s { end = min s.end at } ∷ before at later else before at later)
before-step from at s later true e least some o =
    let here : s.start < at = grind (arith, nat_tests, e) in
    (omega (arith, least), omega (arith, some, here), o)
before-step from at s later false e least some o = lower (min from at) (min s.end at) at (before at later) (omega (arith, least, some)) o

pub before-order : (from to at : ℕ) (all : List Stretch) → AreInOrder from to all → AreInOrder (min from at) at (before at all)
before-order from to at [] o = omega arith
before-order from to at (s ∷ later) o = before-step from at s later (nat_lt s.start at) refl (o.0) (o.1) (before-order s.end to at later (o.2))

behind-step : (from to at : ℕ) (s : Stretch) (later : List Stretch) (b : Bool) → nat_lt at s.end ≡ b → from ≤ s.start → s.start < s.end
    → AreInOrder (max s.end at) (max to at) (behind at later)
    → AreInOrder (max from at) (max to at) (if b then record s { start = max s.start at } ∷ behind at later else behind at later)
behind-step from to at s later true e least some o =
    let here : at < s.end = grind (arith, nat_tests, e) in
    (omega (arith, least), omega (arith, some, here), lower s.end (max s.end at) (max to at) (behind at later) (omega arith) o)
behind-step from to at s later false e least some o =
    lower (max from at) (max s.end at) (max to at) (behind at later) (omega (arith, least, some)) o

pub behind-order : (from to at : ℕ) (all : List Stretch) → AreInOrder from to all → AreInOrder (max from at) (max to at) (behind at all)
behind-order from to at [] o = omega arith
behind-order from to at (s ∷ later) o = behind-step from to at s later (nat_lt at s.end) refl (o.0) (o.1) (behind-order s.end to at later (o.2))

-- ---- how many they are
none-step : (at : ℕ) (s : Stretch) (later : List Stretch) (b : Bool) → nat_lt s.start at ≡ b → at ≤ s.start → length (before at later) ≡ 0
    → length (if b then record s { end = min s.end at } ∷ before at later else before at later) ≡ 0
none-step at s later true e h n = absurd (grind (arith, nat_tests, e, h))
none-step at s later false e h n = n

none-before : (from to at : ℕ) (all : List Stretch) → at ≤ from → AreInOrder from to all → length (before at all) ≡ 0
none-before from to at [] h o = refl
none-before from to at (s ∷ later) h o =
    let least : from ≤ s.start = o.0 in
    let some : s.start < s.end = o.1 in
    none-step at s later (nat_lt s.start at) refl (omega (arith, least, h)) (none-before s.end to at later (omega (arith, least, some, h)) (o.2))

behind-few-step : (at : ℕ) (s : Stretch) (later : List Stretch) (b : Bool) → length (behind at later) ≤ length later
    → length (if b then record s { start = max s.start at } ∷ behind at later else behind at later) ≤ suc (length later)
behind-few-step at s later true n = omega (arith, n)
behind-few-step at s later false n = omega (arith, n)

pub behind-few : (at : ℕ) (all : List Stretch) → length (behind at all) ≤ length all
behind-few at [] = omega arith
behind-few at (s ∷ later) = behind-few-step at s later (nat_lt at s.end) (behind-few at later)

pieces-step : (start end to : ℕ) (s : Stretch) (later : List Stretch) (b d : Bool) → nat_lt s.start start ≡ b → nat_lt end s.end ≡ d → start ≤ end
    → AreInOrder s.end to later
    → length (before start later) + length (behind end later) ≤ suc (length later)
    → length (if b then record s { end = min s.end start } ∷ before start later else before start later)
    + length (if d then record s { start = max s.start end } ∷ behind end later else behind end later) ≤ suc (suc (length later))
pieces-step start end to s later true true e f h o n =
    let here : end < s.end = grind (arith, nat_tests, f) in
    let none : length (before start later) ≡ 0 = none-before s.end to start later (omega (arith, here, h)) o in
    let few : length (behind end later) ≤ length later = behind-few end later in
    omega (arith, none, few)
pieces-step start end to s later true false e f h o n = omega (arith, n)
pieces-step start end to s later false true e f h o n = omega (arith, n)
pieces-step start end to s later false false e f h o n = omega (arith, n)

pub pieces : (from to start end : ℕ) (all : List Stretch) → start ≤ end → AreInOrder from to all
    → length (before start all) + length (behind end all) ≤ suc (length all)
pieces from to start end [] h o = omega arith
pieces from to start end (s ∷ later) h o =
    pieces-step start end to s later (nat_lt s.start start) (nat_lt end s.end) refl refl h (o.2) (pieces s.end to start end later h (o.2))

-- ---- what changes them
pub without-order : (to start end : ℕ) (all : List Stretch) → start ≤ end → AreInOrder 0 to all → AreInOrder 0 (max to end) (without start end all)
without-order to start end all h o =
    let front : AreInOrder (min 0 start) start (before start all) = before-order 0 to start all o in
    let back : AreInOrder (max 0 end) (max to end) (behind end all) = behind-order 0 to end all o in
    append-order 0 start (max to end) (before start all) (behind end all) (lower 0 (min 0 start) start (before start all) (omega arith) front)
    (lower start (max 0 end) (max to end) (behind end all) (omega arith) back)

pub cut-order : (to start end now : ℕ) (all : List Stretch) → start < end → AreInOrder 0 to all → AreInOrder 0 (max to end) (cut_out start end now all)
cut-order to start end now all h o =
    let front : AreInOrder (min 0 start) start (before start all) = before-order 0 to start all o in
    let back : AreInOrder (max 0 end) (max to end) (behind end all) = behind-order 0 to end all o in
    append-order 0 start (max to end) (before start all) (segment start end now true ∷ behind end all)
    (lower 0 (min 0 start) start (before start all) (omega arith) front)
    (omega arith, h, lower end (max 0 end) (max to end) (behind end all) (omega arith) back)

extended : (from start end now span : ℕ) (s : Stretch) (b : Bool) → from ≤ s.start → s.start < s.end → s.end ≤ start → start < end
    → AreInOrder from end (if b then followed_by s end now ∷ [] else s ∷ segment start end now false ∷ [])
extended from start end now span s true l some m h = (l, omega (arith, some, m, h), omega arith)
extended from start end now span s false l some m h = (l, some, (m, h, omega arith))

pub appended-order : (from mid start end now span : ℕ) (all : List Stretch) → mid ≤ start → start < end → AreInOrder from mid all
    → AreInOrder from end (appended start end now span all)
appended-order from mid start end now span [] m h o = (omega (arith, o, m), h, omega arith)
appended-order from mid start end now span (s ∷ []) m h o =
    let last : s.end ≤ mid = o.2 in
    extended from start end now span s (extends s start now span) (o.0) (o.1) (omega (arith, last, m)) h
appended-order from mid start end now span (s ∷ next ∷ later) m h o =
    (o.0, o.1, appended-order s.end mid start end now span (next ∷ later) m h (o.2))

appended-one : (start end now : ℕ) (s : Stretch) (b : Bool)
    → length (if b then followed_by s end now ∷ [] else s ∷ segment start end now false ∷ []) ≤ 2
appended-one start end now s true = omega arith
appended-one start end now s false = omega arith

pub appended-few : (start end now span : ℕ) (all : List Stretch) → length (appended start end now span all) ≤ suc (length all)
appended-few start end now span [] = omega arith
appended-few start end now span (s ∷ []) = appended-one start end now s (extends s start now span)
appended-few start end now span (s ∷ next ∷ later) =
    let n : length (appended start end now span (next ∷ later)) ≤ suc (length (next ∷ later)) = appended-few start end now span (next ∷ later) in
    omega (arith, n)

pub cut-few : (to start end now : ℕ) (all : List Stretch) → start ≤ end → AreInOrder 0 to all → length (cut_out start end now all) ≤ suc (suc (length all))
cut-few to start end now all h o =
    let n : length (before start all) + length (behind end all) ≤ suc (length all) = pieces 0 to start end all h o in
    omega (arith, n, length-append (before start all) (segment start end now true ∷ behind end all))

pub without-few : (to start end : ℕ) (all : List Stretch) → start ≤ end → AreInOrder 0 to all → length (without start end all) ≤ suc (length all)
without-few to start end all h o =
    let n : length (before start all) + length (behind end all) ≤ suc (length all) = pieces 0 to start end all h o in
    omega (arith, n, length-append (before start all) (behind end all))

-- ---- two neighbours are joined
joined-step : (from to least : ℕ) (s next : Stretch) (later : List Stretch) (b : Bool) → from ≤ s.start → s.start < s.end → s.end ≤ next.start → next.start < next.end
    → AreInOrder next.end to later → AreInOrder s.end to (with_joined least (next ∷ later))
    → AreInOrder from to (if b then joined s next ∷ later else s ∷ with_joined least (next ∷ later))
joined-step from to least s next later true l some m more o p = (l, omega (arith, some, m, more), o)
joined-step from to least s next later false l some m more o p = (l, some, p)

with_joined-order : (from to least : ℕ) (all : List Stretch) → AreInOrder from to all → AreInOrder from to (with_joined least all)
with_joined-order from to least [] o = o
with_joined-order from to least (s ∷ []) o = o
with_joined-order from to least (s ∷ next ∷ later) o =
    joined-step from to least s next later (nat_le (distance s next) least) (o.0) (o.1) (o.2.0) (o.2.1) (o.2.2)
    (with_joined-order s.end to least (next ∷ later) (o.2))

thinned-order : (from to : ℕ) (all : List Stretch) → AreInOrder from to all → AreInOrder from to (thinned all)
thinned-order from to [] o = o
thinned-order from to (s ∷ []) o = o
thinned-order from to (s ∷ next ∷ later) o = with_joined-order from to (least_distance (distance s next) (next ∷ later)) (s ∷ next ∷ later) o

fitted-by : (from to : ℕ) (all : List Stretch) (b : Bool) → AreInOrder from to all → AreInOrder from to (if b then thinned all else all)
fitted-by from to all true o = thinned-order from to all o
fitted-by from to all false o = o

pub fitted-order : (from to : ℕ) (all : List Stretch) → AreInOrder from to all → AreInOrder from to (fitted all)
fitted-order from to all o = fitted-by from to all (nat_lt max_stretches (length all)) o

-- either no distance is less, or two were joined
shorter-by : (most d : ℕ) (s next : Stretch) (later : List Stretch) (b : Bool) → nat_le (distance s next) d ≡ b
    → (d ≡ min most (distance s next)) ⊎ (suc (length (with_joined d (next ∷ later))) ≡ suc (length later))
    → (d ≡ most) ⊎ (suc (length (if b then joined s next ∷ later else s ∷ with_joined d (next ∷ later))) ≡ suc (suc (length later)))
shorter-by most d s next later true e h = inr refl
shorter-by most d s next later false e (inl same) =
    let more : d < distance s next = grind (arith, nat_tests, e) in
    inl (omega (arith, same, more))
shorter-by most d s next later false e (inr n) = inr (omega (arith, n))

shorter : (most d : ℕ) (s : Stretch) (later : List Stretch) → least_distance most (s ∷ later) ≡ d
    → (d ≡ most) ⊎ (suc (length (with_joined d (s ∷ later))) ≡ suc (length later))
shorter most d s [] e = inl (cc)
shorter most d s (next ∷ later) e =
    shorter-by most d s next later (nat_le (distance s next) d) refl (shorter (min most (distance s next)) d next later e)

first-joined : (d : ℕ) (s next : Stretch) (later : List Stretch) (b : Bool) → nat_le (distance s next) d ≡ b
    → (d ≡ distance s next) ⊎ (suc (length (with_joined d (next ∷ later))) ≡ suc (length later))
    → length (if b then joined s next ∷ later else s ∷ with_joined d (next ∷ later)) ≡ suc (length later)
first-joined d s next later true e h = refl
first-joined d s next later false e (inl same) =
    let more : d < distance s next = grind (arith, nat_tests, e) in
    absurd (omega (arith, same, more))
first-joined d s next later false e (inr n) = omega (arith, n)

thinned-shorter : (n : ℕ) (all : List Stretch) → length all ≤ suc n → 1 ≤ n → length (thinned all) ≤ n
thinned-shorter n [] h some = omega arith
thinned-shorter n (s ∷ []) h some = omega arith
thinned-shorter n (s ∷ next ∷ later) h some =
    let d : ℕ = least_distance (distance s next) (next ∷ later) in
    let same : length (thinned (s ∷ next ∷ later)) ≡ suc (length later) =
    first-joined d s next later (nat_le (distance s next) d) refl (shorter (distance s next) d next later refl) in
    omega (arith, same, h)

few-by : (n : ℕ) (all : List Stretch) (b : Bool) → nat_lt max_stretches (length all) ≡ b → length all ≤ suc n → max_stretches ≤ n
    → length (if b then thinned all else all) ≤ n
few-by n all true e h some = thinned-shorter n all h (omega (arith, some))
few-by n all false e h some =
    let few : length all ≤ max_stretches = grind (arith, nat_tests, e) in
    omega (arith, few, some)

pub fitted-few : (n : ℕ) (all : List Stretch) → length all ≤ suc n → max_stretches ≤ n → length (fitted all) ≤ n
fitted-few n all h some = few-by n all (nat_lt max_stretches (length all)) refl h some
