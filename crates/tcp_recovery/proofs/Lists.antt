-- What loops over stretches do, step by step.
use Rattle.std.proofs.Common.{◌≡◌, ℕ, ◌+◌, ◌<◌, ◌≤◌, Bool, true, false, List, [], ◌∷◌, ◌++◌, drop, get_or, length, length-append, arith, refl, ap}
use Rattle.std.specs.Prelude.{min, max, nat_lt, if◌then◌else◌}
use Rattle.std.proofs.lemmas.Bool.Decides.{nat_tests}
use Rattle.std.proofs.lemmas.List.{drop_more}
use Rattle.tcp_recovery.specs.declared.stretch.Stretch.{Stretch}
use Rattle.tcp_recovery.specs.Stretches.{appended, before, behind, extends, followed_by, segment}

-- new text concerns the last stretch alone
pub appended_last : (start end now span : ℕ) (front : List Stretch) (s : Stretch)
    → appended start end now span (front ++ s ∷ [])
    ≡ front ++ (if extends s start now span then followed_by s end now ∷ [] else s ∷ segment start end now false ∷ [])
appended_last start end now span [] s = refl
appended_last start end now span (first ∷ []) s = refl
appended_last start end now span (first ∷ next ∷ later) s = ap (λ (all : List Stretch). first ∷ all) (appended_last start end now span (next ∷ later) s)

pub appended_extending : (start end now span : ℕ) (front : List Stretch) (s : Stretch) (all : List Stretch) → all ≡ front ++ s ∷ []
    → extends s start now span ≡ true → appended start end now span all ≡ front ++ followed_by s end now ∷ []
appended_extending start end now span front s all e b =
    let last : appended start end now span (front ++ s ∷ [])
    ≡ front ++ (if extends s start now span then followed_by s end now ∷ [] else s ∷ segment start end now false ∷ []) =
    appended_last start end now span front s in
    rw (e, last, b) refl

pub appended_apart : (start end now span : ℕ) (front : List Stretch) (s : Stretch) (all : List Stretch) → all ≡ front ++ s ∷ []
    → extends s start now span ≡ false → appended start end now span all ≡ front ++ s ∷ segment start end now false ∷ []
appended_apart start end now span front s all e b =
    let last : appended start end now span (front ++ s ∷ [])
    ≡ front ++ (if extends s start now span then followed_by s end now ∷ [] else s ∷ segment start end now false ∷ []) =
    appended_last start end now span front s in
    rw (e, last, b) refl

-- ---- one more has room
some-before : (at : ℕ) (s : Stretch) (later : List Stretch) (b : Bool) → nat_lt s.start at ≡ b → s.start < at
    → 1 ≤ length (if b then record s { end = min s.end at } ∷ before at later else before at later)
some-before at s later true e h = omega arith
some-before at s later false e h = absurd (grind (arith, nat_tests, e, h))

some-behind : (at : ℕ) (s : Stretch) (later : List Stretch) (b : Bool) → nat_lt at s.end ≡ b → at < s.end
    → 1 ≤ length (if b then record s { start = max s.start at } ∷ behind at later else behind at later)
some-behind at s later true e h = omega arith
some-behind at s later false e h = absurd (grind (arith, nat_tests, e, h))

pub room_before : (at i : ℕ) (out base all : List Stretch) (d : Stretch) → out ++ before at (drop i all) ≡ base ++ before at all → i < length all
    → (get_or all i d).start < at → length base + length (before at all) ≤ 66 → length out < 66
room_before at i out base all d e h here fits =
    let same : length (before at (drop i all)) ≡ length (before at (get_or all i d ∷ drop (i + 1) all)) =
    ap (λ (xs : List Stretch). length (before at xs)) (drop_more all i d h) in
    let some : 1 ≤ length (before at (get_or all i d ∷ drop (i + 1) all)) =
    some-before at (get_or all i d) (drop (i + 1) all) (nat_lt (get_or all i d).start at) refl here in
    let sum : length (out ++ before at (drop i all)) ≡ length (base ++ before at all) = ap length e in
    omega (arith, same, some, sum, length-append out (before at (drop i all)), length-append base (before at all), fits)

pub room_behind : (at i : ℕ) (out base all : List Stretch) (d : Stretch) → out ++ behind at (drop i all) ≡ base ++ behind at all → i < length all
    → at < (get_or all i d).end → length base + length (behind at all) ≤ 66 → length out < 66
room_behind at i out base all d e h here fits =
    let same : length (behind at (drop i all)) ≡ length (behind at (get_or all i d ∷ drop (i + 1) all)) =
    ap (λ (xs : List Stretch). length (behind at xs)) (drop_more all i d h) in
    let some : 1 ≤ length (behind at (get_or all i d ∷ drop (i + 1) all)) =
    some-behind at (get_or all i d) (drop (i + 1) all) (nat_lt at (get_or all i d).end) refl here in
    let sum : length (out ++ behind at (drop i all)) ≡ length (base ++ behind at all) = ap length e in
    omega (arith, same, some, sum, length-append out (behind at (drop i all)), length-append base (behind at all), fits)
