-- What is received is mostly the front of the first stretch.
use Rattle.std.proofs.Common.{◌≡◌, ℕ, suc, ◌+◌, ◌<◌, ◌≤◌, Bool, true, false, List, [], ◌∷◌, ◌++◌, drop, get_or, length, arith, refl, ap, subst, sym, ◌∙◌}
use Rattle.std.specs.Prelude.{◌&&◌, min, max, nat_lt, nat_le, slice_set, if◌then◌else◌}
use Rattle.std.proofs.lemmas.Bool.Decides.{nat_tests}
use Rattle.std.proofs.lemmas.List.{drop_more}
use Rattle.tcp_recovery.specs.declared.stretch.Stretch.{Stretch}
use Rattle.tcp_recovery.specs.Stretches.{AreInOrder, are_first, before, behind, between, fitted, max_stretches, thinned, without}
use Rattle.tcp_recovery.proofs.Order.{pieces}

nothing-step : (x : ℕ) (s : Stretch) (later : List Stretch) (b : Bool) → nat_lt s.start x ≡ b → x ≤ s.start → before x later ≡ []
    → (if b then record s { end = min s.end x } ∷ before x later else before x later) ≡ []
nothing-step x s later true e h rest = absurd (grind (arith, nat_tests, e, h))
nothing-step x s later false e h rest = rest

pub nothing-before : (x from to : ℕ) (all : List Stretch) → x ≤ from → AreInOrder from to all → before x all ≡ []
nothing-before x from to [] h o = refl
nothing-before x from to (s ∷ later) h o =
    let least : from ≤ s.start = o.0 in
    let some : s.start < s.end = o.1 in
    nothing-step x s later (nat_lt s.start x) refl (omega (arith, least, h)) (nothing-before x s.end to later (omega (arith, least, some, h)) (o.2))

same-start : (s : Stretch) (x : ℕ) → x ≤ s.start → record s { start = max s.start x } ≡ s
same-start s x h =
    let e : max s.start x ≡ s.start = omega (arith, h) in
    ap (λ (n : ℕ). record s { start = n }) e

all-step : (x : ℕ) (s : Stretch) (later : List Stretch) (b : Bool) → nat_lt x s.end ≡ b → x ≤ s.start → s.start < s.end → behind x later ≡ later
    → (if b then record s { start = max s.start x } ∷ behind x later else behind x later) ≡ s ∷ later
all-step x s later true e h some rest =
    let one : record s { start = max s.start x } ≡ s = same-start s x h in
    cc
all-step x s later false e h some rest = absurd (grind (arith, nat_tests, e, h, some))

pub all-behind : (x from to : ℕ) (all : List Stretch) → x ≤ from → AreInOrder from to all → behind x all ≡ all
all-behind x from to [] h o = refl
all-behind x from to (s ∷ later) h o =
    let least : from ≤ s.start = o.0 in
    let some : s.start < s.end = o.1 in
    all-step x s later (nat_lt x s.end) refl (omega (arith, least, h)) some (all-behind x s.end to later (omega (arith, least, some, h)) (o.2))

both : (a b : Bool) → (a && b) ≡ true → (a ≡ true) × (b ≡ true)
both true b e = (refl, e)
both false b e = absurd (cc)

first-step : (x : ℕ) (s : Stretch) (later : List Stretch) (b : Bool) → nat_lt x s.end ≡ b → x < s.end → behind x later ≡ later
    → (if b then record s { start = max s.start x } ∷ behind x later else behind x later) ≡ record s { start = max s.start x } ∷ later
first-step x s later true e h rest = ap (λ (all : List Stretch). record s { start = max s.start x } ∷ all) rest
first-step x s later false e h rest = absurd (grind (arith, nat_tests, e, h))

fits-by : (all : List Stretch) (b : Bool) → nat_lt max_stretches (length all) ≡ b → length all ≤ 64 → (if b then thinned all else all) ≡ all
fits-by all true e h = absurd (grind (arith, nat_tests, e, h))
fits-by all false e h = refl

fits : (all : List Stretch) → length all ≤ 64 → fitted all ≡ all
fits all h = fits-by all (nat_lt max_stretches (length all)) refl h

pub trimmed : (start end to : ℕ) (all : List Stretch) (x : Stretch) → AreInOrder 0 to all → start < end → length all ≤ 64
    → are_first start end all ≡ true → (first : Stretch) → first ≡ get_or all 0 first → x ≡ record first { start = max first.start end }
    → slice_set all 0 x ≡ fitted (without start end all)
trimmed start end to [] x o some few t first f e = absurd (cc)
trimmed start end to (s ∷ later) x o some few t first f e =
    let tests : (nat_le start s.start ≡ true) × (nat_lt end s.end ≡ true) = both (nat_le start s.start) (nat_lt end s.end) t in
    let low : nat_le start s.start ≡ true = tests.0 in
    let high : nat_lt end s.end ≡ true = tests.1 in
    let above : start ≤ s.start = grind (arith, nat_tests, low) in
    let below : end < s.end = grind (arith, nat_tests, high) in
    let none : before start (s ∷ later) ≡ [] =
    nothing-before start s.start to (s ∷ later) above (omega arith, o.1, o.2) in
    let rest : behind end later ≡ later = all-behind end s.end to later (omega (arith, below)) (o.2) in
    let cut : behind end (s ∷ later) ≡ record s { start = max s.start end } ∷ later = first-step end s later (nat_lt end s.end) refl below rest in
    let whole : without start end (s ∷ later) ≡ record s { start = max s.start end } ∷ later = ap (λ (front : List Stretch). front ++ behind end (s ∷ later)) none ∙ cut in
    let new : x ≡ record s { start = max s.start end } = e ∙ ap (λ (t : Stretch). record t { start = max t.start end }) f in
    let kept : fitted (record s { start = max s.start end } ∷ later) ≡ record s { start = max s.start end } ∷ later =
    fits (record s { start = max s.start end } ∷ later) few in
    ap (λ (t : Stretch). t ∷ later) new ∙ (sym kept ∙ sym (ap fitted whole))

pub has-room : (start end to : ℕ) (all : List Stretch) → AreInOrder 0 to all → start < end → length all ≤ 64
    → length (before start all) + length (behind end all) ≤ 65
has-room start end to all o some few =
    let n : length (before start all) + length (behind end all) ≤ suc (length all) = pieces 0 to start end all (omega (arith, some)) o in
    omega (arith, n, few)

-- nothing of the rest is before a position where the next stretch begins
pub nothing-between : (start end from to i : ℕ) (all : List Stretch) (d : Stretch) → i < length all → end ≤ (get_or all i d).start
    → AreInOrder from to (drop i all) → between start end (drop i all) ≡ []
nothing-between start end from to i all d h past o =
    let e : drop i all ≡ get_or all i d ∷ drop (i + 1) all = drop_more all i d h in
    let P : List Stretch → Type 0 = λ rest. AreInOrder from to rest in
    let p : AreInOrder from to (get_or all i d ∷ drop (i + 1) all) = subst P e o in
    let none : before end (get_or all i d ∷ drop (i + 1) all) ≡ [] =
    nothing-before end (get_or all i d).start to (get_or all i d ∷ drop (i + 1) all) past (omega arith, p.1, p.2) in
    ap (λ (rest : List Stretch). between start end rest) e ∙ ap (λ (rest : List Stretch). behind start rest) none
