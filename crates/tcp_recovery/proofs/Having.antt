-- A number that is in a stretch stays in one, whatever is done with the stretches.
use Rattle.std.proofs.Common.{◌≡◌, ℕ, ◌<◌, ◌≤◌, inl, inr, Bool, true, false, List, [], ◌∷◌, ◌++◌, length, arith, refl}
use Rattle.std.specs.Prelude.{◌⊎◌, ◌||◌, ◌==◌, min, max, nat_lt, nat_le, if◌then◌else◌}
use Rattle.std.proofs.lemmas.Bool.Decides.{nat_tests}
use Rattle.tcp_recovery.specs.declared.stretch.Stretch.{Stretch}
use Rattle.tcp_recovery.specs.Stretches.{AreInOrder, appended, before, behind, cut_out, distance, extends, fitted, followed_by, joined, least_distance, max_stretches, segment, thinned, with_joined, without}
use Rattle.tcp_recovery.specs.History.{IsIn, IsOut}

-- a number that was sent last at a time is in a stretch, whose times lie around that; and where the stretch was never
-- sent again, neither was the number, as `once` says
pub record HasAt (number at : ℕ) (once : Type 0) (s : Stretch) : Type 0 where
  pub within : IsIn number s.start s.end
  pub first : s.first ≤ at
  pub last : at ≤ s.last
  pub single : s.is_again ≡ false → once

abbrev pub Has : ℕ → ℕ → Type 0 → List Stretch → Type 0
Has number at once [] = ⊥
Has number at once (s ∷ later) = HasAt number at once s ⊎ Has number at once later

pub had : (p at : ℕ) (o q : Type 0) (all : List Stretch) → (o → q) → Has p at o all → Has p at q all
had p at o q [] f h = h
had p at o q (s ∷ later) f (inl h) = inl (record { within = h.within; first = h.first; last = h.last; single = λ e. f (h.single e) })
had p at o q (s ∷ later) f (inr h) = inr (had p at o q later f h)

has-left : (p at : ℕ) (o : Type 0) (all more : List Stretch) → Has p at o all → Has p at o (all ++ more)
has-left p at o [] more h = absurd h
has-left p at o (s ∷ later) more (inl h) = inl h
has-left p at o (s ∷ later) more (inr h) = inr (has-left p at o later more h)

has-right : (p at : ℕ) (o : Type 0) (all more : List Stretch) → Has p at o more → Has p at o (all ++ more)
has-right p at o [] more h = h
has-right p at o (s ∷ later) more h = inr (has-right p at o later more h)

before-here : (p at x : ℕ) (o : Type 0) (s : Stretch) (later : List Stretch) (b : Bool) → nat_lt s.start x ≡ b → p < x → HasAt p at o s
    → Has p at o (if b then record s { end = min s.end x } ∷ before x later else before x later)
before-here p at x o s later true e below h =
    let start : s.start ≤ p = h.within.0 in
    let end : p < s.end = h.within.1 in
    inl (record { within = (start, omega (arith, end, below)); first = h.first; last = h.last; single = h.single })
before-here p at x o s later false e below h =
    let start : s.start ≤ p = h.within.0 in
    absurd (grind (arith, nat_tests, e, start, below))

before-later : (p at x : ℕ) (o : Type 0) (s : Stretch) (later : List Stretch) (b : Bool) → Has p at o (before x later)
    → Has p at o (if b then record s { end = min s.end x } ∷ before x later else before x later)
before-later p at x o s later true h = inr h
before-later p at x o s later false h = h

has-before : (p at x : ℕ) (o : Type 0) (all : List Stretch) → p < x → Has p at o all → Has p at o (before x all)
has-before p at x o [] below h = h
has-before p at x o (s ∷ later) below (inl h) = before-here p at x o s later (nat_lt s.start x) refl below h
has-before p at x o (s ∷ later) below (inr h) = before-later p at x o s later (nat_lt s.start x) (has-before p at x o later below h)

behind-here : (p at x : ℕ) (o : Type 0) (s : Stretch) (later : List Stretch) (b : Bool) → nat_lt x s.end ≡ b → x ≤ p → HasAt p at o s
    → Has p at o (if b then record s { start = max s.start x } ∷ behind x later else behind x later)
behind-here p at x o s later true e above h =
    let start : s.start ≤ p = h.within.0 in
    let end : p < s.end = h.within.1 in
    inl (record { within = (omega (arith, start, above), end); first = h.first; last = h.last; single = h.single })
behind-here p at x o s later false e above h =
    let end : p < s.end = h.within.1 in
    absurd (grind (arith, nat_tests, e, end, above))

behind-later : (p at x : ℕ) (o : Type 0) (s : Stretch) (later : List Stretch) (b : Bool) → Has p at o (behind x later)
    → Has p at o (if b then record s { start = max s.start x } ∷ behind x later else behind x later)
behind-later p at x o s later true h = inr h
behind-later p at x o s later false h = h

has-behind : (p at x : ℕ) (o : Type 0) (all : List Stretch) → x ≤ p → Has p at o all → Has p at o (behind x all)
has-behind p at x o [] above h = h
has-behind p at x o (s ∷ later) above (inl h) = behind-here p at x o s later (nat_lt x s.end) refl above h
has-behind p at x o (s ∷ later) above (inr h) = behind-later p at x o s later (nat_lt x s.end) (has-behind p at x o later above h)

pub has-without : (p at start end : ℕ) (o : Type 0) (all : List Stretch) → IsOut p start end → Has p at o all → Has p at o (without start end all)
has-without p at start end o all (inl below) h = has-left p at o (before start all) (behind end all) (has-before p at start o all below h)
has-without p at start end o all (inr above) h = has-right p at o (before start all) (behind end all) (has-behind p at end o all above h)

pub has-cut : (p at start end now : ℕ) (o : Type 0) (all : List Stretch) → IsOut p start end → Has p at o all
    → Has p at o (cut_out start end now all)
has-cut p at start end now o all (inl below) h =
    has-left p at o (before start all) (segment start end now true ∷ behind end all) (has-before p at start o all below h)
has-cut p at start end now o all (inr above) h =
    has-right p at o (before start all) (segment start end now true ∷ behind end all) (inr (has-behind p at end o all above h))

pub cut-has : (p start end now : ℕ) (o : Type 0) (all : List Stretch) → IsIn p start end → Has p now o (cut_out start end now all)
cut-has p start end now o all within =
    has-right p now o (before start all) (segment start end now true ∷ behind end all)
    (inl (record { within = within; first = omega arith; last = omega arith; single = λ e. absurd (cc) }))

-- ---- new text
extended-has : (p at start end now : ℕ) (o : Type 0) (s : Stretch) (b : Bool) → s.end ≤ end → HasAt p at o s
    → Has p at o (if b then followed_by s end now ∷ [] else s ∷ segment start end now false ∷ [])
extended-has p at start end now o s true more h =
    let first : s.first ≤ at = h.first in
    let last : at ≤ s.last = h.last in
    let below : p < s.end = h.within.1 in
    inl (record { within = (h.within.0, omega (arith, below, more)); first = omega (arith, first); last = omega (arith, last); single = h.single })
extended-has p at start end now o s false more h = inl h

pub has-appended : (p at from mid start end now span : ℕ) (o : Type 0) (all : List Stretch) → mid ≤ start → start < end → AreInOrder from mid all
    → Has p at o all → Has p at o (appended start end now span all)
has-appended p at from mid start end now span o [] m some order h = absurd h
has-appended p at from mid start end now span o (s ∷ []) m some order (inl h) =
    let last : s.end ≤ mid = order.2 in
    extended-has p at start end now o s (extends s start now span) (omega (arith, last, m, some)) h
has-appended p at from mid start end now span o (s ∷ []) m some order (inr h) = absurd h
has-appended p at from mid start end now span o (s ∷ next ∷ later) m some order (inl h) = inl h
has-appended p at from mid start end now span o (s ∷ next ∷ later) m some order (inr h) =
    inr (has-appended p at s.end mid start end now span o (next ∷ later) m some (order.2) h)

new-has : (p start end now : ℕ) (o : Type 0) → IsIn p start end → o → HasAt p now o (segment start end now false)
new-has p start end now o within once = record { within = within; first = omega arith; last = omega arith; single = λ e. once }

new-extends : (p start end now span : ℕ) (o : Type 0) (s : Stretch) (b : Bool) → s.start ≤ start → IsIn p start end → o
    → Has p now o (if b then followed_by s end now ∷ [] else s ∷ segment start end now false ∷ [])
new-extends p start end now span o s true l within once =
    let least : start ≤ p = within.0 in
    inl (record { within = (omega (arith, l, least), within.1); first = omega arith; last = omega arith; single = λ e. once })
new-extends p start end now span o s false l within once = inr (inl (new-has p start end now o within once))

pub appended-has : (p from mid start end now span : ℕ) (o : Type 0) (all : List Stretch) → mid ≤ start → AreInOrder from mid all → IsIn p start end → o
    → Has p now o (appended start end now span all)
appended-has p from mid start end now span o [] m order within once = inl (new-has p start end now o within once)
appended-has p from mid start end now span o (s ∷ []) m order within once =
    let some : s.start < s.end = order.1 in
    let last : s.end ≤ mid = order.2 in
    new-extends p start end now span o s (extends s start now span) (omega (arith, some, last, m)) within once
appended-has p from mid start end now span o (s ∷ next ∷ later) m order within once =
    inr (appended-has p s.end mid start end now span o (next ∷ later) m (order.2) within once)

-- ---- joined
touched : (b : Bool) (x y at : ℕ) → x ≤ at → (if b then min x y else 0) ≤ at
touched true x y at h = omega arith
touched false x y at h = omega arith

touched-next : (b : Bool) (x y at : ℕ) → y ≤ at → (if b then min x y else 0) ≤ at
touched-next true x y at h = omega arith
touched-next false x y at h = omega arith

neither : (a b : Bool) → (a || b) ≡ false → (a ≡ false) × (b ≡ false)
neither true b e = absurd (cc)
neither false b e = (refl, e)

joined-here : (p at : ℕ) (o : Type 0) (s next : Stretch) → s.end ≤ next.start → next.start < next.end → HasAt p at o s → HasAt p at o (joined s next)
joined-here p at o s next m some h =
    let below : p < s.end = h.within.1 in
    let last : at ≤ s.last = h.last in
    record {
      within = (h.within.0, omega (arith, below, m, some));
      first = touched (s.end == next.start) s.first next.first at h.first;
      last = omega (arith, last);
      single = λ e. h.single ((neither s.is_again next.is_again e).0);
    }

joined-next : (p at : ℕ) (o : Type 0) (s next : Stretch) → s.start < s.end → s.end ≤ next.start → HasAt p at o next → HasAt p at o (joined s next)
joined-next p at o s next some m h =
    let above : next.start ≤ p = h.within.0 in
    let last : at ≤ next.last = h.last in
    record {
      within = (omega (arith, above, m, some), h.within.1);
      first = touched-next (s.end == next.start) s.first next.first at h.first;
      last = omega (arith, last);
      single = λ e. h.single ((neither s.is_again next.is_again e).1);
    }

joined-by : (p at from to least : ℕ) (o : Type 0) (s next : Stretch) (later : List Stretch) (b : Bool) → AreInOrder from to (s ∷ next ∷ later)
    → Has p at o (s ∷ next ∷ later) → (Has p at o (next ∷ later) → Has p at o (with_joined least (next ∷ later)))
    → Has p at o (if b then joined s next ∷ later else s ∷ with_joined least (next ∷ later))
joined-by p at from to least o s next later true order (inl h) rest = inl (joined-here p at o s next (order.2.0) (order.2.1) h)
joined-by p at from to least o s next later true order (inr (inl h)) rest = inl (joined-next p at o s next (order.1) (order.2.0) h)
joined-by p at from to least o s next later true order (inr (inr h)) rest = inr h
joined-by p at from to least o s next later false order (inl h) rest = inl h
joined-by p at from to least o s next later false order (inr h) rest = inr (rest h)

has-joined : (p at from to least : ℕ) (o : Type 0) (all : List Stretch) → AreInOrder from to all → Has p at o all → Has p at o (with_joined least all)
has-joined p at from to least o [] order h = h
has-joined p at from to least o (s ∷ []) order h = h
has-joined p at from to least o (s ∷ next ∷ later) order h =
    joined-by p at from to least o s next later (nat_le (distance s next) least) order h (has-joined p at s.end to least o (next ∷ later) (order.2))

has-thinned : (p at from to : ℕ) (o : Type 0) (all : List Stretch) → AreInOrder from to all → Has p at o all → Has p at o (thinned all)
has-thinned p at from to o [] order h = h
has-thinned p at from to o (s ∷ []) order h = h
has-thinned p at from to o (s ∷ next ∷ later) order h =
    has-joined p at from to (least_distance (distance s next) (next ∷ later)) o (s ∷ next ∷ later) order h

fitted-by : (p at from to : ℕ) (o : Type 0) (all : List Stretch) (b : Bool) → AreInOrder from to all → Has p at o all
    → Has p at o (if b then thinned all else all)
fitted-by p at from to o all true order h = has-thinned p at from to o all order h
fitted-by p at from to o all false order h = h

pub has-fitted : (p at from to : ℕ) (o : Type 0) (all : List Stretch) → AreInOrder from to all → Has p at o all → Has p at o (fitted all)
has-fitted p at from to o all order h = fitted-by p at from to o all (nat_lt max_stretches (length all)) order h
