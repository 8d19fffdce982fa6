-- The deadline is when the next one is lost.
use Rattle.std.proofs.Common.{◌≡◌, ℕ, ◌+◌, ◌<◌, ◌≤◌, inl, inr, Bool, true, false, List, [], ◌∷◌, Option, Some, None, arith, refl}
use Rattle.std.specs.Prelude.{◌⊎◌, ◌&&◌, IsSome, min, nat_le, if◌then◌else◌}
use Rattle.std.proofs.lemmas.Bool.Decides.{nat_tests}
use Rattle.tcp_recovery.specs.declared.stretch.Stretch.{Stretch}
use Rattle.tcp_recovery.specs.declared.delivered.Delivered.{Delivered}
use Rattle.tcp_recovery.specs.Delivered.{greatest}
use Rattle.tcp_recovery.specs.Rack.{deadline_of, due_of, is_overtaken, lost_in, sooner}
use Rattle.tcp_recovery.specs.Laws.{DeadlinesAreLosses}

-- a time has come, or is to come, where there is one
abbrev IsBy : Option ℕ → ℕ → Type 0
IsBy None now = ⊥
IsBy (Some time) now = time ≤ now

abbrev IsAfter : Option ℕ → ℕ → Type 0
IsAfter None now = Unit {0}
IsAfter (Some time) now = now < time

-- the sooner of two
after-both : (at time : Option ℕ) (now : ℕ) → IsAfter (sooner at time) now → IsAfter at now × IsAfter time now
after-both None time now h = (tt, h)
after-both (Some at) None now h = (h, tt)
after-both (Some at) (Some time) now h = (omega (arith, h), omega (arith, h))

by-either : (at time : Option ℕ) (now : ℕ) → IsBy (sooner at time) now → IsBy at now ⊎ IsBy time now
by-either None time now h = inr h
by-either (Some at) None now h = inl h
by-either (Some at) (Some time) now h = by (nat_le at now) refl
  where
    by : (b : Bool) → nat_le at now ≡ b → (at ≤ now) ⊎ (time ≤ now)
    by true e = inl (grind (arith, nat_tests, e))
    by false e = let past : now < at = grind (arith, nat_tests, e) in inr (omega (arith, past, h))

-- before it nothing is lost
early-step : (d : Delivered) (window now : ℕ) (s : Stretch) (later : List Stretch) (a b : Bool) → nat_le (s.last + d.rtt + window) now ≡ b
    → IsAfter (if a then Some (min greatest (s.last + d.rtt + window)) else None) now → lost_in d window now later ≡ None
    → (if a && b then Some (s.start, s.end) else lost_in d window now later) ≡ None
early-step d window now s later true true e h rest =
    let past : s.last + d.rtt + window ≤ now = grind (arith, nat_tests, e) in
    absurd (omega (arith, past, h))
early-step d window now s later true false e h rest = rest
early-step d window now s later false b e h rest = rest

early : (d : Delivered) (window now : ℕ) (all : List Stretch) → IsAfter (deadline_of d window all) now → lost_in d window now all ≡ None
early d window now [] h = refl
early d window now (s ∷ later) h =
    let both = after-both (due_of d window s) (deadline_of d window later) now h in
    early-step d window now s later (is_overtaken d s) (nat_le (s.last + d.rtt + window) now) refl (both.0) (early d window now later (both.1))

-- from it on something is
due-step : (d : Delivered) (window now : ℕ) (s : Stretch) (later : List Stretch) (a b : Bool) → nat_le (s.last + d.rtt + window) now ≡ b
    → now < greatest → IsBy (if a then Some (min greatest (s.last + d.rtt + window)) else None) now ⊎ IsSome (lost_in d window now later)
    → IsSome (if a && b then Some (s.start, s.end) else lost_in d window now later)
due-step d window now s later true true e fits h = refl
due-step d window now s later true false e fits (inl h) =
    let past : now < s.last + d.rtt + window = grind (arith, nat_tests, e) in
    absurd (omega (arith, past, h, fits))
due-step d window now s later true false e fits (inr found) = found
due-step d window now s later false b e fits (inl h) = absurd h
due-step d window now s later false b e fits (inr found) = found

due : (d : Delivered) (window now : ℕ) (all : List Stretch) → now < greatest → IsBy (deadline_of d window all) now → IsSome (lost_in d window now all)
due d window now [] fits h = absurd h
due d window now (s ∷ later) fits h =
    due-step d window now s later (is_overtaken d s) (nat_le (s.last + d.rtt + window) now) refl fits
    (by (λ rest. due d window now later fits rest) (by-either (due_of d window s) (deadline_of d window later) now h))
  where
    by : (IsBy (deadline_of d window later) now → IsSome (lost_in d window now later)) → IsBy (due_of d window s) now ⊎ IsBy (deadline_of d window later) now
        → IsBy (due_of d window s) now ⊎ IsSome (lost_in d window now later)
    by some (inl one) = inl one
    by some (inr rest) = inr (some rest)

is-after : (at : Option ℕ) (time now : ℕ) → at ≡ Some time → now < time → IsAfter at now
is-after None time now e h = tt
is-after (Some at) time now e h = let same : at ≡ time = cc in omega (arith, same, h)

is-by : (at : Option ℕ) (time now : ℕ) → at ≡ Some time → time ≤ now → IsBy at now
is-by None time now e h = absurd (cc)
is-by (Some at) time now e h = let same : at ≡ time = cc in omega (arith, same, h)

is-never : (at : Option ℕ) (now : ℕ) → at ≡ None → IsAfter at now
is-never None now e = tt
is-never (Some at) now e = absurd (cc)

pub deadline_lem : DeadlinesAreLosses
deadline_lem d window now all = record {
  before = λ time e h. early d window now all (is-after (deadline_of d window all) time now e h);
  due = λ time e h fits. due d window now all fits (is-by (deadline_of d window all) time now e h);
  none = λ e. early d window now all (is-never (deadline_of d window all) now e);
}
