-- Which way a test went.
use Rattle.std.specs.Prelude.{Bool, true, false, ◌||◌, if◌then◌else◌, Some, None}
use Rattle.std.proofs.Common.{◌≡◌, refl}

pub pick_true : {A : Type 0} (test : Bool) (x y : A) → test ≡ true → (if test then x else y) ≡ x
pick_true true x y is = refl
pick_true false x y is = absurd cc

pub pick_false : {A : Type 0} (test : Bool) (x y : A) → test ≡ false → (if test then x else y) ≡ y
pick_false true x y is = absurd cc
pick_false false x y is = refl

pub or_true : (a b : Bool) → a ≡ true → (a || b) ≡ true
or_true true b is = refl
or_true false b is = absurd cc

pub or_false : (a b : Bool) → (a || b) ≡ false → (a ≡ false) × (b ≡ false)
or_false true b is = absurd cc
or_false false b is = (refl, is)

pub either_false : (a b : Bool) → a ≡ false → b ≡ false → (a || b) ≡ false
either_false true b first second = absurd cc
either_false false b first second = second

pub either_true : (a b : Bool) → b ≡ true → (a || b) ≡ true
either_true true b is = refl
either_true false b is = is

pub guard_some : {A : Type 0} (test : Bool) (x y : A) → (if test then None else Some x) ≡ Some y → (test ≡ false) × (x ≡ y)
guard_some true x y is = absurd cc
guard_some false x y is = (refl, cc)

pub guard_none : {A : Type 0} (test : Bool) (x : A) → (if test then None else Some x) ≡ None → test ≡ true
guard_none true x is = refl
guard_none false x is = absurd cc

pub some_guard : {A : Type 0} (test : Bool) (x y : A) → (if test then Some x else None) ≡ Some y → (test ≡ true) × (x ≡ y)
some_guard true x y is = (refl, cc)
some_guard false x y is = absurd cc
