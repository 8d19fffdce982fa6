-- What is off never waits, and what waits goes on.
use Rattle.std.proofs.Common.{◌≡◌, ℕ, ◌+◌, ◌*◌, ◌≤◌, Bool, true, false, List, [], ◌∷◌, Option, Some, None, arith, refl, ap, subst, sym, ◌∙◌}
use Rattle.std.specs.Prelude.{max, nat_le, nat_lt, if◌then◌else◌, unwrap_or}
use Rattle.std.proofs.lemmas.Bool.{leb-false}
use Rattle.tcp_pacing.specs.declared.pace.Pace.{Pace}
use Rattle.tcp_pacing.specs.Pace.{period, portion, smss_of, srtt_of}
use Rattle.tcp_pacing.specs.Pacer.{Pacing, after_asked, after_set, begins, is_paced, unbounded, with_portion}
use Rattle.tcp_pacing.specs.Spread.{Happening, Asked, Went, Held, pacing_after, OffNeverWaits, HeldTextGoes}
use Rattle.tcp_pacing.proofs.Rates.{soon, two_segments}

-- ---- OFF
asked-on : (p : Pacing) (now : ℕ) (pace : Pace) (b : Bool) → (if b then with_portion p now pace else p).is_on ≡ p.is_on
asked-on p now pace true = refl
asked-on p now pace false = refl

stays-off : (p : Pacing) (happened : List Happening) → (pacing_after (after_set p false) happened).is_on ≡ false
stays-off p [] = refl
stays-off p (Asked now pace ∷ earlier) =
    let q = pacing_after (after_set p false) earlier in
    asked-on q now pace (begins q now pace) ∙ stays-off p earlier
stays-off p (Went now count ∷ earlier) = stays-off p earlier
stays-off p (Held is_held ∷ earlier) = stays-off p earlier

free : (p : Pacing) (now : ℕ) (pace : Pace) (on : Bool) → on ≡ false
    → (if (if on then nat_lt 0 pace.srtt else false) then (after_asked p now pace).left else unbounded) ≡ unbounded
free p now pace true e = absurd (cc)
free p now pace false e = refl

unasked : (p : Pacing) (on : Bool) → on ≡ false → (if on then (if p.is_held then Some p.next_at else None) else None) ≡ None
unasked p true e = absurd (cc)
unasked p false e = refl

pub off_lem : OffNeverWaits
off_lem p happened =
    let q = pacing_after (after_set p false) happened in
    let off = stays-off p happened in
    record { bytes = λ now pace. free q now pace q.is_on off; waits = unasked q q.is_on off }

-- ---- WHAT WAITS
abbrev IsDue : Bool → Bool → ℕ → ℕ → Type 0
IsDue on held next at = (if on then (if held then Some next else None) else None) ≡ Some at

due : (on held : Bool) (next at : ℕ) → IsDue on held next at → next ≡ at
due true true next at e = ap (λ (o : Option ℕ). unwrap_or o 0) e
due true false next at e = absurd (cc)
due false held next at e = absurd (cc)

begun : (p : Pacing) (now : ℕ) (pace : Pace) (b : Bool) → b ≡ true → (if b then with_portion p now pace else p).left ≡ portion pace
begun p now pace true e = refl
begun p now pace false e = absurd (cc)

timely : (next now : ℕ) (b : Bool) → nat_le next now ≡ b → next ≤ now → b ≡ true
timely next now true e h = refl
timely next now false e h = absurd (omega (arith, leb-false next now e, h))

allowed-by : (p : Pacing) (now : ℕ) (pace : Pace) (paced : Bool) → is_paced p pace ≡ paced → p.next_at ≤ now
    → 2 * smss_of pace ≤ (if paced then (after_asked p now pace).left else unbounded)
allowed-by p now pace false e h = omega arith
allowed-by p now pace true e h =
    let d : nat_le p.next_at now ≡ true = timely p.next_at now (nat_le p.next_at now) refl h in
    let b : begins p now pace ≡ true = ap (λ (x : Bool). if x then nat_le p.next_at now else false) e ∙ d in
    subst (λ (x : ℕ). 2 * smss_of pace ≤ x) (sym (begun p now pace (begins p now pace) b)) (two_segments pace)

soon-by : (p : Pacing) (now : ℕ) (pace : Pace) (b : Bool)
    → (if b then with_portion p now pace else p).next_at ≤ max p.next_at (now + max period (2 * srtt_of pace))
soon-by p now pace true = let h = soon pace in omega (arith, h)
soon-by p now pace false = omega arith

pub held_lem : HeldTextGoes
held_lem p = record {
  goes = λ at now pace e h.
      let d = due p.is_on p.is_held p.next_at at e in
      allowed-by p now pace (is_paced p pace) refl (omega (arith, d, h));
  soon = λ now pace. soon-by p now pace (begins p now pace);
}
