-- A driver whose deadline has come has a timer that expires.
use Rattle.std.proofs.Common.{◌≡◌, ℕ, ◌<◌, ◌≤◌, Bool, true, false, ◌⊎◌, inl, inr, Option, Some, None, refl, ap, arith}
use Rattle.std.proofs.lemmas.Bool.{cases_lt}
use Rattle.std.proofs.lemmas.Bool.Decides.{nat_tests}
use Rattle.std.specs.Prelude.{IfSome, is_some, ◌||◌, if◌then◌else◌, min}
use Rattle.tcp_driver.specs.declared.machine.Timer.{Timer}
use Rattle.tcp_driver.specs.declared.machine.Timer.TheVariants.{Retransmit, Reorder, TimeWait, User}
use Rattle.tcp_driver.specs.Deadlines.{earlier, last, no_later}
use Rattle.tcp_driver.specs.Driver.{Driving, at}
use Rattle.tcp_driver.specs.Machine.{Machine}
use Rattle.tcp_driver.specs.Times.{expiring, next_expiry, user_deadline}
use Rattle.tcp_host.specs.Hosting.{ToldDriversExpire}

-- a time has come
record Comes (o : Option ℕ) (now : ℕ) : Type 0 where
  time : ℕ
  is : o ≡ Some time
  by-now : time ≤ now

-- of the earlier of two the one or the other
or-other : (a b : Option ℕ) (now : ℕ) → Comes (earlier a b) now → (no_later a now ≡ true) ⊎ Comes b now
or-other None b now c = inr c
or-other (Some a) None now c = let e : a ≡ c.time = cc (c.is) in inl (grind (arith, nat_tests, e, c.by-now))
or-other (Some a) (Some b) now c = by (cases_lt now a)
  where
    least : min a b ≡ c.time
    least = cc (c.is)

    by : (now < a) ⊎ (a ≤ now) → (no_later (Some a) now ≡ true) ⊎ Comes (Some b) now
    by (inl late) = inr (record { time = b; is = refl; by-now = omega (arith, late, least, c.by-now) })
    by (inr soon) = inl (grind (arith, nat_tests, soon))

next : (a rest : Option ℕ) (x : Timer) (y : Option Timer) (now : ℕ) → Comes (earlier a rest) now
    → (Comes rest now → is_some y ≡ true) → is_some (if no_later a now then Some x else y) ≡ true
next a rest x y now c on = by (or-other a rest now c)
  where
    by : (no_later a now ≡ true) ⊎ Comes rest now → is_some (if no_later a now then Some x else y) ≡ true
    by (inl e) = ap (λ b. is_some (if b then Some x else y)) e
    by (inr more) = other (no_later a now)
      where
        other : (b : Bool) → is_some (if b then Some x else y) ≡ true
        other true = refl
        other false = on more

final : (a : Option ℕ) (x : Timer) (now : ℕ) → Comes a now → is_some (if no_later a now then Some x else None) ≡ true
final None x now c = absurd (cc (c.is))
final (Some a) x now c =
    let e : a ≡ c.time = cc (c.is) in
    let come : no_later (Some a) now ≡ true = grind (arith, nat_tests, e, c.by-now) in
    ap (λ b. is_some (if b then Some x else None)) come

module _ {S : Type 0} (m : Machine S) where
  expires : (d : Driving S) (time now : ℕ) → next_expiry d.times ≡ Some time → time ≤ min last now
      → is_some (expiring d.times (at d now)) ≡ true
  expires d time now is come =
      let t = d.times in
      let n = at d now in
      next (user_deadline t) (earlier t.deadlines.retransmit (earlier t.deadlines.reorder t.deadlines.time_wait)) User _ n
      (record { time = time; is = is; by-now = omega (arith, come) })
      (λ c. next t.deadlines.retransmit (earlier t.deadlines.reorder t.deadlines.time_wait) Retransmit _ n c
      (λ d. next t.deadlines.reorder t.deadlines.time_wait Reorder _ n d (final t.deadlines.time_wait TimeWait n)))

  pub told_drivers_expire : ToldDriversExpire m
  told_drivers_expire guest now = by guest.is_woken guest.end.times.bursting
    where
      one : (next : Option ℕ) → next_expiry guest.end.times ≡ next
          → IfSome next (λ time. time ≤ min last now → is_some (expiring guest.end.times (at guest.end now)) ≡ true)
      one None e = tt
      one (Some time) e = expires guest.end time now e

      by : (w b : Bool)
          → IfSome (if w || b then None else next_expiry guest.end.times)
          (λ time. time ≤ min last now → is_some (if b then None else expiring guest.end.times (at guest.end now)) ≡ true)
      by true b = tt
      by false true = tt
      by false false = one (next_expiry guest.end.times) refl
