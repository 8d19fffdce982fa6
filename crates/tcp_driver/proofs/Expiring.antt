-- Where no deadline has come by now none expires.
use Rattle.std.proofs.Common.{◌≡◌, ℕ, Bool, true, false, nat_le, Option, Some, None, min, refl, arith}
use Rattle.std.specs.Prelude.{if◌then◌else◌}
use Rattle.tcp_driver.specs.declared.machine.Timer.{Timer}
use Rattle.tcp_driver.specs.declared.machine.Timer.TheVariants.{Retransmit, Reorder, TimeWait, User}
use Rattle.tcp_driver.specs.Deadlines.{earlier, no_later, soonest}
use Rattle.tcp_driver.specs.Times.{Times, expiring, expiry, next_expiry, user_deadline}

min-first : (a b n : ℕ) → nat_le (min a b) n ≡ false → nat_le a n ≡ false
min-first a b n e = grind (arith, e)

min-second : (a b n : ℕ) → nat_le (min a b) n ≡ false → nat_le b n ≡ false
min-second a b n e = grind (arith, e)

not-first : (a b : Option ℕ) (n : ℕ) → no_later (earlier a b) n ≡ false → no_later a n ≡ false
not-first None b n e = refl
not-first (Some a) None n e = e
not-first (Some a) (Some b) n e = min-first a b n e

not-second : (a b : Option ℕ) (n : ℕ) → no_later (earlier a b) n ≡ false → no_later b n ≡ false
not-second None b n e = e
not-second (Some a) None n e = refl
not-second (Some a) (Some b) n e = min-second a b n e

none-of : (user retransmit reorder time_wait : Bool) → user ≡ false → retransmit ≡ false → reorder ≡ false → time_wait ≡ false
    → (if user then Some User else (if retransmit then Some Retransmit else (if reorder then Some Reorder else (if time_wait then Some TimeWait else None)))) ≡ None
none-of false false false false a b c d = refl
none-of true retransmit reorder time_wait a b c d = absurd (cc (a))
none-of false true reorder time_wait a b c d = absurd (cc (b))
none-of false false true time_wait a b c d = absurd (cc (c))
none-of false false false true a b c d = absurd (cc (d))

not-bursting : (b : Bool) (o : Option Timer) → o ≡ None → (if b then None else o) ≡ None
not-bursting true o e = refl
not-bursting false o e = e

pub none_expires : (t : Times) (now : ℕ) → no_later (next_expiry t) now ≡ false → expiry t now ≡ None
none_expires t now e =
    let d = t.deadlines in
    let rest = not-second (user_deadline t) (soonest d) now e in
    let later = not-second d.retransmit (earlier d.reorder d.time_wait) now rest in
    not-bursting t.bursting (expiring t now)
    (none-of (no_later (user_deadline t) now) (no_later d.retransmit now) (no_later d.reorder now) (no_later d.time_wait now)
    (not-first (user_deadline t) (soonest d) now e) (not-first d.retransmit (earlier d.reorder d.time_wait) now rest)
    (not-first d.reorder d.time_wait now later) (not-second d.reorder d.time_wait now later))
