-- A burst is whole, whatever is called.
use Rattle.std.proofs.Common.{◌≡◌, ℕ, Bool, true, false, List, [], ◌∷◌, Option, None, refl, ap, ◌∙◌}
use Rattle.std.specs.Prelude.{◌||◌, if◌then◌else◌}
use Rattle.tcp_driver.specs.declared.machine.Timer.{Timer}
use Rattle.tcp_driver.specs.declared.machine.Timer.TheVariants.{Retransmit, Reorder, TimeWait, User}
use Rattle.tcp_driver.specs.Machine.{Machine}
use Rattle.tcp_driver.specs.Times.{expiring}
use Rattle.tcp_driver.specs.Driver.{Driving, after_taken, after_time_by, at, expired, is_withheld, way_of}
use Rattle.tcp_driver.specs.Calls.{Call, Arrives, Emits, Expires, Uses, SetsPatience, SetsUserTimeout, after_call, after_calls, in_burst, all_in_burst, StaysBursting, BurstIsWhole}

-- in a burst nothing is taken
arrives : {S : Type 0} (d other : Driving S) (b withheld : Bool) → b ≡ true → (if b || withheld then d else other).core ≡ d.core
arrives d other true withheld e = refl
arrives d other false withheld e = absurd (cc)

-- and nothing expires
expires : {S : Type 0} (m : Machine S) (d : Driving S) (some : Option Timer) (now : ℕ) (b : Bool) → b ≡ true
    → (after_time_by m d (if b then None else some) now).core ≡ d.core
expires m d some now true e = refl
expires m d some now false e = absurd (cc)

-- so a call does to the end what it does in a burst
step : {S : Type 0} (m : Machine S) (d : Driving S) (call : Call S) → d.times.bursting ≡ true → (after_call m d call).core ≡ in_burst m call d.core
step m d (Arrives now src dst bytes vouched) on = arrives d (after_taken m d (at d now) src dst bytes (way_of d vouched)) d.times.bursting (is_withheld m d.core bytes) on
step m d (Emits now window) on = refl
step m d (Expires now) on = expires m d (expiring d.times (at d now)) (at d now) d.times.bursting on
step m d (Uses now does) on = refl
step m d (SetsUserTimeout limit) on = refl
step m d (SetsPatience patient) on = refl

on-before : {S : Type 0} (m : Machine S) (d : Driving S) (calls : List (Call S)) → d.times.bursting ≡ true → StaysBursting m d calls
    → (after_calls m d calls).times.bursting ≡ true
on-before m d [] on stays = on
on-before m d (call ∷ earlier) on stays = stays.0

whole : {S : Type 0} (m : Machine S) (d : Driving S) (calls : List (Call S)) → d.times.bursting ≡ true → StaysBursting m d calls
    → (after_calls m d calls).core ≡ all_in_burst m calls d.core
whole m d [] on stays = refl
whole m d (call ∷ earlier) on stays =
    step m (after_calls m d earlier) call (on-before m d earlier on (stays.1)) ∙ ap (in_burst m call) (whole m d earlier on (stays.1))

-- an expiry begins a burst, of whichever timer
begins : {S : Type 0} (m : Machine S) (d : Driving S) (timer : Timer) (now : ℕ) → (expired m d timer now).times.bursting ≡ true
begins m d Retransmit now = refl
begins m d Reorder now = refl
begins m d TimeWait now = refl
begins m d User now = refl

pub burst_lem : {S : Type 0} (m : Machine S) → BurstIsWhole m
burst_lem m d timer now calls stays = whole m (expired m d timer now) calls (begins m d timer now) stays
