-- WHAT FOLLOWS of pacing over time (RFC 9002, 7.7).
use Rattle.std.specs.Prelude.{◌≡◌, ℕ, ◌+◌, ◌-◌, ◌*◌, ◌^◌, ◌<◌, ◌≤◌, max, Bool, false, nat_le, if◌then◌else◌, List, [], ◌∷◌, Some, None}
use Rattle.tcp_pacing.specs.declared.pace.Pace.{Pace}
use Rattle.tcp_pacing.specs.Pace.{cwnd_of, interval, period, portion, rate_bytes, rate_time, smss_of, srtt_of}
use Rattle.tcp_pacing.specs.Pacer.{Pacing, after_asked, after_set, after_went, allowed, poll_at, unbounded, with_held}

-- at a time is asked how much may go out; so many bytes go out at a time; text waits or not
pub data Happening : Type 0 where
  Asked : ℕ → Pace → Happening
  Went : ℕ → ℕ → Happening
  Held : Bool → Happening

-- these happened one after another, the newest of which comes first
abbrev pub pacing_after : Pacing → List Happening → Pacing
pacing_after p [] = p
pacing_after p (Asked now pace ∷ earlier) = after_asked (pacing_after p earlier) now pace
pacing_after p (Went now count ∷ earlier) = after_went (pacing_after p earlier) count
pacing_after p (Held is_held ∷ earlier) = with_held (pacing_after p earlier) is_held

-- OFF: nothing waits, and there is no time to wait for
pub record IsFree (p : Pacing) : Type 0 where
  pub bytes : (now : ℕ) (pace : Pace) → allowed p now pace ≡ unbounded
  pub waits : poll_at p ≡ None

abbrev pub OffNeverWaits : Type 0
OffNeverWaits = (p : Pacing) (happened : List Happening) → IsFree (pacing_after (after_set p false) happened)

-- ---- NO FASTER THAN THE RATE. A bound: so many bytes in so long, and in a portion
pub record Bound : Type 0 where
  pub bytes : ℕ
  pub time : ℕ
  pub portion : ℕ

-- a pace's rate and portion are no greater
pub record IsWithin (b : Bound) (pace : Pace) : Type 0 where
  pub measured : 0 < pace.srtt
  pub rate : rate_bytes pace * b.time ≤ b.bytes * rate_time pace
  pub portion : portion pace ≤ b.portion

abbrev pub last_time : List Happening → ℕ
last_time [] = 0
last_time (Asked now pace ∷ earlier) = now
last_time (Went now count ∷ earlier) = now
last_time (Held is_held ∷ earlier) = last_time earlier

-- time doesn't go back, each pace is within the bound, and no more goes out than what is left of the portion
abbrev pub IsPaced : Bound → Pacing → List Happening → Type 0
IsPaced b p [] = p.left ≤ b.portion
IsPaced b p (Asked now pace ∷ earlier) = (last_time earlier ≤ now) × IsWithin b pace × IsPaced b p earlier
IsPaced b p (Went now count ∷ earlier) = (last_time earlier ≤ now) × (count ≤ (pacing_after p earlier).left) × IsPaced b p earlier
IsPaced b p (Held is_held ∷ earlier) = IsPaced b p earlier

-- what went out from one time to another
abbrev pub is_between : ℕ → ℕ → ℕ → Bool
is_between from to now = if nat_le from now then nat_le now to else false

abbrev pub sent_between : ℕ → ℕ → List Happening → ℕ
sent_between from to [] = 0
sent_between from to (Asked now pace ∷ earlier) = sent_between from to earlier
sent_between from to (Went now count ∷ earlier) =
    if is_between from to now then count + sent_between from to earlier else sent_between from to earlier
sent_between from to (Held is_held ∷ earlier) = sent_between from to earlier

-- is what the rate lets out in that span, and two portions, at most: the rest of the one that began before it, and one at once
abbrev pub NoFasterThanTheRate : Type 0
NoFasterThanTheRate =
    (b : Bound) (p : Pacing) (from to : ℕ) (happened : List Happening) → IsPaced b p happened → from ≤ to → to < 2 ^ 63
    → b.time * sent_between from to happened ≤ b.bytes * (to - from) + 2 * (b.time * b.portion)

-- ---- A WINDOW GOES IN A ROUND TRIP, at least, by portions that follow one another: portion / interval is no less than cwnd / srtt
abbrev pub AWindowGoesInARoundTrip : Type 0
AWindowGoesInARoundTrip = (pace : Pace) → cwnd_of pace * interval pace ≤ srtt_of pace * portion pace

-- ---- WHAT WAITS GOES ON: at its time two segments may go out, and that comes within two round trips, or a millisecond
pub record GoesOn (p : Pacing) : Type 0 where
  pub goes : (at now : ℕ) (pace : Pace) → poll_at p ≡ Some at → at ≤ now → 2 * smss_of pace ≤ allowed p now pace
  pub soon : (now : ℕ) (pace : Pace) → (after_asked p now pace).next_at ≤ max p.next_at (now + max period (2 * srtt_of pace))

abbrev pub HeldTextGoes : Type 0
HeldTextGoes = (p : Pacing) → GoesOn p
