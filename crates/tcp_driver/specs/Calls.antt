-- Many calls of a driver, one after another.
use Rattle.std.specs.Prelude.{◌≡◌, ℕ, ◌+◌, ◌*◌, ◌<◌, ◌≤◌, Bool, true, false, not, ◌&&◌, ◌||◌, List, [], ◌∷◌, Option, Some, None, IfSome}
use Rattle.tcp_driver.specs.declared.machine.Sent.{Sent}
use Rattle.tcp_driver.specs.declared.machine.Timer.{Timer}
use Rattle.tcp_driver.specs.declared.machine.Timer.TheVariants.{Retransmit, User}
use Rattle.tcp_driver.specs.Times.{Times, expiry, next_expiry, opens, restarts}
use Rattle.tcp_driver.specs.Driver.{Driving, IsTimely, after_arrival, after_emission, after_patience, after_time, after_user, after_user_timeout, at, core_after, expired, is_withheld, sent_of, way_of}
use Rattle.tcp_driver.specs.Machine.{Machine}

-- each at a time, but the last; an arrival with its source and destination, and whether a device
-- has found its checksum right; a user's call with what the end is after it
pub data Call (S : Type 0) : Type 0 where
  Arrives : ℕ → List ℕ → List ℕ → List ℕ → Bool → Call S
  Emits : ℕ → ℕ → Call S
  Expires : ℕ → Call S
  Uses : ℕ → (S → S) → Call S
  SetsUserTimeout : Option ℕ → Call S
  SetsPatience : Bool → Call S

abbrev pub after_call : {S : Type 0} → Machine S → Driving S → Call S → Driving S
after_call m d (Arrives now src dst bytes vouched) = after_arrival m d (at d now) src dst bytes (way_of d vouched)
after_call m d (Emits now window) = after_emission m d (at d now) window
after_call m d (Expires now) = after_time m d (at d now)
after_call m d (Uses now does) = after_user m d (at d now) (does d.core)
after_call m d (SetsUserTimeout limit) = after_user_timeout d limit
after_call m d (SetsPatience patient) = after_patience d patient

-- THE NEWEST FIRST
abbrev pub after_calls : {S : Type 0} → Machine S → Driving S → List (Call S) → Driving S
after_calls m d [] = d
after_calls m d (call ∷ earlier) = after_call m (after_calls m d earlier) call

-- ---- A BURST. What a call does to the end in it: an emission what is due or the acknowledgement alone, a user's call what it is
-- for, and any other nothing
abbrev pub in_burst : {S : Type 0} → Machine S → Call S → S → S
in_burst m (Emits now window) s = core_after m s window
in_burst m (Uses now does) s = does s
in_burst m other s = s

abbrev pub all_in_burst : {S : Type 0} → Machine S → List (Call S) → S → S
all_in_burst m [] s = s
all_in_burst m (call ∷ earlier) s = in_burst m call (all_in_burst m earlier s)

-- after each of these calls something that was due at the expiry hasn't gone out
abbrev pub StaysBursting : {S : Type 0} → Machine S → Driving S → List (Call S) → Type 0
StaysBursting m d [] = Unit {0}
StaysBursting m d (call ∷ earlier) = ((after_calls m d (call ∷ earlier)).times.bursting ≡ true) × StaysBursting m d earlier

-- BETWEEN AN EXPIRY and the emission that finds nothing to send the end expires once, emits, and does what its user asks: nothing
-- arrives, and no timer expires, whatever is called
abbrev pub BurstIsWhole : {S : Type 0} → Machine S → Type 0
BurstIsWhole {S = S} m =
    (d : Driving S) (timer : Timer) (now : ℕ) (calls : List (Call S)) → StaysBursting m (expired m d timer now) calls
    → (after_calls m (expired m d timer now) calls).core ≡ all_in_burst m calls (m.expired d.core timer)

-- ---- A TIMEOUT COMES IN TIME. What is due is sent again, or the end is given up
abbrev pub ends_waiting : Option Timer → Bool
ends_waiting (Some Retransmit) = true
ends_waiting (Some User) = true
ends_waiting other = false

abbrev pub is_timeout : {S : Type 0} → Driving S → Call S → Bool
is_timeout d (Expires now) = ends_waiting (expiry d.times (at d now))
is_timeout d other = false

-- A WINDOW OPENS with a segment that the driver takes
abbrev pub is_opening : {S : Type 0} → Machine S → Driving S → Call S → Bool
is_opening m d (Arrives now src dst bytes vouched) =
    not (d.times.bursting || is_withheld m d.core bytes) && opens d.times.shut (m.report d.core src dst bytes (way_of d vouched)).window
is_opening m d other = false

-- THE TIMER GOES ON over a call: the end still wants it, nothing new is acknowledged, no shut window opens, and the call isn't its
-- expiry
pub record GoesOn {S : Type 0} (m : Machine S) (d : Driving S) (call : Call S) : Type 0 where
  pub wanted : (m.wants (after_call m d call).core).retransmit ≡ true
  pub una : m.una (after_call m d call).core ≡ m.una d.core
  pub waits : is_timeout d call ≡ false
  pub opens : is_opening m d call ≡ false

abbrev pub AllGoOn : {S : Type 0} → Machine S → Driving S → List (Call S) → Type 0
AllGoOn m d [] = Unit {0}
AllGoOn m d (call ∷ earlier) = GoesOn m (after_calls m d earlier) call × AllGoOn m d earlier

-- when a call is made
abbrev pub time_of : {S : Type 0} → Driving S → Call S → ℕ
time_of d (Arrives now src dst bytes vouched) = at d now
time_of d (Emits now window) = at d now
time_of d (Expires now) = at d now
time_of d (Uses now does) = at d now
time_of d (SetsUserTimeout limit) = d.times.clock
time_of d (SetsPatience patient) = d.times.clock

-- A CALLER IS PUNCTUAL that makes each call at most so late after the time that `poll_at` gave
abbrev pub IsPunctual : {S : Type 0} → ℕ → Driving S → Call S → Type 0
IsPunctual late d call = IfSome (next_expiry d.times) (λ time. time_of d call ≤ time + late)

abbrev pub AllPunctual : {S : Type 0} → Machine S → ℕ → Driving S → List (Call S) → Type 0
AllPunctual m late d [] = Unit {0}
AllPunctual m late d (call ∷ earlier) = IsPunctual late (after_calls m d earlier) call × AllPunctual m late d earlier

-- each call was made by a limit
abbrev pub AllBy : {S : Type 0} → Machine S → ℕ → Driving S → List (Call S) → Type 0
AllBy m limit d [] = Unit {0}
AllBy m limit d (call ∷ earlier) = (time_of (after_calls m d earlier) call ≤ limit) × AllBy m limit d earlier

-- WHAT BEGINS AT SND.UNA GOES OUT AGAIN with this call, so that the timer starts anew
abbrev pub restarts_with : Option Sent → Times → Bool
restarts_with None t = false
restarts_with (Some sent) t = restarts t sent

abbrev pub is_restart : {S : Type 0} → Machine S → Driving S → Call S → Bool
is_restart m d (Emits now window) = restarts_with (sent_of m d.core window) d.times
is_restart m d other = false

abbrev pub NoneRestarts : {S : Type 0} → Machine S → Driving S → List (Call S) → Type 0
NoneRestarts m d [] = Unit {0}
NoneRestarts m d (call ∷ earlier) = (is_restart m (after_calls m d earlier) call ≡ false) × NoneRestarts m d earlier

-- `timeout` was called before a time, unless a burst was on
abbrev pub IsEarly : {S : Type 0} → ℕ → Driving S → Call S → Type 0
IsEarly time d (Expires now) = d.times.bursting ≡ false → at d now < time
IsEarly time d other = Unit {0}

abbrev pub AllEarly : {S : Type 0} → Machine S → ℕ → Driving S → List (Call S) → Type 0
AllEarly m time d [] = Unit {0}
AllEarly m time d (call ∷ earlier) = IsEarly time (after_calls m d earlier) call × AllEarly m time d earlier

-- while the timer goes on, and isn't started anew, its deadline stays what it was, at most the greatest timeout after the call that set
-- it or any before. Each `timeout` outside a burst came before it, so that the first that doesn't is the expiry; and a punctual caller
-- has made all of its calls by then, so that who goes on calling has it expire
pub record ComesInTime {S : Type 0} (m : Machine S) (late : ℕ) (d : Driving S) (calls : List (Call S)) : Type 0 where
  pub time : ℕ
  pub was : d.times.deadlines.retransmit ≡ Some time
  pub soon : time ≤ d.times.clock + d.times.estimate.rules.greatest
  pub is : (after_calls m d calls).times.deadlines.retransmit ≡ Some time
  pub early : AllEarly m time d calls
  pub punctual : AllPunctual m late d calls → AllBy m (time + late) d calls

-- `timeout` was called before the deadline that the timer had then, unless a burst was on
abbrev pub IsInTime : {S : Type 0} → Driving S → Call S → Type 0
IsInTime d (Expires now) = d.times.bursting ≡ false → IfSome d.times.deadlines.retransmit (λ time. at d now < time)
IsInTime d other = Unit {0}

abbrev pub AllInTime : {S : Type 0} → Machine S → Driving S → List (Call S) → Type 0
AllInTime m d [] = Unit {0}
AllInTime m d (call ∷ earlier) = IsInTime (after_calls m d earlier) call × AllInTime m d earlier

-- and it is started anew at most once, so that a punctual caller has made all of its calls by twice the greatest timeout, and so late
pub record ComesInTwo {S : Type 0} (m : Machine S) (late : ℕ) (d : Driving S) (calls : List (Call S)) : Type 0 where
  pub time : ℕ
  pub is : (after_calls m d calls).times.deadlines.retransmit ≡ Some time
  pub early : AllInTime m d calls
  pub soon : AllPunctual m late d calls → time ≤ d.times.clock + 2 * d.times.estimate.rules.greatest + late
  pub punctual : AllPunctual m late d calls → AllBy m (d.times.clock + 2 * (d.times.estimate.rules.greatest + late)) d calls

abbrev pub TimeoutComesInTime : {S : Type 0} → Machine S → Type 0
TimeoutComesInTime {S = S} m =
    (late : ℕ) (d : Driving S) (calls : List (Call S)) → IsTimely m d → (m.wants d.core).retransmit ≡ true → AllGoOn m d calls
    → (NoneRestarts m d calls → ComesInTime m late d calls) × ComesInTwo m late d calls
