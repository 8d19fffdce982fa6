-- One end with its times, whatever the end is.
use Rattle.std.specs.Prelude.{◌≡◌, ℕ, ◌-◌, nat_lt, Bool, true, false, not, ◌&&◌, ◌||◌, ◌==◌, if◌then◌else◌, List, Option, Some, None, is_some, bit_and, slice_get, min}
use Rattle.tcp_timing.specs.declared.rules.Rules.{Rules}
use Rattle.tcp_driver.specs.declared.driver.Taken.{Taken}
use Rattle.tcp_driver.specs.declared.driver.Taken.TheVariants.{Done, EmitFirst, Withheld}
use Rattle.tcp_driver.specs.declared.limits.Limits.{Limits}
use Rattle.tcp_driver.specs.declared.machine.Sent.{Sent}
use Rattle.tcp_driver.specs.declared.machine.Timer.{Timer}
use Rattle.tcp_driver.specs.declared.machine.Way.{Way}
use Rattle.tcp_driver.specs.Deadlines.{last}
use Rattle.tcp_driver.specs.Times.{Times, IsSoon, after_expiry, after_segment, expiry, followed, new_times, rests, taken, time_at, with_patience, with_user_timeout}
use Rattle.tcp_driver.specs.Machine.{Machine}

pub record Driving (S : Type 0) : Type 0 where
  pub core : S
  pub times : Times

-- TIMELY: there is a deadline exactly while the end wants its timer, and it is soon
pub record IsTimely {S : Type 0} (m : Machine S) (d : Driving S) : Type 0 where
  pub soon : IsSoon d.times
  pub una : d.times.una ≡ m.una d.core
  pub retransmit : is_some d.times.deadlines.retransmit ≡ (m.wants d.core).retransmit
  pub since : is_some d.times.since ≡ (m.wants d.core).retransmit
  pub left : is_some d.times.left ≡ (m.wants d.core).fin_wait_2
  pub reorder : is_some d.times.deadlines.reorder ≡ (m.wants d.core).reorder
  pub time_wait : is_some d.times.deadlines.time_wait ≡ (m.wants d.core).time_wait
  -- and where it doesn't run nothing is left of an earlier wait
  pub rests : rests (m.wants d.core).retransmit d.times ≡ true

-- an end that was opened before: its timers run from now on
abbrev pub new_driving : {S : Type 0} → Machine S → S → Rules → Limits → ℕ → Driving S
new_driving m core rules limits now =
    record { core = core; times = new_times rules limits (m.wants core) (m.una core) (min last now) }

-- the time of a call
abbrev pub at : {S : Type 0} → Driving S → ℕ → ℕ
at d now = time_at d.times now

-- AFTER EACH CALL the timers run as the end wants them
abbrev pub following : {S : Type 0} → Machine S → S → Times → ℕ → Driving S
following m core times now = record { core = core; times = followed times (m.wants core) (m.una core) now }

-- A CALL of the user's, after which the end is this
abbrev pub after_user : {S : Type 0} → Machine S → Driving S → ℕ → S → Driving S
after_user m d now core = following m core d.times now

-- the user timeout is set
abbrev pub after_user_timeout : {S : Type 0} → Driving S → Option ℕ → Driving S
after_user_timeout d limit = record d { times = with_user_timeout d.times limit }

-- patience is set
abbrev pub after_patience : {S : Type 0} → Driving S → Bool → Driving S
after_patience d patient = record d { times = with_patience d.times patient }

-- ---- AN ARRIVAL. A RESET has the bit RST (RFC 9293, 3.1), and counts as lost where the end says so
abbrev pub has_reset_bit : Option ℕ → Bool
has_reset_bit None = false
has_reset_bit (Some flags) = not (bit_and flags 4 == 0)

abbrev pub is_reset : List ℕ → Bool
is_reset bytes = has_reset_bit (slice_get bytes 13)

abbrev pub is_withheld : {S : Type 0} → Machine S → S → List ℕ → Bool
is_withheld m s bytes = m.ignores_resets s && is_reset bytes

-- IT COMES IN past the guard of the limits, summed, or vouched for by a device
abbrev pub way_of : {S : Type 0} → Driving S → Bool → Way
way_of d vouched = record { is_vouched = vouched; guard = d.times.limits.guard }

-- in a burst nothing is taken
abbrev pub arrival_answer : {S T : Type 0} → Machine S → (S → List ℕ → List ℕ → List ℕ → Way → T) → Driving S → List ℕ → List ℕ → List ℕ → Way → Taken T
arrival_answer m answer d src dst bytes way =
    if d.times.bursting then EmitFirst
    else (if is_withheld m d.core bytes then Withheld else Done (m.report d.core src dst bytes way) (answer d.core src dst bytes way))

abbrev pub after_taken : {S : Type 0} → Machine S → Driving S → ℕ → List ℕ → List ℕ → List ℕ → Way → Driving S
after_taken m d now src dst bytes way =
    following m (m.arrived d.core src dst bytes way)
    (taken d.times (m.una (m.arrived d.core src dst bytes way)) (m.report d.core src dst bytes way) now) now

abbrev pub after_arrival : {S : Type 0} → Machine S → Driving S → ℕ → List ℕ → List ℕ → List ℕ → Way → Driving S
after_arrival m d now src dst bytes way = if d.times.bursting || is_withheld m d.core bytes then d else after_taken m d now src dst bytes way

-- ---- AN EMISSION. WHAT ENDS PAST A WINDOW WAITS (RFC 5681, 3.1), where anything before it is in flight
abbrev pub is_past : ℕ → ℕ → Sent → Bool
is_past una window sent = nat_lt una sent.start && nat_lt (window - (sent.start - una)) sent.count

abbrev pub waits : Option Sent → ℕ → ℕ → Bool
waits None una window = false
waits (Some sent) una window = is_past una window sent

-- WHAT GOES OUT AGAIN waits for a pending acknowledgement (RFC 9293, 3.8.6.3): it begins before SND.NXT
abbrev pub goes_back : Option Sent → ℕ → ℕ → Bool
goes_back None una flight = false
goes_back (Some sent) una flight = nat_lt (sent.start - una) flight

-- then a pending acknowledgement goes alone
abbrev pub holds_by : Option Sent → ℕ → ℕ → Bool → ℕ → Bool
holds_by due una flight answers window = waits due una window || (answers && goes_back due una flight)

abbrev pub holds : {S : Type 0} → Machine S → S → ℕ → Bool
holds m s window = holds_by (m.due s) (m.una s) (m.flight s) (is_some (m.alone s)) window

abbrev pub sent_of : {S : Type 0} → Machine S → S → ℕ → Option Sent
sent_of m s window = if holds m s window then m.alone s else m.due s

abbrev pub written_of : {S : Type 0} → Machine S → S → ℕ → List ℕ → List ℕ
written_of m s window out = if holds m s window then m.written_alone s out else m.written s out

abbrev pub core_after : {S : Type 0} → Machine S → S → ℕ → S
core_after m s window = if holds m s window then m.emitted_alone s else m.emitted s

abbrev pub after_emission : {S : Type 0} → Machine S → Driving S → ℕ → ℕ → Driving S
after_emission m d now window =
    following m (core_after m d.core window) (after_segment (sent_of m d.core window) d.times now) now

-- ---- TIME PASSES
abbrev pub expired : {S : Type 0} → Machine S → Driving S → Timer → ℕ → Driving S
expired m d timer now = following m (m.expired d.core timer) (after_expiry d.times timer) now

abbrev pub after_time_by : {S : Type 0} → Machine S → Driving S → Option Timer → ℕ → Driving S
after_time_by m d None now = record d { times = record d.times { clock = now } }
after_time_by m d (Some timer) now = expired m d timer now

abbrev pub after_time : {S : Type 0} → Machine S → Driving S → ℕ → Driving S
after_time m d now = after_time_by m d (expiry d.times now) now
