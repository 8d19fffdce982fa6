-- The times of one end (RFC 6298, 5; RFC 9293, 3.8.3 and 3.10.8), whatever the end is.
use Rattle.std.specs.Prelude.{ℕ, ◌+◌, ◌-◌, ◌*◌, ◌^◌, ◌≤◌, nat_lt, nat_le, Bool, true, false, not, ◌&&◌, ◌||◌, ◌==◌, if◌then◌else◌, Option, Some, None, IfSome, is_some, unwrap_or, min, max}
use Rattle.tcp_timing.specs.declared.rules.Rules.{Rules}
use Rattle.tcp_timing.specs.declared.round_trip.RoundTrip.{RoundTrip}
use Rattle.tcp_timing.specs.declared.watch.Watch.{Watch}
use Rattle.tcp_timing.specs.Estimate.{Estimate, IsBounded, new_estimate, after_sample, after_back_off, after_syn_resent, without_back_off}
use Rattle.tcp_timing.specs.Watch.{new_watch, after_sent, after_acked, sample_of}
use Rattle.tcp_driver.specs.declared.deadlines.Deadlines.{Deadlines}
use Rattle.tcp_driver.specs.declared.limits.Limits.{Limits}
use Rattle.tcp_driver.specs.declared.machine.Report.{Report}
use Rattle.tcp_driver.specs.declared.machine.Sent.{Sent}
use Rattle.tcp_driver.specs.declared.machine.Timer.{Timer}
use Rattle.tcp_driver.specs.declared.machine.Timer.TheVariants.{Retransmit, Reorder, TimeWait, User}
use Rattle.tcp_driver.specs.declared.machine.Wants.{Wants}
use Rattle.tcp_driver.specs.Deadlines.{earlier, is_kept, kept, last, no_deadlines, no_later, soonest, without}
use Rattle.tcp_driver.specs.Limits.{limit_of}

pub record Times : Type 0 where
  pub limits : Limits
  pub estimate : Estimate
  pub watch : Watch
  pub deadlines : Deadlines
  -- SND.UNA when those were set
  pub una : ℕ
  -- while the retransmission timer runs: since when nothing has been acknowledged
  pub since : Option ℕ
  -- how often that timer has expired since then
  pub resent : ℕ
  -- whether it was started anew since then, because what begins at SND.UNA went out again
  pub restarted : Bool
  -- how long the gaps that the peer reported may take to be filled
  pub span : ℕ
  -- whether the peer's window was shut when it was last taken
  pub shut : Bool
  -- in FIN-WAIT-2, while the user has read all: since when nothing of the peer's has come
  pub left : Option ℕ
  -- a timer has expired, and not all that is due then has gone out
  pub bursting : Bool
  -- the time of the last call
  pub clock : ℕ

-- ---- WHAT ALWAYS HOLDS: a deadline is at most the greatest timeout after the last call, and that of TIME-WAIT at most its length
pub record IsSoon (t : Times) : Type 0 where
  pub bounded : IsBounded t.estimate
  pub clock : t.clock ≤ last
  pub since : IfSome t.since (λ time. time ≤ t.clock)
  pub left : IfSome t.left (λ time. time ≤ t.clock)
  pub retransmit : IfSome t.deadlines.retransmit (λ time. time ≤ t.clock + t.estimate.rules.greatest)
  pub reorder : IfSome t.deadlines.reorder (λ time. time ≤ t.clock + t.estimate.rules.greatest)
  pub time_wait : IfSome t.deadlines.time_wait (λ time. time ≤ t.clock + t.limits.time_wait)

-- THE TIME OF A CALL: it never goes back, and stands still at the last one
abbrev pub time_at : Times → ℕ → ℕ
time_at t now = max t.clock (min last now)

-- ---- REORDERING is given a round trip, and no less than the clock can tell from none (RFC 6298, 2), or the timeout where none was
-- measured or losses are found by time (RFC 8985); and where nothing is acknowledged twice as long each time, up to the timeout
abbrev pub round_trip : Rules → Option RoundTrip → ℕ → ℕ
round_trip rules None rto = rto
round_trip rules (Some t) rto = min rto (max (max 1 rules.granularity) t.srtt)

abbrev pub first_span : Bool → Estimate → ℕ
first_span patient e = if patient then e.rto else round_trip e.rules e.trip e.rto

abbrev pub span_after : Bool → Bool → ℕ → Estimate → ℕ
span_after same patient span e = if same then span else first_span patient e

abbrev pub twice : ℕ → ℕ → ℕ
twice span rto = min rto (2 * min rto span)

-- ---- THE TIMERS RUN as the end wants them, and start anew where something was acknowledged. That of TIME-WAIT doesn't
abbrev pub deadlines_after : Times → Wants → Bool → ℕ → ℕ → Deadlines
deadlines_after t w same span now = record {
  retransmit = kept w.retransmit same t.deadlines.retransmit (now + t.estimate.rto);
  reorder = kept w.reorder same t.deadlines.reorder (now + min t.estimate.rto span);
  time_wait = kept w.time_wait true t.deadlines.time_wait (now + min last t.limits.time_wait);
}

-- what was done since the timer began to wait, as long as it waits on
abbrev pub still : Bool → Bool → Bool → Bool
still runs same before = if runs && same then before else false

abbrev pub followed : Times → Wants → ℕ → ℕ → Times
followed t w una now = record t {
  deadlines = deadlines_after t w (una == t.una) (span_after (una == t.una) t.limits.is_patient t.span t.estimate) now;
  una = una;
  since = kept w.retransmit (una == t.una) t.since now;
  resent = if w.retransmit && una == t.una then t.resent else 0;
  restarted = still w.retransmit (una == t.una) t.restarted;
  left = kept w.fin_wait_2 true t.left now;
  span = span_after (una == t.una) t.limits.is_patient t.span t.estimate;
  clock = now;
}

-- THE TIMERS STAND where they run as the end wants them already, and nothing was acknowledged: then only time passes
abbrev pub rests : Bool → Times → Bool
rests runs t = runs || (t.resent == 0 && not t.restarted)

abbrev pub waits_on : Times → Bool → Bool
waits_on t runs = is_kept runs t.deadlines.retransmit && (is_kept runs t.since && rests runs t)

abbrev pub stands : Times → Wants → ℕ → Bool
stands t w una =
    una == t.una
    && (waits_on t w.retransmit
    && (is_kept w.reorder t.deadlines.reorder
    && (is_kept w.time_wait t.deadlines.time_wait && is_kept w.fin_wait_2 t.left)))

abbrev pub first_times : Rules → Limits → ℕ → ℕ → Times
first_times rules limits una now = record {
  limits = limits;
  estimate = new_estimate rules;
  watch = new_watch;
  deadlines = no_deadlines;
  una = una;
  since = None;
  resent = 0;
  restarted = false;
  span = (new_estimate rules).rto;
  shut = false;
  left = None;
  bursting = false;
  clock = now;
}

-- where an end begins, the timers that it wants run from now on
abbrev pub new_times : Rules → Limits → Wants → ℕ → ℕ → Times
new_times rules limits w una now = followed (first_times rules limits una now) w una now

-- ---- AN ARRIVAL. A round trip is measured where one ends
abbrev pub after_trip : Option ℕ → Estimate → Estimate
after_trip None e = e
after_trip (Some r) e = after_sample e r

-- after a SYN that was sent again text begins with a longer timeout (RFC 6298, 5.7)
abbrev pub begins_late : Times → ℕ → Bool
begins_late t una = t.una == 0 && (nat_lt 0 una && nat_lt 0 t.resent)

abbrev pub after_handshake : Bool → Estimate → Estimate
after_handshake late e = if late then after_syn_resent e else e

abbrev pub measured : Times → ℕ → ℕ → Times
measured t una now = record t {
  estimate = after_trip (sample_of t.watch una now) (after_handshake (begins_late t una) t.estimate);
  watch = after_acked t.watch una;
}

-- A WINDOW IS TAKEN. A peer whose window is shut is there all the same (RFC 9293, 3.8.6.1)
abbrev pub is_shut : Option ℕ → Bool
is_shut None = false
is_shut (Some window) = window == 0

abbrev pub shut_after : Bool → Option ℕ → Bool
shut_after shut None = shut
shut_after shut (Some window) = window == 0

-- where it opens that was shut, what has expired since were probes: the timeout isn't backed off any more, and its timer starts anew
abbrev pub opens : Bool → Option ℕ → Bool
opens shut None = false
opens shut (Some window) = shut && not (window == 0)

abbrev pub after_window : Times → ℕ → Option ℕ → Times
after_window t una window = record t {
  estimate = if opens t.shut window then without_back_off t.estimate else t.estimate;
  deadlines = record t.deadlines { retransmit = if opens t.shut window then None else t.deadlines.retransmit };
  since = if is_shut window && nat_lt 0 una then None else t.since;
  resent = if is_shut window && nat_lt 0 una then 0 else t.resent;
  shut = shut_after t.shut window;
}

-- THE PEER'S FIN AGAIN starts TIME-WAIT anew, and nothing else does (RFC 9293, 3.10.7.4, eighth)
abbrev pub after_fin : Bool → Times → Times
after_fin repeats_fin t = record t { deadlines = record t.deadlines { time_wait = if repeats_fin then None else t.deadlines.time_wait } }

-- THE PEER IS THERE in FIN-WAIT-2 where something of its own comes
abbrev pub after_peer : Bool → Times → Times
after_peer from_peer t = record t { left = if from_peer then None else t.left }

abbrev pub taken : Times → ℕ → Report → ℕ → Times
taken t una report now =
    after_peer report.from_peer (after_fin report.repeats_fin (after_window (measured t una now) una report.window))

-- ---- AN EMISSION. What goes out again is given as long as ever to be reported
abbrev pub goes_again : Watch → Sent → Bool
goes_again w sent = nat_lt 0 sent.count && nat_lt sent.start w.highest

-- WHAT BEGINS AT SND.UNA GOES OUT AGAIN before its timeout, as the reordering timer or fast retransmit has it: the retransmission timer
-- starts anew, so that the segment isn't sent a third time within a timeout of the second (RFC 6298, 5). Once until something is
-- acknowledged, so that it expires in the end
abbrev pub restarts : Times → Sent → Bool
restarts t sent = goes_again t.watch sent && (sent.start == t.una && not t.restarted)

abbrev pub deadlines_sent : Bool → Bool → Deadlines → Deadlines
deadlines_sent anew again d = record d { retransmit = if anew then None else d.retransmit; reorder = if again then None else d.reorder }

abbrev pub after_segment : Option Sent → Times → ℕ → Times
after_segment None t now = record t { bursting = false }
after_segment (Some sent) t now = record t {
  watch = after_sent t.watch sent.start sent.count now;
  deadlines = deadlines_sent (restarts t sent) (goes_again t.watch sent) t.deadlines;
  restarted = if restarts t sent then true else t.restarted;
}

-- ---- TIME PASSES. The path is suspect once the retransmission timer has expired so often without an answer
abbrev pub is_suspect : Times → Bool
is_suspect t = nat_le t.limits.suspect_after t.resent

abbrev pub later_by : Option ℕ → Option ℕ → Option ℕ
later_by (Some time) (Some span) = Some (time + min last span)
later_by time span = None

-- THE USER TIMEOUT (RFC 9293, 3.8.3): only once the path is suspect, so that a single answer that was lost ends nothing; and the
-- limit of FIN-WAIT-2, if it has one
abbrev pub user_deadline : Times → Option ℕ
user_deadline t =
    earlier (if is_suspect t then later_by t.since (limit_of t.limits t.una) else None) (later_by t.left t.limits.fin_wait_2)

-- when a timer expires next: there is such a time exactly while some timer has to run
abbrev pub wants_any : Wants → Limits → Bool
wants_any w l = w.retransmit || (w.reorder || (w.time_wait || (w.fin_wait_2 && is_some l.fin_wait_2)))

-- and it is no further than the longest of what may be waited for
abbrev pub longest_wait : Times → ℕ
longest_wait t = max t.estimate.rules.greatest (max t.limits.time_wait (unwrap_or t.limits.fin_wait_2 0))

abbrev pub next_expiry : Times → Option ℕ
next_expiry t = earlier (user_deadline t) (soonest t.deadlines)

abbrev pub expiring : Times → ℕ → Option Timer
expiring t now =
    if no_later (user_deadline t) now then Some User
    else (if no_later t.deadlines.retransmit now then Some Retransmit
    else (if no_later t.deadlines.reorder now then Some Reorder
    else (if no_later t.deadlines.time_wait now then Some TimeWait else None)))

-- none does before all that was due at the last expiry has gone out
abbrev pub expiry : Times → ℕ → Option Timer
expiry t now = if t.bursting then None else expiring t now

-- the retransmission timeout is backed off (RFC 6298, 5.5)
abbrev pub after_expiry : Times → Timer → Times
after_expiry t Retransmit =
    record t { deadlines = without t.deadlines Retransmit; estimate = after_back_off t.estimate; resent = min (t.resent + 1) (2 ^ 32 - 1); bursting = true }
after_expiry t Reorder = record t { deadlines = without t.deadlines Reorder; span = twice t.span t.estimate.rto; bursting = true }
after_expiry t TimeWait = record t { deadlines = without t.deadlines TimeWait; bursting = true }
after_expiry t User = record t { since = None; resent = 0; left = None; bursting = true }

-- the user timeout is set
abbrev pub with_user_timeout : Times → Option ℕ → Times
with_user_timeout t limit = record t { limits = record t.limits { user = limit } }

-- whether reordering is given a whole timeout is set, for who finds losses by time (RFC 8985); a deadline that is set stays
abbrev pub with_patience : Times → Bool → Times
with_patience t patient = record t { limits = record t.limits { is_patient = patient } }
