-- A connection whose silent peer is asked whether it is there (RFC 9293, 3.8.4), and whose new text is paced (RFC 9002, 7.7), whatever
-- its window is.
use Rattle.std.specs.Prelude.{ℕ, ◌+◌, ◌-◌, nat_lt, nat_le, min, Bool, true, false, not, ◌&&◌, if◌then◌else◌, List, length, Option, Some, None, is_some, option_map}
use Rattle.tcp_congestion.specs.Control.{Control}
use Rattle.tcp_timing.specs.declared.round_trip.RoundTrip.{RoundTrip}
use Rattle.tcp_driver.specs.declared.driver.Taken.{Taken}
use Rattle.tcp_driver.specs.declared.driver.Taken.TheVariants.{Done, EmitFirst, Withheld}
use Rattle.tcp_driver.specs.declared.machine.Sent.{Sent}
use Rattle.tcp_driver.specs.declared.machine.Timer.{Timer}
use Rattle.tcp_driver.specs.declared.machine.Timer.TheVariants.{User}
use Rattle.tcp_driver.specs.Deadlines.{earlier}
use Rattle.tcp_driver.specs.Driver.{arrival_answer, at, way_of}
use Rattle.tcp_driver.specs.Times.{expiry}
use Rattle.tcp_conn.specs.declared.arrive.report.Taken as conn
use Rattle.tcp_conn.specs.declared.emit.train.Train.{Train}
use Rattle.tcp_conn.specs.declared.emit.transmit.Kind.TheVariants.{Acknowledgement}
use Rattle.tcp_conn.specs.declared.outcome.Arrival.{Arrival}
use Rattle.tcp_conn.specs.declared.outcome.Arrival.TheVariants.{Processed}
use Rattle.tcp_conn.specs.State.{State}
use Rattle.tcp_conn.specs.Status.{queued_of}
use Rattle.tcp_conn.specs.TrainWithin.{train_within}
use Rattle.tcp_connection.specs.Using as own
use Rattle.tcp_connection.specs.Wired.{insight}
use Rattle.tcp_end.specs.declared.wired.Wired.{Wired}
use Rattle.tcp_end.specs.Wired.{intake_of, machine, taken_of}
use Rattle.tcp_flow.specs.Flow as flow
use Rattle.tcp_flow.specs.Wired.{numbers_of, smss_of}
use Rattle.tcp_keep_alive.specs.declared.keep_alive.KeepAliveAction.{KeepAliveAction}
use Rattle.tcp_keep_alive.specs.declared.keep_alive.KeepAliveAction.TheVariants.{Asks, GivesUp, Nothing}
use Rattle.tcp_keep_alive.specs.declared.rules.KeepAliveRules.{KeepAliveRules}
use Rattle.tcp_keep_alive.specs.Asking.{buffer_after, keep_alive_due, may_ask, partial_due}
use Rattle.tcp_keep_alive.specs.KeepAlive.{Asking, action_at, after_action, after_heard, deadline_of, new_asking}
use Rattle.tcp_pacing.specs.declared.pace.Pace.{Pace}
use Rattle.tcp_pacing.specs.Pacer.{Pacing, after_asked, after_set, after_went, allowed, is_paced, off, poll_at, with_held}
use Rattle.tcp_repair.specs.Repairing as repair
use Rattle.tcp_repair.specs.Repairing.{Repaired, after_own}
use Rattle.tcp_repair.specs.Wired.{reports, start_of}
use Rattle.tcp_steady.specs.declared.steady.Steady.{Steady}

-- what both SYNs agree SMSS is
abbrev pub agreed : {B : Type 0} → Wired B → Option ℕ
agreed w = smss_of w.end

-- THE PEER IS HEARD by what is taken of the connection: an unacceptable segment may be anybody's (RFC 9293, 3.10.7.4, first)
abbrev pub is_processed : Arrival → Bool
is_processed Processed = true
is_processed other = false

abbrev pub is_heard : Taken conn.Taken → Bool
is_heard (Done report found) = is_processed found.arrival
is_heard EmitFirst = false
is_heard Withheld = false

-- THE KEEP-ALIVE OF AN END, as a segment of a connection: it takes no number, and has the one before SND.NXT
abbrev pub keep_alive_sent : State → Option Sent
keep_alive_sent e = option_map (λ bytes. record { to = e.peer.addr.0; len = 20; start = e.sending.snd_nxt - 1; count = 0 }) (keep_alive_due e)

-- and as one for a device that cuts segments
abbrev pub keep_alive_train : State → Option Train
keep_alive_train e = option_map (λ bytes. record {
  whole = record { to = e.peer.addr; len = 20; kind = Acknowledgement; position = e.sending.snd_nxt - 1; end = e.sending.snd_nxt - 1; count = 0 };
  header = 20;
  each = 0;
  segments = 1;
}) (partial_due e)

-- SRTT, 0 where no round trip is measured
abbrev pub srtt_by : Option RoundTrip → ℕ
srtt_by None = 0
srtt_by (Some trip) = trip.srtt

-- bytes in flight (RFC 9293, 3.3.1), and of the text that the user has given the rest, which wasn't sent yet
abbrev pub flight_of : State → ℕ
flight_of e = e.sending.snd_nxt - e.sending.snd_una

abbrev pub unsent_of : State → ℕ
unsent_of e = queued_of e - flight_of e

-- how many bytes more the peer's window takes
abbrev pub room_of : State → ℕ
room_of end = end.sending.snd_wnd - flight_of end

-- a peer that is given up is a timer of the user's timeout
abbrev pub timer_by : KeepAliveAction → Option Timer
timer_by GivesUp = Some User
timer_by Asks = None
timer_by Nothing = None

-- WHERE NOTHING ELSE GOES OUT the peer may be asked: what the keep-alives know then, what goes out, and what is written
abbrev pub asked_after : {T : Type 0} → Option T → Asking → ℕ → Bool → Asking
asked_after (Some sent) k now may_ask = k
asked_after None k now may_ask = after_action k now may_ask

abbrev pub if_asks : {T : Type 0} → KeepAliveAction → Option T → Option T
if_asks Asks due = due
if_asks Nothing due = None
if_asks GivesUp due = None

abbrev pub sent_or : {T : Type 0} → Option T → KeepAliveAction → Option T → Option T
sent_or (Some sent) action due = Some sent
sent_or None action due = if_asks action due

abbrev pub written_by : KeepAliveAction → Option (List ℕ) → List ℕ → List ℕ
written_by Asks due out = buffer_after due out
written_by Nothing due out = out
written_by GivesUp due out = out

abbrev pub written_or : {T : Type 0} → Option T → KeepAliveAction → Option (List ℕ) → List ℕ → List ℕ
written_or (Some sent) action due out = out
written_or None action due out = written_by action due out

abbrev pub bounded_by : ℕ → ℕ → ℕ → ℕ
bounded_by unsent paced window = if nat_lt 0 unsent then min window paced else window

module _ {W B : Type 0} where
  -- ---- HOW FAST new text goes out: by the congestion window and SRTT (RFC 9002, 7.7). Text waits for the next portion where the
  -- windows let its next segment out, which is cut to what the peer's takes (RFC 9293, 3.8.6), and the pacer doesn't
  abbrev pub pace_of : Control W → Repaired (Wired B) W → Pace
  pace_of c r = record {
    cwnd = c.cwnd r.connecting.flowing.window;
    smss = c.smss r.connecting.flowing.window;
    srtt = srtt_by r.connecting.flowing.driving.times.estimate.trip;
    is_slow_start = nat_lt (c.cwnd r.connecting.flowing.window) (c.ssthresh r.connecting.flowing.window);
  }

  abbrev pub next_segment : Control W → Repaired (Wired B) W → ℕ
  next_segment c r =
      min (min (c.smss r.connecting.flowing.window) (unsent_of r.connecting.flowing.driving.core.end))
      (room_of r.connecting.flowing.driving.core.end)

  abbrev pub waits_for_portion : Control W → Repaired (Wired B) W → ℕ → Pacing → Bool
  waits_for_portion c r window p =
      is_paced p (pace_of c r)
      && (nat_lt p.left (next_segment c r)
      && nat_le (flight_of r.connecting.flowing.driving.core.end + next_segment c r) (flow.allowed machine c r.connecting.flowing window))

  -- behind an emission the new text is told that went out, or whether some waits
  abbrev pub told_pacer : Control W → Repaired (Wired B) W → Pacing → Bool → ℕ → ℕ → Pacing
  told_pacer c r p is_sent flight window =
      if is_sent then with_held (after_went p (flight_of r.connecting.flowing.driving.core.end - flight)) false
      else with_held p (waits_for_portion c r window p)

  abbrev pub pacer_behind : Control W → Repaired (Wired B) W → Pacing → Bool → ℕ → ℕ → Pacing
  pacer_behind c r p is_sent flight window = if p.is_on then told_pacer c r p is_sent flight window else p

module _ {W B A : Type 0} where
  -- THE END
  abbrev pub end_of : Steady W B A → State
  end_of s = s.repairing.connecting.flowing.driving.core.end

  -- ---- IT BEGINS without keep-alives, and unpaced; by rules, or without, from a time on; and paced, or not
  abbrev pub plain : Repaired (Wired B) W → Steady W B A
  plain r = record { repairing = r; keep_alive = new_asking None 0; pacer = off }

  abbrev pub with_keep_alive : Steady W B A → Option KeepAliveRules → ℕ → Steady W B A
  with_keep_alive s rules now = record s { keep_alive = new_asking rules now }

  abbrev pub with_pacing : Steady W B A → Bool → Steady W B A
  with_pacing s is_on = record s { pacer = after_set s.pacer is_on }

  -- a call of the connection's own, after which that is this
  abbrev pub with_repairing : Steady W B A → Repaired (Wired B) W → Steady W B A
  with_repairing s r = record s { repairing = r }

  -- ---- AN ARRIVAL, summed or vouched for
  abbrev pub arrival_answer_of : Steady W B A → List ℕ → List ℕ → List ℕ → Bool → Taken conn.Taken
  arrival_answer_of s src dst bytes vouched =
      arrival_answer machine (λ w src dst bytes way. taken_of (intake_of way) w.end src dst bytes) s.repairing.connecting.flowing.driving src dst bytes
      (way_of s.repairing.connecting.flowing.driving vouched)

  abbrev pub heard_if : Bool → Steady W B A → ℕ → Steady W B A
  heard_if heard s now = record s { keep_alive = if heard then after_heard s.keep_alive now else s.keep_alive }

  abbrev pub after_arriving : Control W → Steady W B A → ℕ → List ℕ → List ℕ → List ℕ → Bool → Steady W B A
  after_arriving c s now src dst bytes vouched =
      heard_if (is_heard (arrival_answer_of s src dst bytes vouched))
      (with_repairing s (repair.after_arriving machine insight agreed c reports s.repairing now src dst bytes vouched)) now

  -- ---- WHEN THE PEER IS ASKED, or given up, if it may be asked; and when the next call has to come
  abbrev pub may_ask_of : Steady W B A → Bool
  may_ask_of s = may_ask (end_of s)

  abbrev pub asking_deadline : Steady W B A → Option ℕ
  asking_deadline s = deadline_of s.keep_alive (may_ask_of s)

  abbrev pub next_call : Steady W B A → Option ℕ
  next_call s = earlier (poll_at s.pacer) (earlier (asking_deadline s) (repair.next_call machine agreed reports s.repairing))

  -- ---- TIME PASSES. Where no timer has expired the peer may be given up: then the connection is aborted (RFC 9293, 3.10.5)
  abbrev pub timer_of : Steady W B A → ℕ → Option Timer
  timer_of s now = expiry s.repairing.connecting.flowing.driving.times (at s.repairing.connecting.flowing.driving now)

  abbrev pub timed : Control W → Steady W B A → ℕ → Steady W B A
  timed c s now = with_repairing s (repair.after_tick machine agreed c reports s.repairing now)

  abbrev pub action_of : Steady W B A → ℕ → KeepAliveAction
  action_of s now = action_at s.keep_alive now (may_ask_of s)

  abbrev pub aborted : Steady W B A → ℕ → Repaired (Wired B) W
  aborted s now = after_own s.repairing (own.after_call machine s.repairing.connecting now (machine.aborted s.repairing.connecting.flowing.driving.core))

  abbrev pub repairing_by : KeepAliveAction → Steady W B A → ℕ → Repaired (Wired B) W
  repairing_by GivesUp s now = aborted s now
  repairing_by Asks s now = s.repairing
  repairing_by Nothing s now = s.repairing

  abbrev pub after_asking : Steady W B A → ℕ → Steady W B A
  after_asking s now = with_repairing s (repairing_by (action_of s now) s now)

  abbrev pub after_timer : Option Timer → Steady W B A → ℕ → Steady W B A
  after_timer (Some timer) s now = s
  after_timer None s now = after_asking s now

  abbrev pub timer_told : Option Timer → Steady W B A → ℕ → Option Timer
  timer_told (Some timer) s now = Some timer
  timer_told None s now = timer_by (action_of s now)

  abbrev pub after_tick : Control W → Steady W B A → ℕ → Steady W B A
  after_tick c s now = after_timer (timer_of s now) (timed c s now) now

  -- the timer that is reported: a peer that is given up is one of the user's timeout
  abbrev pub expired : Control W → Steady W B A → ℕ → Option Timer
  expired c s now = timer_told (timer_of s now) (timed c s now) now

  -- ---- BEFORE AN EMISSION a portion may begin, which bounds the caller's window where text is left to send: a FIN alone never waits
  abbrev pub asked_pacer : Control W → Steady W B A → ℕ → Pacing
  asked_pacer c s now = after_asked s.pacer now (pace_of c s.repairing)

  abbrev pub paced_window : Control W → Steady W B A → ℕ → ℕ → ℕ
  paced_window c s now window =
      if s.pacer.is_on then bounded_by (unsent_of (end_of s)) (flight_of (end_of s) + allowed s.pacer now (pace_of c s.repairing)) window else window

  -- ---- AN EMISSION. Where nothing else goes out the keep-alive does, if its time has come
  abbrev pub sent_first : Control W → Steady W B A → ℕ → ℕ → Option Sent
  sent_first c s now window = repair.sent_by_emit machine insight agreed c reports s.repairing now (paced_window c s now window)

  abbrev pub written_first : Control W → Steady W B A → ℕ → ℕ → List ℕ → List ℕ
  written_first c s now window out = repair.written_by_emit machine insight agreed c reports s.repairing now (paced_window c s now window) out

  abbrev pub repaired_after_emit : Control W → Steady W B A → ℕ → ℕ → Repaired (Wired B) W
  repaired_after_emit c s now window = repair.after_emit machine insight agreed c reports s.repairing now (paced_window c s now window)

  -- the connection and the pacer behind it, and then the keep-alives
  abbrev pub emitted_first : {T : Type 0} → Control W → Steady W B A → ℕ → ℕ → Option T → Repaired (Wired B) W → Steady W B A
  emitted_first c s now window sent r = record s {
    repairing = r;
    pacer = pacer_behind c r (asked_pacer c s now) (is_some sent) (flight_of (end_of s)) window;
  }

  abbrev pub asked_behind : {T : Type 0} → Option T → Steady W B A → ℕ → Steady W B A
  asked_behind sent s now = record s { keep_alive = asked_after sent s.keep_alive now (may_ask_of s) }

  abbrev pub first_of : Control W → Steady W B A → ℕ → ℕ → Steady W B A
  first_of c s now window = emitted_first c s now window (sent_first c s now window) (repaired_after_emit c s now window)

  abbrev pub after_emit : Control W → Steady W B A → ℕ → ℕ → Steady W B A
  after_emit c s now window = asked_behind (sent_first c s now window) (first_of c s now window) now

  abbrev pub sent_by_emit : Control W → Steady W B A → ℕ → ℕ → Option Sent
  sent_by_emit c s now window =
      sent_or (sent_first c s now window) (action_of (first_of c s now window) now) (keep_alive_sent (end_of (first_of c s now window)))

  abbrev pub written_by_emit : Control W → Steady W B A → ℕ → ℕ → List ℕ → List ℕ
  written_by_emit c s now window out =
      written_or (sent_first c s now window) (action_of (first_of c s now window) now) (keep_alive_due (end_of (first_of c s now window)))
      (written_first c s now window out)

  -- AS ONE, for a device that cuts and sums them
  abbrev pub train_first : Control W → Steady W B A → ℕ → ℕ → ℕ → ℕ → Option Train
  train_first c s now window most room =
      repair.train_by_emit machine insight agreed (λ w window most room. train_within w.end window most room) c reports s.repairing now
      (paced_window c s now window) most room

  abbrev pub train_written_first : Control W → Steady W B A → ℕ → ℕ → ℕ → List ℕ → List ℕ
  train_written_first c s now window most out =
      repair.written_by_train machine insight agreed c reports s.repairing now (paced_window c s now window) most out

  abbrev pub repaired_after_train : Control W → Steady W B A → ℕ → ℕ → ℕ → ℕ → Repaired (Wired B) W
  repaired_after_train c s now window most room =
      repair.after_train machine insight agreed (λ w window most room. train_within w.end window most room) start_of numbers_of c reports s.repairing now
      (paced_window c s now window) most room

  abbrev pub first_train_of : Control W → Steady W B A → ℕ → ℕ → ℕ → ℕ → Steady W B A
  first_train_of c s now window most room =
      emitted_first c s now window (train_first c s now window most room) (repaired_after_train c s now window most room)

  abbrev pub after_train : Control W → Steady W B A → ℕ → ℕ → ℕ → ℕ → Steady W B A
  after_train c s now window most room = asked_behind (train_first c s now window most room) (first_train_of c s now window most room) now

  abbrev pub train_by_emit : Control W → Steady W B A → ℕ → ℕ → ℕ → ℕ → Option Train
  train_by_emit c s now window most room =
      sent_or (train_first c s now window most room) (action_of (first_train_of c s now window most room) now)
      (keep_alive_train (end_of (first_train_of c s now window most room)))

  abbrev pub written_by_train : Control W → Steady W B A → ℕ → ℕ → ℕ → List ℕ → List ℕ
  written_by_train c s now window most out =
      written_or (train_first c s now window most (length out)) (action_of (first_train_of c s now window most (length out)) now)
      (partial_due (end_of (first_train_of c s now window most (length out)))) (train_written_first c s now window most out)
