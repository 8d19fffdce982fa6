-- One end with its times, its congestion window and its policy, with or without a recovery of losses by time (RFC 8985), whatever
-- the end and the window are.
use Rattle.std.specs.Prelude.{ℕ, ◌<◌, ◌≤◌, ◌&&◌, ◌==◌, Bool, false, true, if◌then◌else◌, List, Option, Some, None, IfSome, option_map}
use Rattle.tcp_congestion.specs.Control.{Control}
use Rattle.tcp_driver.specs.declared.machine.Report.{Report}
use Rattle.tcp_driver.specs.declared.machine.Sent.{Sent}
use Rattle.tcp_driver.specs.declared.machine.Timer.{Timer}
use Rattle.tcp_driver.specs.Deadlines.{earlier, last}
use Rattle.tcp_driver.specs.Driver.{at}
use Rattle.tcp_driver.specs.Machine.{Machine}
use Rattle.tcp_driver.specs.Times.{expiry}
use Rattle.tcp_connection.specs.Connection.{Connecting, core_of, reported}
use Rattle.tcp_connection.specs.Connection as connection
use Rattle.tcp_connection.specs.Deadlines as connection_deadlines
use Rattle.tcp_connection.specs.Going as connection_going
use Rattle.tcp_connection.specs.Insight.{Insight}
use Rattle.tcp_flow.specs.declared.loss.Loss.{Loss}
use Rattle.tcp_flow.specs.declared.loss.Loss.TheVariants.{Repaired as AsRepaired}
use Rattle.tcp_connection.specs.Trains as connection_trains
use Rattle.tcp_connection.specs.Using.{after_call, losing, measuring, with_patience}
use Rattle.tcp_connection.specs.Using as connection_using
use Rattle.tcp_repair.specs.declared.arriving.Before.{Before}
use Rattle.tcp_repair.specs.declared.seen.Again.{Again}
use Rattle.tcp_repair.specs.declared.seen.Seen.{Seen}
use Rattle.tcp_repair.specs.declared.seen.Told.{Told}
use Rattle.tcp_repair.specs.Arrival.{heard, repairs, trip_by, with_deliveries}
use Rattle.tcp_repair.specs.Deadlines.{own_deadline}
use Rattle.tcp_repair.specs.Emission.{again_of, goes_again, readied, went}
use Rattle.tcp_repair.specs.Recovery.{Repair, after_expiry, at_time, begun}
use Rattle.tcp_repair.specs.Reports.{Reports}
use Rattle.tcp_repair.specs.Seen.{seen_of}

pub record Repaired (S W : Type 0) : Type 0 where
  pub connecting : Connecting S W
  pub recovery : Option Repair

-- what a recovery sees of the connection
abbrev pub seen_in : {S W : Type 0} → Machine S → (S → Option ℕ) → Reports S → Connecting S W → Seen
seen_in m smss_of b k = seen_of m smss_of b k.flowing.driving

-- ---- IT BEGINS with a connection alone; a recovery takes over at a time
abbrev pub plain : {S W : Type 0} → Connecting S W → Repaired S W
plain k = record { connecting = k; recovery = None }

abbrev pub with_recovery : {S W : Type 0} → Machine S → (S → Option ℕ) → Reports S → Repaired S W → ℕ → Repaired S W
with_recovery m smss_of b w now =
    record { connecting = with_patience w.connecting true; recovery = Some (begun (seen_in m smss_of b (with_patience w.connecting true)) now) }

-- a call that is the connection's alone, after which that is this
abbrev pub after_own : {S W : Type 0} → Repaired S W → Connecting S W → Repaired S W
after_own w k = record w { connecting = k }

-- ---- AN ARRIVAL: what the end says before it, and behind it
abbrev pub is_same : Option ℕ → ℕ → Bool
is_same None window = false
is_same (Some taken) window = taken == window

abbrev pub before_in : {S W : Type 0} → Machine S → Insight S → Connecting S W → Before
before_in m i k = record { una = m.una (core_of k); snd_wnd = i.snd_wnd (core_of k); rcv_nxt = i.rcv_nxt (core_of k) }

abbrev pub told_of : {S : Type 0} → Insight S → Before → S → Report → Told
told_of i before s report = record {
  una = before.una;
  is_echo = is_same report.window before.snd_wnd && (i.rcv_nxt s == before.rcv_nxt);
}

-- the congestion window is told of a loss that a probe has repaired
abbrev pub losing_if : {S W : Type 0} → Machine S → Control W → Option Loss → Connecting S W → Connecting S W
losing_if m c None k = k
losing_if m c (Some loss) k = losing m c k loss

-- and of a round trip that was measured
abbrev pub measuring_if : {S W : Type 0} → Machine S → Control W → Option ℕ → Connecting S W → Connecting S W
measuring_if m c None k = k
measuring_if m c (Some trip) k = measuring m c k trip

abbrev pub repaired_if : Bool → Option Loss
repaired_if repairs = if repairs then Some AsRepaired else None

unfoldable pub repairs_by : Repair → Seen → (ℕ → Option (ℕ × ℕ)) → Told → Bool
repairs_by r s unmarked t = repairs (with_deliveries r s unmarked t) s t

abbrev pub heard_in : {S W : Type 0} → Machine S → (S → Option ℕ) → Control W → Reports S → Connecting S W → Repair → Told → Repaired S W
heard_in m smss_of c b k r t = record {
  connecting = losing_if m c (repaired_if (repairs_by r (seen_in m smss_of b k) (b.unmarked (core_of k)) t))
      (measuring_if m c (trip_by r (seen_in m smss_of b k) (b.unmarked (core_of k)) t) k);
  recovery = Some (heard r (seen_in m smss_of b k) (b.unmarked (core_of k)) t);
}

abbrev pub heard_by : {S W : Type 0} → Machine S → Insight S → (S → Option ℕ) → Control W → Reports S → Before → Connecting S W → Option Repair → Option Report → ℕ → Repaired S W
heard_by m i smss_of c b before k None report now = plain k
heard_by m i smss_of c b before k (Some r) None now = record { connecting = k; recovery = Some r }
heard_by m i smss_of c b before k (Some r) (Some report) now = heard_in m smss_of c b k (at_time r now) (told_of i before (core_of k) report)

abbrev pub after_arriving : {S W : Type 0} → Machine S → Insight S → (S → Option ℕ) → Control W → Reports S → Repaired S W → ℕ → List ℕ → List ℕ → List ℕ → Bool → Repaired S W
after_arriving m i smss_of c b w now src dst bytes vouched =
    heard_by m i smss_of c b (before_in m i w.connecting) (connection.after_arriving m i smss_of c w.connecting now src dst bytes vouched) w.recovery
    (reported m w.connecting.flowing.driving src dst bytes vouched) now

-- ---- AN EMISSION. Before it what is lost, or the probe, is made due
abbrev pub resending : {S W : Type 0} → Machine S → (S → Option ℕ) → Reports S → Connecting S W → Bool
resending m smss_of b k = goes_again (seen_in m smss_of b k) (m.due (core_of k))

abbrev pub again_in : {S W : Type 0} → Machine S → (S → Option ℕ) → Reports S → Connecting S W → Repair → Option Again
again_in m smss_of b k r = again_of r (seen_in m smss_of b k) (b.unmarked (core_of k)) (resending m smss_of b k)

abbrev pub going_again : {S W : Type 0} → Machine S → Control W → Connecting S W → ℕ → Option Again → Connecting S W
going_again m c k now None = k
going_again m c k now (Some again) = losing_if m c again.loss (after_call m k now (m.resent (core_of k) again.from again.to))

abbrev pub ready_in : {S W : Type 0} → Machine S → (S → Option ℕ) → Control W → Reports S → Connecting S W → Repair → ℕ → Repaired S W
ready_in m smss_of c b k r now = record {
  connecting = going_again m c k now (again_in m smss_of b k r);
  recovery = Some (readied r (seen_in m smss_of b k) (b.unmarked (core_of k)) (resending m smss_of b k));
}

abbrev pub ready_by : {S W : Type 0} → Machine S → (S → Option ℕ) → Control W → Reports S → Connecting S W → Option Repair → ℕ → Repaired S W
ready_by m smss_of c b k None now = plain k
ready_by m smss_of c b k (Some r) now = ready_in m smss_of c b k (at_time r now) now

unfoldable pub ready : {S W : Type 0} → Machine S → (S → Option ℕ) → Control W → Reports S → Repaired S W → ℕ → Repaired S W
ready m smss_of c b w now = ready_by m smss_of c b w.connecting w.recovery now

-- behind it what has gone out is told: where it begins, and how many numbers it takes
abbrev pub gone_in : {S W : Type 0} → Machine S → (S → Option ℕ) → Reports S → Connecting S W → Option Repair → Option (ℕ × ℕ) → Option Repair
gone_in m smss_of b k None sent = None
gone_in m smss_of b k (Some r) None = Some r
gone_in m smss_of b k (Some r) (Some sent) = Some (went r (seen_in m smss_of b k) (sent.0) (sent.1))

abbrev pub gone : {S W : Type 0} → Machine S → (S → Option ℕ) → Reports S → Repaired S W → Connecting S W → Option (ℕ × ℕ) → Repaired S W
gone m smss_of b w k sent = record { connecting = k; recovery = gone_in m smss_of b k w.recovery sent }

abbrev pub numbers_in : Option Sent → Option (ℕ × ℕ)
numbers_in sent = option_map (λ s. (s.start, s.count)) sent

abbrev pub after_emit_by : {S W : Type 0} → Machine S → Insight S → (S → Option ℕ) → Control W → Reports S → Repaired S W → ℕ → ℕ → Repaired S W
after_emit_by m i smss_of c b w now window =
    gone m smss_of b w (connection_going.after_emit m i c w.connecting now window) (numbers_in (connection_going.sent_by_emit m i c w.connecting now window))

abbrev pub after_emit : {S W : Type 0} → Machine S → Insight S → (S → Option ℕ) → Control W → Reports S → Repaired S W → ℕ → ℕ → Repaired S W
after_emit m i smss_of c b w now window = after_emit_by m i smss_of c b (ready m smss_of c b w now) now window

abbrev pub sent_by_emit : {S W : Type 0} → Machine S → Insight S → (S → Option ℕ) → Control W → Reports S → Repaired S W → ℕ → ℕ → Option Sent
sent_by_emit m i smss_of c b w now window = connection_going.sent_by_emit m i c (ready m smss_of c b w now).connecting now window

abbrev pub written_by_emit : {S W : Type 0} → Machine S → Insight S → (S → Option ℕ) → Control W → Reports S → Repaired S W → ℕ → ℕ → List ℕ → List ℕ
written_by_emit m i smss_of c b w now window out = connection_going.written_by_emit m i c (ready m smss_of c b w now).connecting now window out

-- AS ONE, of which the end says where they begin, and how many numbers they take
abbrev pub numbers_as_one : {T : Type 0} → (T → ℕ) → (T → ℕ) → Option T → Option (ℕ × ℕ)
numbers_as_one start_of numbers_of train = option_map (λ t. (start_of t, numbers_of t)) train

abbrev pub train_by_emit : {S W T : Type 0} → Machine S → Insight S → (S → Option ℕ) → (S → ℕ → ℕ → ℕ → Option T) → Control W → Reports S → Repaired S W → ℕ → ℕ → ℕ → ℕ → Option T
train_by_emit m i smss_of answer c b w now window most room =
    connection_trains.train_by_emit m i answer c (ready m smss_of c b w now).connecting now window most room

abbrev pub after_train_by : {S W : Type 0} → Machine S → Insight S → (S → Option ℕ) → Control W → Reports S → Repaired S W → ℕ → ℕ → ℕ → ℕ → Option (ℕ × ℕ) → Repaired S W
after_train_by m i smss_of c b w now window most room sent =
    gone m smss_of b w (connection_trains.after_train m i c w.connecting now window most room) sent

abbrev pub after_train : {S W T : Type 0} → Machine S → Insight S → (S → Option ℕ) → (S → ℕ → ℕ → ℕ → Option T) → (T → ℕ) → (T → ℕ) → Control W → Reports S → Repaired S W → ℕ → ℕ → ℕ → ℕ → Repaired S W
after_train m i smss_of answer start_of numbers_of c b w now window most room =
    after_train_by m i smss_of c b (ready m smss_of c b w now) now window most room
    (numbers_as_one start_of numbers_of (train_by_emit m i smss_of answer c b w now window most room))

abbrev pub written_by_train : {S W : Type 0} → Machine S → Insight S → (S → Option ℕ) → Control W → Reports S → Repaired S W → ℕ → ℕ → ℕ → List ℕ → List ℕ
written_by_train m i smss_of c b w now window most out =
    connection_trains.written_by_train m i c (ready m smss_of c b w now).connecting now window most out

-- ---- TIME PASSES: a timer that has expired, whose loss is repaired
abbrev pub expired_by : {S W : Type 0} → Machine S → (S → Option ℕ) → Reports S → Connecting S W → Option Repair → Option Timer → ℕ → Option Repair
expired_by m smss_of b k None timer now = None
expired_by m smss_of b k (Some r) timer now = Some (after_expiry (at_time r now) (seen_in m smss_of b k) timer)

abbrev pub after_tick : {S W : Type 0} → Machine S → (S → Option ℕ) → Control W → Reports S → Repaired S W → ℕ → Repaired S W
after_tick m smss_of c b w now = record {
  connecting = connection_using.after_tick m c w.connecting now;
  recovery = expired_by m smss_of b (connection_using.after_tick m c w.connecting now) w.recovery
      (expiry w.connecting.flowing.driving.times (at w.connecting.flowing.driving now)) now;
}

-- ---- WHEN SOMETHING HAS TO BE DONE next. Where nothing waits for an acknowledgement nothing goes out again, as of an end that was
-- aborted with text in flight
abbrev pub recovery_deadline : {S W : Type 0} → Machine S → (S → Option ℕ) → Reports S → Connecting S W → Option Repair → Option ℕ
recovery_deadline m smss_of b k None = None
recovery_deadline m smss_of b k (Some r) = if (m.wants (core_of k)).retransmit then own_deadline r (seen_in m smss_of b k) else None

abbrev pub next_call : {S W : Type 0} → Machine S → (S → Option ℕ) → Reports S → Repaired S W → Option ℕ
next_call m smss_of b w = earlier (recovery_deadline m smss_of b w.connecting w.recovery) (connection_deadlines.next_call m w.connecting)

-- BEHIND AN EMISSION THAT FINDS NOTHING none of it has come, by the connection's clock or the recovery's, but at the last of all
-- times: whoever waits for the next call isn't woken again and again, though nothing goes out
abbrev pub RecoveryRests : {S W : Type 0} → Machine S → (S → Option ℕ) → Reports S → Connecting S W → Option Repair → ℕ → Type 0
RecoveryRests m smss_of b k recovery now = now ≤ last → IfSome (recovery_deadline m smss_of b k recovery) (λ time. now < time)

abbrev pub RestsAfter : {S W : Type 0} → Machine S → (S → Option ℕ) → Reports S → Repaired S W → ℕ → Type 0
RestsAfter m smss_of b w now =
    connection_deadlines.RestsAfter m w.connecting now × RecoveryRests m smss_of b w.connecting w.recovery now
