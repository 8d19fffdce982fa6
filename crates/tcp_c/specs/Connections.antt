-- What the calls of a connection, an end with its timers, report and do.
use Rattle.std.specs.Prelude.{◌≡◌, ◌≢◌, ◌↔◌, ◌⊎◌, ℕ, ◌-◌, ◌^◌, ◌==◌, nat_lt, Bool, false, if◌then◌else◌, List, length, IsSome, IsNone, Option, Some, None, Result}
use Rattle.region_heap.specs.declared.region.Region.{Region}
use Rattle.tcp_timing.specs.declared.rules.Rules.{Rules}
use Rattle.tcp_timing.specs.Rules.{IsSound}
use Rattle.tcp_driver.specs.declared.driver.Taken.{Taken}
use Rattle.tcp_driver.specs.declared.driver.Taken.TheVariants.{Done, EmitFirst, Withheld}
use Rattle.tcp_driver.specs.declared.limits.Limits.{Limits}
use Rattle.tcp_driver.specs.declared.machine.Sent.{Sent}
use Rattle.tcp_driver.specs.declared.machine.Timer.{Timer}
use Rattle.tcp_driver.specs.declared.machine.Timer.TheVariants.{Retransmit, Reorder, TimeWait, User}
use Rattle.tcp_driver.specs.Driver.{Driving}
use Rattle.tcp_halves.specs.Config.{config_error_number, HasBadCapacity, HasBadMss, HasBadShift, HasBadLimit, IsGoodConfig}
use Rattle.tcp_halves.specs.declared.config.ConfigError.TheVariants as faults
use Rattle.tcp_halves.specs.declared.link.Peer.{Peer}
use Rattle.tcp_conn.specs.declared.arrive.report.Taken as reports
use Rattle.tcp_conn.specs.declared.emit.transmit.TheConstants.{EMIT_ROOM}
use Rattle.tcp_conn.specs.declared.outcome.CallError.{CallError}
use Rattle.tcp_conn.specs.Calls.{after_connect, after_listen}
use Rattle.tcp_conn.specs.NewEnd.{end_with_runs}
use Rattle.tcp_conn.specs.State.{State}
use Rattle.tcp_end.specs.declared.wired.Wired.{Wired}
use Rattle.tcp_end.specs.Wired.{connected, driven, listening, machine}
use Rattle.tcp_congestion.specs.AnyWindow.{any_control}
use Rattle.tcp_congestion.specs.declared.any_window.AnyWindow.{AnyWindow}
use Rattle.tcp_congestion.specs.declared.any_window.AnyWindow.TheVariants.{Unlimited}
use Rattle.tcp_flow.specs.Flow.{new_flowing}
use Rattle.tcp_flow.specs.Wired.{smss_of}
use Rattle.tcp_connection.specs.Connection.{Connecting, new_connecting}
use Rattle.tcp_connection.specs.Policy.{immediate}
use Rattle.tcp_connection.specs.Using.{after_acknowledging, after_call, after_reading}
use Rattle.tcp_connection.specs.Wired.{insight}
use Rattle.tcp_repair.specs.Repairing.{after_own, plain}
use Rattle.tcp_steady.specs.Steady as steady
use Rattle.tcp_steady.specs.Steady.{after_arriving, after_emit, after_tick, arrival_answer_of, sent_by_emit, with_repairing, written_by_emit}
use Rattle.tcp_c.specs.Answers.{done, bad_rules, bad_runs, emit_first, in_use, little_room, nothing_due, withheld, arrival_number}
use Rattle.tcp_c.specs.Configs.{config_of, runs_of, HasBadRuns, HasGoodRuns}
use Rattle.tcp_c.specs.Reports.{brought_number, no_arrive_report, rule_told}
use Rattle.tcp_c.specs.Segments.{nowhere}
use Rattle.tcp_c.specs.Status.{flag}
use Rattle.tcp_c.specs.declared.records.CArriveReport.{CArriveReport}
use Rattle.tcp_c.specs.declared.records.CConfig.{CConfig}
use Rattle.tcp_c.specs.declared.records.CConnectionRules.{CConnectionRules}
use Rattle.tcp_c.specs.declared.records.CConnectionSegment.{CConnectionSegment}
use Rattle.tcp_c.specs.declared.connection.driven.Driven.{Driven}
use Rattle.tcp_c.specs.declared.connection.making.Opening.{Opening}

-- the greatest time stands for none
abbrev pub never : ℕ
never = 2 ^ 64 - 1

abbrev pub limit_of : ℕ → Option ℕ
limit_of time = if time == never then None else Some time

-- how far a guard reaches: the greatest number stands for none, and 0 for two of the greatest windows
abbrev pub reach_of : ℕ → Option ℕ
reach_of guard = if guard == 2 ^ 32 - 1 then None else (if guard == 0 then Some 2097152 else Some guard)

-- THE RULES of the timeout, and the limits with the guard, of C's record
abbrev pub rules_of : CConnectionRules → Rules
rules_of c = record { first = c.first; least = c.least; greatest = c.greatest; granularity = c.granularity; after_syn = c.after_syn }

abbrev pub limits_of : CConnectionRules → Limits
limits_of c = record {
  time_wait = c.time_wait;
  suspect_after = c.suspect_after;
  handshake = limit_of c.handshake;
  user = limit_of c.user;
  fin_wait_2 = limit_of c.fin_wait_2;
  guard = reach_of c.guard;
  is_patient = false;
}

-- ---- AN END IS MADE AND OPENED: to a peer, or for one
abbrev pub opened_by : State → Option Peer → Rules → Limits → ℕ → Result (Driving (Wired Region)) CallError
opened_by s (Some peer) rules limits now = connected s (record { addr = peer.addr; port = peer.port }) rules limits now
opened_by s None rules limits now = listening s rules limits now

abbrev pub opened : State → Opening → Result (Driving (Wired Region)) CallError
opened s o = opened_by s o.peer o.rules o.limits o.now

abbrev pub after_opening : State → Option Peer → State
after_opening s (Some peer) = after_connect s (record { addr = peer.addr; port = peer.port })
after_opening s None = after_listen s

-- what both SYNs agree SMSS is
abbrev pub agreed : Wired Region → Option ℕ
agreed w = smss_of w.end

-- without a congestion window, a recovery and keep-alives, and so that nothing waits, as it begins
unfoldable pub driven_from : Driving (Wired Region) → ℕ → Driven
driven_from d now = record { connection = steady.plain (plain (new_connecting machine insight agreed (new_flowing d Unlimited now) immediate)) }

abbrev pub opens : State → Opening → Driven
opens s o = driven_from (driven (after_opening s o.peer) o.rules o.limits o.now) o.now

abbrev pub made_of : CConfig → CConnectionRules → Option Peer → ℕ → Driven
made_of c r peer now =
    opens (end_with_runs (config_of c) (runs_of c)) (record { peer = peer; rules = rules_of r; limits = limits_of r; now = now })

-- where a connection may be made: the handle has none, and a timeout can be made from the rules
abbrev pub IsFree : Option Driven → CConnectionRules → Type 0
IsFree held r = IsNone held × IsSound (rules_of r)

-- WHAT THE MAKING OF A CONNECTION ANSWERS, and what the handle has afterwards
pub record Makes (old after : Option Driven) (c : CConfig) (r : CConnectionRules) (driven : Driven) (answer : ℕ) : Type 0 where
  pub in_use : (answer ≡ in_use) ↔ IsSome old
  pub bad_rules : (answer ≡ bad_rules) ↔ (IsNone old × ¬ IsSound (rules_of r))
  pub bad_capacity : (answer ≡ config_error_number faults.BadCapacity) ↔ (IsFree old r × HasBadCapacity (config_of c))
  pub bad_mss : (answer ≡ config_error_number faults.BadMss) ↔ (IsFree old r × HasBadMss (config_of c))
  pub bad_shift : (answer ≡ config_error_number faults.BadShift) ↔ (IsFree old r × HasBadShift (config_of c))
  pub bad_limit : (answer ≡ config_error_number faults.BadLimit) ↔ (IsFree old r × HasBadLimit (config_of c))
  pub bad_runs : (answer ≡ bad_runs) ↔ (IsFree old r × IsGoodConfig (config_of c) × HasBadRuns c)
  pub good : (IsFree old r × IsGoodConfig (config_of c) × HasGoodRuns c) ↔ ((answer ≡ done) ⊎ (answer ≡ config_error_number faults.NoMemory))
  pub made : answer ≡ done → after ≡ Some driven
  pub kept : answer ≢ done → after ≡ old

-- ---- THE END of a connection, and a call of its user's, after which it is this
abbrev pub end_of : Driven → State
end_of d = d.connection.repairing.connecting.flowing.driving.core.end

abbrev pub with_own : Driven → Connecting (Wired Region) AnyWindow → Driven
with_own d k = record { connection = with_repairing d.connection (after_own d.connection.repairing k) }

abbrev pub used : Driven → ℕ → State → Driven
used d now s = with_own d (after_call machine d.connection.repairing.connecting now (record { end = s }))

-- a read of so many bytes at most, which may open the window; and the advertising of the window that is open
abbrev pub read : Driven → ℕ → ℕ → Driven
read d now room = with_own d (after_reading machine insight d.connection.repairing.connecting now room)

abbrev pub acknowledged : Driven → ℕ → Driven
acknowledged d now = with_own d (after_acknowledging machine d.connection.repairing.connecting now)

-- ---- TIMERS
abbrev pub time_number : Option ℕ → ℕ
time_number None = never
time_number (Some time) = time

abbrev pub timer_number : Timer → ℕ
timer_number Retransmit = 0
timer_number Reorder = 1
timer_number TimeWait = 2
timer_number User = 3

abbrev pub timer_told : Option Timer → ℕ
timer_told None = 0
timer_told (Some timer) = timer_number timer

-- IT IS NOW: a timer that has expired
abbrev pub timed_out : ℕ → Driven → Driven
timed_out now d = record { connection = after_tick any_control d.connection now }

-- ---- AN ARRIVAL, summed or vouched for: what the driver makes of it, with the end's own answer
abbrev pub taken_by : Bool → Driven → List ℕ → List ℕ → List ℕ → Taken reports.Taken
taken_by vouched d src dst bytes = arrival_answer_of d.connection src dst bytes vouched

-- the connection afterwards
abbrev pub arrived_by : Bool → ℕ → List ℕ → List ℕ → List ℕ → Driven → Driven
arrived_by vouched now src dst bytes d = record { connection = after_arriving any_control d.connection now src dst bytes vouched }

abbrev pub arrival_told : Taken reports.Taken → ℕ
arrival_told (Done report found) = arrival_number found.arrival
arrival_told EmitFirst = emit_first
arrival_told Withheld = withheld

abbrev pub taken_report : Taken reports.Taken → CArriveReport
taken_report (Done report found) = record {
  at_once = flag found.at_once;
  rule = rule_told found.rule;
  acked = found.acked;
  brought = brought_number found.brought;
  is_duplicate = flag found.is_duplicate;
  window_taken = flag found.window_taken;
}
taken_report EmitFirst = no_arrive_report
taken_report Withheld = no_arrive_report

abbrev pub report_told : Bool → List ℕ → List ℕ → List ℕ → Option Driven → CArriveReport
report_told vouched src dst bytes None = no_arrive_report
report_told vouched src dst bytes (Some d) = taken_report (taken_by vouched d src dst bytes)

-- ---- AN EMISSION into a buffer of any length, within the caller's window, the congestion window, and what waits
abbrev pub sent_within : ℕ → ℕ → Driven → Option Sent
sent_within now window d = sent_by_emit any_control d.connection now window

abbrev pub no_segment : CConnectionSegment
no_segment = record { to = record { byte = nowhere }; length = 0; position = 0; count = 0 }

abbrev pub emission_told : Option Sent → ℕ
emission_told None = nothing_due
emission_told (Some sent) = done

abbrev pub segment_told : Option Sent → CConnectionSegment
segment_told None = no_segment
segment_told (Some sent) = record { to = record { byte = sent.to }; length = sent.len; position = sent.start; count = sent.count }

abbrev pub sent_number : ℕ → ℕ → ℕ → Driven → ℕ
sent_number now window room d =
    if nat_lt room EMIT_ROOM then little_room else emission_told (sent_within now window d)

abbrev pub written_within : ℕ → ℕ → List ℕ → Option Driven → List ℕ
written_within now window out None = out
written_within now window out (Some d) =
    if nat_lt (length out) EMIT_ROOM then out else written_by_emit any_control d.connection now window out

abbrev pub segment_reported : ℕ → ℕ → ℕ → Option Driven → CConnectionSegment
segment_reported now window room None = no_segment
segment_reported now window room (Some d) =
    if nat_lt room EMIT_ROOM then no_segment else segment_told (sent_within now window d)

abbrev pub emitted_within : ℕ → ℕ → ℕ → Driven → Driven
emitted_within now window room d =
    if nat_lt room EMIT_ROOM then d else record { connection = after_emit any_control d.connection now window }
