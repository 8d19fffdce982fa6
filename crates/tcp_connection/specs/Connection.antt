-- One end with its times, under a congestion window, that also decides when an acknowledgement and a small segment go out (RFC
-- 9293, 3.7.4 and 3.8.6; RFC 5961, 7), whatever the end and the window are.
use Rattle.std.specs.Prelude.{◌≡◌, ℕ, ◌+◌, ◌-◌, ◌<◌, ◌≤◌, nat_lt, Bool, true, false, not, ◌&&◌, ◌||◌, ◌==◌, if◌then◌else◌, List, Option, Some, None, is_some, min, unwrap_or}
use Rattle.tcp_congestion.specs.declared.limiter.Limiter.{Limiter}
use Rattle.tcp_congestion.specs.Control.{Control}
use Rattle.tcp_congestion.specs.DelayedAck.{Waiting, after_arrival}
use Rattle.tcp_congestion.specs.Limiter.{new_limiter}
use Rattle.tcp_congestion.specs.Sizes.{latest, max_segment}
use Rattle.tcp_congestion.specs.SwsAvoidance.{Sender, after_window}
use Rattle.tcp_driver.specs.declared.driver.Taken.{Taken}
use Rattle.tcp_driver.specs.declared.driver.Taken.TheVariants.{Done, EmitFirst, Withheld}
use Rattle.tcp_driver.specs.declared.machine.Report.{Report}
use Rattle.tcp_driver.specs.declared.machine.Timer.TheVariants.{Retransmit}
use Rattle.tcp_driver.specs.Driver.{Driving, is_withheld, way_of}
use Rattle.tcp_driver.specs.Machine.{Machine}
use Rattle.tcp_flow.specs.Flow.{Flowing, after_segment, after_use}
use Rattle.tcp_connection.specs.declared.hearing.Before.{Before}
use Rattle.tcp_connection.specs.declared.policy.Policy.{Policy}
use Rattle.tcp_connection.specs.Insight.{Insight}
use Rattle.tcp_connection.specs.Policy.{holds_any, no_ack, no_text}
use Rattle.tcp_connection.specs.Segment.{is_exempt, repeats_syn}

pub record Connecting (S W : Type 0) : Type 0 where
  pub flowing : Flowing S W
  pub policy : Policy
  -- of a full segment: SMSS, which both ends' segments have
  pub smss : ℕ
  -- the acknowledgement that waits, the text that does, and what was answered that brings nothing
  pub ack : Waiting
  pub text : Sender
  pub limiter : Limiter
  -- the pending acknowledgement only answers what brings nothing
  pub bare : Bool
  -- the right edge of the window that was advertised last, as a position of the peer's direction
  pub edge : ℕ

-- ---- WHAT IT KNOWS of its end: its state, whether an acknowledgement is pending, and the edge of the window that a segment
-- advertises
abbrev pub core_of : {S W : Type 0} → Connecting S W → S
core_of k = k.flowing.driving.core

abbrev pub is_pending : {S W : Type 0} → Machine S → Connecting S W → Bool
is_pending m k = is_some (m.alone (core_of k))

abbrev pub edge_by : {S : Type 0} → Insight S → S → ℕ
edge_by i s = min latest (i.rcv_nxt s + i.window s)

-- WHAT ALWAYS HOLDS of what it keeps: whether anything may wait, a segment that isn't empty, and a time for which text waits
pub record IsDeferring (policy : Policy) (flag : Bool) (smss timeout : ℕ) : Type 0 where
  pub any : flag ≡ holds_any policy
  pub waits : 0 < timeout
  pub positive : 0 < smss
  pub fits : smss ≤ max_segment

-- IT BEGINS: nothing waits, and the peer's window is the greatest yet. Segments have 536 bytes before both SYNs have agreed
-- (RFC 9293, 3.7.1)
abbrev pub first_smss : ℕ
first_smss = 536

-- but an acknowledgement that is pending already, which is due
abbrev pub first_ack : Policy → ℕ → Bool → Waiting
first_ack policy smss pending = if pending then after_arrival (no_ack policy smss) 0 true 0 else no_ack policy smss

abbrev pub beginning : {S W : Type 0} → Machine S → Insight S → Flowing S W → Policy → ℕ → Connecting S W
beginning m i f policy smss = record {
  flowing = f;
  policy = policy;
  smss = smss;
  ack = first_ack policy smss (is_some (m.alone f.driving.core));
  text = after_window (no_text policy smss) (i.snd_wnd f.driving.core);
  limiter = new_limiter policy.answer_interval;
  bare = false;
  edge = edge_by i f.driving.core;
}

abbrev pub new_connecting : {S W : Type 0} → Machine S → Insight S → (S → Option ℕ) → Flowing S W → Policy → Connecting S W
new_connecting m i smss_of f policy = beginning m i f policy (unwrap_or (smss_of f.driving.core) first_smss)

-- ---- AN ARRIVAL: what the end says before it
abbrev pub before_in : {S W : Type 0} → Machine S → Insight S → Connecting S W → List ℕ → Before
before_in m i k bytes = record {
  is_pending = is_pending m k;
  rcv_nxt = i.rcv_nxt (core_of k);
  is_synchronized = i.is_synchronized (core_of k);
  repeats_syn = repeats_syn (i.peer_syn (core_of k)) bytes;
}

-- both SYNs have agreed on full segments
abbrev pub agreed_by : {S W : Type 0} → Option ℕ → Connecting S W → Connecting S W
agreed_by None k = k
agreed_by (Some smss) k = if k.smss == smss then k else record k { smss = smss; ack = no_ack k.policy smss; text = no_text k.policy smss }

-- the greatest of the peer's windows
abbrev pub after_taken : Sender → Option ℕ → Sender
after_taken s None = s
after_taken s (Some window) = after_window s window

-- WHAT ANSWERS TEXT, FIN, OR A SYN OF THE HANDSHAKE isn't bare, and neither is what was pending before: of bare answers alone
-- the number is limited (own; RFC 5961, 7 limits challenge acknowledgements, which these two ends would send each other without
-- end)
abbrev pub bare_after : {S W : Type 0} → Connecting S W → Before → List ℕ → Bool → Bool
bare_after k before bytes at_once =
    if is_exempt before.is_synchronized bytes then false
    else (if at_once && nat_lt 0 k.policy.answer_interval then not before.is_pending || k.bare else k.bare)

-- a segment was taken
abbrev pub heard_by : {S W : Type 0} → Insight S → Connecting S W → Before → List ℕ → Report → ℕ → Connecting S W
heard_by i k before bytes report now = record k {
  ack = after_arrival k.ack (i.rcv_nxt (core_of k) - before.rcv_nxt) report.at_once now;
  text = after_taken k.text report.window;
  bare = bare_after k before bytes report.at_once;
}

-- THE PEER'S SYN AGAIN in SYN-RECEIVED, which the end answers by an acknowledgement (RFC 9293, 3.10.7.4, first), is answered by the
-- SYN,ACK again in its place (own), which carries the acknowledgement: the peer is in SYN-SENT, and drops what has no SYN (3.10.7.3,
-- fifth)
abbrev pub answers_syn : Before → Report → Bool
answers_syn before report = before.repeats_syn && report.at_once

abbrev pub with_syn : {S W : Type 0} → Machine S → Connecting S W → ℕ → Bool → Connecting S W
with_syn m k now again = if again then record k { flowing = after_use m k.flowing now (m.expired (core_of k) Retransmit) } else k

abbrev pub heard : {S W : Type 0} → Machine S → Insight S → (S → Option ℕ) → Connecting S W → Before → List ℕ → Report → ℕ → Connecting S W
heard m i smss_of k before bytes report now =
    with_syn m (heard_by i (agreed_by (smss_of (core_of k)) k) before bytes report now) now (answers_syn before report)

-- what is reported of it, where it is taken
abbrev pub report_in : {T : Type 0} → Taken T → Option Report
report_in (Done report answer) = Some report
report_in EmitFirst = None
report_in Withheld = None

abbrev pub reported : {S : Type 0} → Machine S → Driving S → List ℕ → List ℕ → List ℕ → Bool → Option Report
reported m d src dst bytes vouched =
    if d.times.bursting || is_withheld m d.core bytes then None else Some (m.report d.core src dst bytes (way_of d vouched))

abbrev pub heard_if : {S W : Type 0} → Machine S → Insight S → (S → Option ℕ) → Connecting S W → Before → List ℕ → Option Report → ℕ → Connecting S W
heard_if m i smss_of k before bytes None now = k
heard_if m i smss_of k before bytes (Some report) now = heard m i smss_of k before bytes report now

-- the flow takes it, and where anything may wait the policy hears of it
abbrev pub taken_by_flow : {S W : Type 0} → Machine S → (S → Option ℕ) → Control W → Connecting S W → ℕ → List ℕ → List ℕ → List ℕ → Bool → Connecting S W
taken_by_flow m smss_of c k now src dst bytes vouched = record k { flowing = after_segment m smss_of c k.flowing now src dst bytes vouched }

abbrev pub after_arriving : {S W : Type 0} → Machine S → Insight S → (S → Option ℕ) → Control W → Connecting S W → ℕ → List ℕ → List ℕ → List ℕ → Bool → Connecting S W
after_arriving m i smss_of c k now src dst bytes vouched =
    if holds_any k.policy
    then heard_if m i smss_of (taken_by_flow m smss_of c k now src dst bytes vouched) (before_in m i k bytes) bytes
    (reported m k.flowing.driving src dst bytes vouched) now
    else taken_by_flow m smss_of c k now src dst bytes vouched
