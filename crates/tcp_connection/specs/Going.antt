-- WHAT GOES OUT, and what waits (RFC 9293, 3.7.4, 3.8.6.2.1 and 3.8.6.3; RFC 5961, 7).
use Rattle.std.specs.Prelude.{ℕ, ◌-◌, ◌/◌, nat_lt, Bool, true, false, not, ◌&&◌, ◌||◌, ◌==◌, if◌then◌else◌, List, Option, Some, None, is_some, max, min, option_map}
use Rattle.tcp_congestion.specs.declared.limiter.Limiter.{Limiter}
use Rattle.tcp_congestion.specs.Control.{Control}
use Rattle.tcp_congestion.specs.DelayedAck.{deadline_of, nothing_unacked}
use Rattle.tcp_congestion.specs.Limiter.{after_granted, is_granted}
use Rattle.tcp_congestion.specs.SwsAvoidance.{after_asked, length_of}
use Rattle.tcp_driver.specs.declared.machine.Sent.{Sent}
use Rattle.tcp_driver.specs.Driver.{holds_by, sent_of, written_of}
use Rattle.tcp_driver.specs.Machine.{Machine}
use Rattle.tcp_flow.specs.Flow.{Flowing, allowed, emitted, emitted_as_one, rested, row_of}
use Rattle.tcp_connection.specs.declared.deferring.Kind.{Kind}
use Rattle.tcp_connection.specs.declared.deferring.Kind.TheVariants.{Acknowledgement, NewText}
use Rattle.tcp_connection.specs.Connection.{Connecting, core_of, edge_by, is_pending}
use Rattle.tcp_connection.specs.Insight.{Insight}
use Rattle.tcp_connection.specs.Policy.{holds_any}
use Rattle.tcp_connection.specs.Windows.{has_grown}

-- ---- AN ACKNOWLEDGEMENT WAITS for a second full segment or for its delay (RFC 9293, 3.8.6.3): it has a time, which is to
-- come. One that nothing asks for, since a read has opened a shut window, waits for a window that is worth advertising
-- (3.8.6.2.2)
abbrev pub is_to_come : Option ℕ → ℕ → Bool
is_to_come None now = false
is_to_come (Some time) now = nat_lt now time

abbrev pub is_small : {S W : Type 0} → Insight S → Connecting S W → Bool
is_small i k = is_some k.policy.override_timeout && (not (is_some (deadline_of k.ack)) && not (has_grown i k))

abbrev pub ack_waits : {S W : Type 0} → Insight S → Connecting S W → ℕ → Bool
ack_waits i k now = is_to_come (deadline_of k.ack) now || is_small i k

-- ---- NEW TEXT WAITS for the congestion window, so that at most an acknowledgement goes out (RFC 5681, 3.1)
abbrev pub is_past : {S W : Type 0} → Machine S → Control W → Connecting S W → ℕ → Bool
is_past m c k window =
    holds_by (m.due (core_of k)) (m.una (core_of k)) (m.flight (core_of k)) false (allowed m c k.flowing window)

abbrev pub is_new_text : Option Kind → Bool
is_new_text (Some NewText) = true
is_new_text other = false

-- or for a segment that is worth it: what is asked for is D, where new text is due and nothing else holds it back, of which the
-- window has room for U (RFC 9293, 3.8.6.2.1). A burst asks for nothing: what is due in it goes out (own)
abbrev pub is_asked : {S W : Type 0} → Insight S → Connecting S W → Bool → Bool
is_asked i k past =
    is_some k.policy.override_timeout && (not k.flowing.driving.times.bursting && (is_new_text (i.kind (core_of k)) && not past))

abbrev pub queued : {S W : Type 0} → Insight S → Connecting S W → Bool → ℕ
queued i k past = if is_asked i k past then i.unsent (core_of k) else 0

abbrev pub usable : {S W : Type 0} → Machine S → Insight S → Connecting S W → ℕ
usable m i k = i.snd_wnd (core_of k) - m.flight (core_of k)

-- it waits though the window has room for some of it
abbrev pub text_waits_by : {S W : Type 0} → Machine S → Insight S → Connecting S W → Bool → ℕ → Bool
text_waits_by m i k past now =
    nat_lt 0 (min (queued i k past) (usable m i k)) && (length_of k.text (queued i k past) (usable m i k) (m.flight (core_of k)) now == 0)

abbrev pub asked_by : {S W : Type 0} → Machine S → Insight S → Connecting S W → Bool → ℕ → Connecting S W
asked_by m i k past now = record k { text = after_asked k.text (queued i k past) (usable m i k) (m.flight (core_of k)) now }

abbrev pub text_waits : {S W : Type 0} → Machine S → Insight S → Control W → Connecting S W → ℕ → ℕ → Bool
text_waits m i c k window now = text_waits_by m i k (is_past m c k window) now

abbrev pub asked : {S W : Type 0} → Machine S → Insight S → Control W → Connecting S W → ℕ → ℕ → Connecting S W
asked m i c k window now = asked_by m i k (is_past m c k window) now

-- ---- WHAT IS HELD BACK: an acknowledgement while it waits, and new text while it does, unless an acknowledgement goes out
-- now, which takes it along (own). Text again, SYN, FIN and resets never are, and nothing is in a burst (own)
abbrev pub is_held : Option Kind → Bool → Bool → Bool → Bool
is_held (Some Acknowledgement) text pending ack = ack
is_held (Some NewText) text pending ack = text && (not pending || ack)
is_held other text pending ack = false

abbrev pub keeps : {S W : Type 0} → Machine S → Insight S → Connecting S W → Option Kind → Bool → ℕ → Bool
keeps m i k kind text now = not k.flowing.driving.times.bursting && is_held kind text (is_pending m k) (ack_waits i k now)

abbrev pub holds_back : {S W : Type 0} → Machine S → Insight S → Control W → Connecting S W → ℕ → ℕ → Bool
holds_back m i c k window now = keeps m i k (i.kind (core_of k)) (is_past m c k window || text_waits m i c k window now) now

-- ---- THE FLOW EMITS: what goes out, what is written, and the flow after it
unfoldable pub flow_sent : {S W : Type 0} → Machine S → Control W → Flowing S W → ℕ → ℕ → Option Sent
flow_sent m c f now window = sent_of m f.driving.core (allowed m c (rested m c f now) window)

unfoldable pub flow_written : {S W : Type 0} → Machine S → Control W → Flowing S W → ℕ → ℕ → List ℕ → List ℕ
flow_written m c f now window out = written_of m f.driving.core (allowed m c (rested m c f now) window) out

unfoldable pub flow_after : {S W : Type 0} → Machine S → Control W → Flowing S W → ℕ → ℕ → Flowing S W
flow_after m c f now window = emitted m c (rested m c f now) now window

-- how many numbers it takes, if anything goes out
abbrev pub flow_count : {S W : Type 0} → Machine S → Control W → Flowing S W → ℕ → ℕ → Option ℕ
flow_count m c f now window = option_map (λ sent. sent.count) (flow_sent m c f now window)

-- ---- AN ANSWER: an acknowledgement that goes alone, so that it takes no numbers, and only answers what brings nothing.
-- Outside a burst such a one goes out once in an interval (RFC 5961, 7), and else is discarded
abbrev pub may_answer : {S W : Type 0} → Machine S → Connecting S W → Bool
may_answer m k = k.bare && (not k.flowing.driving.times.bursting && is_pending m k)

abbrev pub is_zero : Option ℕ → Bool
is_zero None = false
is_zero (Some count) = count == 0

abbrev pub is_discarded : Bool → Option ℕ → Limiter → ℕ → Bool
is_discarded answers count l now = (answers && is_zero count) && not (is_granted l now)

abbrev pub limiter_after : Bool → Option ℕ → Limiter → ℕ → Limiter
limiter_after answers count l now = if answers && is_zero count then after_granted l now else l

-- ---- AFTER AN EMISSION no acknowledgement waits; where something went out, the window in it is the last one that was advertised. A reset
-- acknowledges nothing: then one that was pending still is, and waits as before
abbrev pub is_untold : {S W : Type 0} → Machine S → Flowing S W → Bool → Bool
is_untold m f went = went && is_some (m.alone f.driving.core)

abbrev pub noted : {S W : Type 0} → Machine S → Insight S → Connecting S W → Flowing S W → Limiter → Bool → Connecting S W
noted m i k f l went = record k {
  flowing = f;
  ack = if is_untold m f went then k.ack else nothing_unacked k.ack;
  limiter = l;
  bare = if is_untold m f went then k.bare else false;
  edge = if went && not (is_untold m f went) then edge_by i f.driving.core else k.edge;
}

-- ---- WHAT DOESN'T WAIT GOES OUT. Where an answer is discarded the flow emits again, which makes no other
abbrev pub discards : {S W : Type 0} → Machine S → Control W → Connecting S W → ℕ → ℕ → Bool
discards m c k now window = is_discarded (may_answer m k) (flow_count m c k.flowing now window) k.limiter now

abbrev pub flow_going : {S W : Type 0} → Machine S → Control W → Connecting S W → ℕ → ℕ → Flowing S W
flow_going m c k now window =
    if discards m c k now window then flow_after m c (flow_after m c k.flowing now window) now window else flow_after m c k.flowing now window

abbrev pub sent_going : {S W : Type 0} → Machine S → Control W → Connecting S W → ℕ → ℕ → Option Sent
sent_going m c k now window =
    if discards m c k now window then flow_sent m c (flow_after m c k.flowing now window) now window else flow_sent m c k.flowing now window

abbrev pub written_going : {S W : Type 0} → Machine S → Control W → Connecting S W → ℕ → ℕ → List ℕ → List ℕ
written_going m c k now window out =
    if discards m c k now window
    then flow_written m c (flow_after m c k.flowing now window) now window (flow_written m c k.flowing now window out)
    else flow_written m c k.flowing now window out

abbrev pub after_going : {S W : Type 0} → Machine S → Insight S → Control W → Connecting S W → ℕ → ℕ → Connecting S W
after_going m i c k now window =
    noted m i k (flow_going m c k now window) (limiter_after (may_answer m k) (flow_count m c k.flowing now window) k.limiter now)
    (is_some (sent_going m c k now window))

-- ---- EMIT: where nothing may wait the flow does, else what isn't held back goes out, and text is asked for
abbrev pub after_emit : {S W : Type 0} → Machine S → Insight S → Control W → Connecting S W → ℕ → ℕ → Connecting S W
after_emit m i c k now window =
    if holds_any k.policy
    then (if holds_back m i c k window now then asked m i c k window now else after_going m i c (asked m i c k window now) now window)
    else record k { flowing = flow_after m c k.flowing now window }

abbrev pub sent_by_emit : {S W : Type 0} → Machine S → Insight S → Control W → Connecting S W → ℕ → ℕ → Option Sent
sent_by_emit m i c k now window =
    if holds_any k.policy
    then (if holds_back m i c k window now then None else sent_going m c k now window)
    else flow_sent m c k.flowing now window

-- what the buffer contains, of what was discarded, too
abbrev pub written_by_emit : {S W : Type 0} → Machine S → Insight S → Control W → Connecting S W → ℕ → ℕ → List ℕ → List ℕ
written_by_emit m i c k now window out =
    if holds_any k.policy
    then (if holds_back m i c k window now then out else written_going m c k now window out)
    else flow_written m c k.flowing now window out
