-- SEGMENTS THAT GO OUT AS ONE, for a device that cuts them: what waits, and what is discarded, is as of a segment that goes
-- alone.
use Rattle.std.specs.Prelude.{ℕ, ◌/◌, nat_le, Bool, not, ◌&&◌, if◌then◌else◌, List, length, Option, None, is_some, max, min, option_map}
use Rattle.tcp_congestion.specs.Control.{Control}
use Rattle.tcp_driver.specs.Machine.{Machine}
use Rattle.tcp_flow.specs.Flow.{Flowing, allowed, emitted_as_one, rested, row_of}
use Rattle.tcp_connection.specs.Connection.{Connecting}
use Rattle.tcp_connection.specs.Going.{asked, holds_back, is_asked, is_discarded, is_past, limiter_after, may_answer, noted, queued, usable}
use Rattle.tcp_connection.specs.Insight.{Insight}
use Rattle.tcp_connection.specs.Policy.{holds_any}

-- HOW MANY of those that are asked for: full ones alone, or the one that may go; what is left waits by itself (RFC 9293,
-- 3.8.6.2.1). Unless it goes at once behind them: without the Nagle algorithm what is left goes where the window has room for
-- all that is queued (3.8.6.2.1, (2))
abbrev pub full_segments : {S W : Type 0} → Machine S → Insight S → Connecting S W → Bool → ℕ
full_segments m i k past = min (queued i k past) (usable m i k) / k.smss

abbrev pub is_whole : {S W : Type 0} → Machine S → Insight S → Connecting S W → Bool → Bool
is_whole m i k past = not k.policy.is_nagle && nat_le (queued i k past) (usable m i k)

abbrev pub most_by : {S W : Type 0} → Machine S → Insight S → Connecting S W → Bool → ℕ → ℕ
most_by m i k past most = if is_asked i k past && not (is_whole m i k past) then min most (max 1 (full_segments m i k past)) else most

abbrev pub most_of : {S W : Type 0} → Machine S → Insight S → Control W → Connecting S W → ℕ → ℕ → ℕ
most_of m i c k window most = most_by m i k (is_past m c k window) most

-- ---- THE FLOW EMITS them: its answer, by the end's, what is written, the flow after it, and how many numbers they take
unfoldable pub flow_train : {S W T : Type 0} → Machine S → (S → ℕ → ℕ → ℕ → Option T) → Control W → Flowing S W → ℕ → ℕ → ℕ → ℕ → Option T
flow_train m answer c f now window most room = answer f.driving.core (allowed m c (rested m c f now) window) most room

unfoldable pub train_written : {S W : Type 0} → Machine S → Control W → Flowing S W → ℕ → ℕ → ℕ → List ℕ → List ℕ
train_written m c f now window most out = m.written_row f.driving.core (allowed m c (rested m c f now) window) most out

unfoldable pub train_after : {S W : Type 0} → Machine S → Control W → Flowing S W → ℕ → ℕ → ℕ → ℕ → Flowing S W
train_after m c f now window most room = emitted_as_one m c (rested m c f now) now window most room

unfoldable pub train_count : {S W : Type 0} → Machine S → Control W → Flowing S W → ℕ → ℕ → ℕ → ℕ → Option ℕ
train_count m c f now window most room = option_map (λ row. row.count) (row_of m c (rested m c f now) window most room)

-- ---- WHAT DOESN'T WAIT GOES OUT, at most so many
abbrev pub discards_train : {S W : Type 0} → Machine S → Control W → Connecting S W → ℕ → ℕ → ℕ → ℕ → Bool
discards_train m c k now window most room = is_discarded (may_answer m k) (train_count m c k.flowing now window most room) k.limiter now

abbrev pub train_flow_going : {S W : Type 0} → Machine S → Control W → Connecting S W → ℕ → ℕ → ℕ → ℕ → Flowing S W
train_flow_going m c k now window most room =
    if discards_train m c k now window most room then train_after m c (train_after m c k.flowing now window most room) now window most room
    else train_after m c k.flowing now window most room

abbrev pub train_count_going : {S W : Type 0} → Machine S → Control W → Connecting S W → ℕ → ℕ → ℕ → ℕ → Option ℕ
train_count_going m c k now window most room =
    if discards_train m c k now window most room then train_count m c (train_after m c k.flowing now window most room) now window most room
    else train_count m c k.flowing now window most room

abbrev pub train_going : {S W T : Type 0} → Machine S → (S → ℕ → ℕ → ℕ → Option T) → Control W → Connecting S W → ℕ → ℕ → ℕ → ℕ → Option T
train_going m answer c k now window most room =
    if discards_train m c k now window most room then flow_train m answer c (train_after m c k.flowing now window most room) now window most room
    else flow_train m answer c k.flowing now window most room

abbrev pub train_written_going : {S W : Type 0} → Machine S → Control W → Connecting S W → ℕ → ℕ → ℕ → List ℕ → List ℕ
train_written_going m c k now window most out =
    if discards_train m c k now window most (length out)
    then train_written m c (train_after m c k.flowing now window most (length out)) now window most (train_written m c k.flowing now window most out)
    else train_written m c k.flowing now window most out

abbrev pub after_train_going : {S W : Type 0} → Machine S → Insight S → Control W → Connecting S W → ℕ → ℕ → ℕ → ℕ → Connecting S W
after_train_going m i c k now window most room =
    noted m i k (train_flow_going m c k now window most room)
    (limiter_after (may_answer m k) (train_count m c k.flowing now window most room) k.limiter now)
    (is_some (train_count_going m c k now window most room))

-- ---- EMIT AS ONE
abbrev pub after_train : {S W : Type 0} → Machine S → Insight S → Control W → Connecting S W → ℕ → ℕ → ℕ → ℕ → Connecting S W
after_train m i c k now window most room =
    if holds_any k.policy
    then (if holds_back m i c k window now then asked m i c k window now
    else after_train_going m i c (asked m i c k window now) now window (most_of m i c k window most) room)
    else record k { flowing = train_after m c k.flowing now window most room }

abbrev pub train_by_emit : {S W T : Type 0} → Machine S → Insight S → (S → ℕ → ℕ → ℕ → Option T) → Control W → Connecting S W → ℕ → ℕ → ℕ → ℕ → Option T
train_by_emit m i answer c k now window most room =
    if holds_any k.policy
    then (if holds_back m i c k window now then None else train_going m answer c k now window (most_of m i c k window most) room)
    else flow_train m answer c k.flowing now window most room

abbrev pub written_by_train : {S W : Type 0} → Machine S → Insight S → Control W → Connecting S W → ℕ → ℕ → ℕ → List ℕ → List ℕ
written_by_train m i c k now window most out =
    if holds_any k.policy
    then (if holds_back m i c k window now then out else train_written_going m c k now window (most_of m i c k window most) out)
    else train_written m c k.flowing now window most out
