-- One end with its times, under a congestion window, whatever the end and the window are. Where a window is none (`limits`), nothing is
-- told to it, and nothing waits for it: the flow does what its driver does.
use Rattle.std.specs.Prelude.{◌≡◌, ℕ, ◌+◌, ◌-◌, ◌*◌, ◌<◌, ◌≤◌, nat_lt, nat_le, min, Bool, true, false, not, ◌&&◌, ◌||◌, ◌==◌, if◌then◌else◌, List, Option, Some, None, IfSome, is_some}
use Rattle.tcp_timing.specs.declared.round_trip.RoundTrip.{RoundTrip}
use Rattle.tcp_congestion.specs.Control.{Control}
use Rattle.tcp_congestion.specs.Sizes.{latest}
use Rattle.tcp_driver.specs.declared.machine.Report.{Report}
use Rattle.tcp_driver.specs.declared.machine.Row.{Row}
use Rattle.tcp_driver.specs.declared.machine.Sent.{Sent}
use Rattle.tcp_driver.specs.declared.machine.Timer.{Timer}
use Rattle.tcp_driver.specs.declared.machine.Timer.TheVariants.{Retransmit, Reorder}
use Rattle.tcp_driver.specs.Times.{expiry}
use Rattle.tcp_driver.specs.Driver.{Driving, after_arrival, after_emission, after_patience, after_time, after_user, after_user_timeout, at, holds, is_withheld, sent_of, way_of}
use Rattle.tcp_driver.specs.Machine.{Machine}
use Rattle.tcp_driver.specs.Rows.{after_emissions, emissions_of}
use Rattle.tcp_flow.specs.declared.loss.Loss.{Loss}
use Rattle.tcp_flow.specs.declared.loss.Loss.TheVariants.{Found, Again, Repaired}

pub record Flowing (S W : Type 0) : Type 0 where
  pub driving : Driving S
  pub window : W
  -- whether the peer's window was shut when it was last taken
  pub shut : Bool
  -- when text was last sent
  pub sent_at : ℕ
  -- partial acknowledgements in a row that covered no more than was sent again, of which two count
  pub drops : ℕ
  -- duplicates behind all that was sent again, of which three count
  pub repeats : ℕ
  -- losses are found by time, not a round trip behind a gap
  pub patient : Bool

abbrev pub new_flowing : {S W : Type 0} → Driving S → W → ℕ → Flowing S W
new_flowing driving window now = record { driving = driving; window = window; shut = false; sent_at = now; drops = 0; repeats = 0; patient = false }

-- ---- WHAT IT KNOWS of its end: SND.UNA, how many numbers are in flight, SND.NXT, and whether blocks report a gap
abbrev pub una_of : {S W : Type 0} → Machine S → Flowing S W → ℕ
una_of m f = m.una f.driving.core

abbrev pub flight_of : {S W : Type 0} → Machine S → Flowing S W → ℕ
flight_of m f = m.flight f.driving.core

abbrev pub nxt_of : {S W : Type 0} → Machine S → Flowing S W → ℕ
nxt_of m f = min latest (una_of m f + flight_of m f)

abbrev pub has_blocks : {S W : Type 0} → Machine S → Flowing S W → Bool
has_blocks m f = (m.wants f.driving.core).reorder

-- the smoothed round trip, or 0 before one was measured
abbrev pub srtt_of : Option RoundTrip → ℕ
srtt_of None = 0
srtt_of (Some trip) = trip.srtt

-- ---- AN ARRIVAL. What the driver is told of it is told to the window
abbrev pub shut_by : Option ℕ → Bool → Bool
shut_by None before = before
shut_by (Some window) before = window == 0

-- the first segment goes out again (RFC 5681, 3.2; RFC 6582, 3.2, 3), where no blocks say what is lost
abbrev pub with_first : {S W : Type 0} → Machine S → Flowing S W → ℕ → Bool → Flowing S W
with_first m f now again =
    if again then record f { driving = after_user m f.driving (at f.driving now) (m.first_resent f.driving.core) } else f

-- A PEER THAT KEEPS NOTHING OUT OF ORDER lacks all that was sent behind a loss, and a segment for each partial acknowledgement (RFC
-- 6582, 4) would be long in coming to its end. Where blocks say nothing, two partial acknowledgements in a row of one recovery that cover
-- no more than two segments, as one may (RFC 5681, 4.2), are of such a peer (own); until the first acknowledgement behind all that was sent again
-- covers more than the window had let out again of it
abbrev pub most_drops : ℕ
most_drops = 2

abbrev pub most_repeats : ℕ
most_repeats = 3

abbrev pub drops_after : ℕ → ℕ → ℕ → Bool → Bool → ℕ
drops_after before smss acked partial kept =
    if partial then (if nat_lt smss (acked - smss) then 0 else min most_drops (before + 1))
    else (if before == most_drops && not kept then most_drops else 0)

abbrev pub counted_drops : {S W : Type 0} → Machine S → Control W → Flowing S W → ℕ → ℕ
counted_drops m c f acked =
    if c.is_recovering f.window && not (has_blocks m f)
    then drops_after f.drops (c.smss f.window) acked (c.is_partial f.window (una_of m f)) (f.repeats == most_repeats && nat_lt (c.cwnd f.window) acked)
    else f.drops

-- TO IT ALL THAT IS IN FLIGHT goes out again, within the window, and no partial acknowledgement has the first segment sent again
abbrev pub with_all : {S W : Type 0} → Machine S → Control W → Flowing S W → ℕ → Flowing S W
with_all m c f now = record f {
  driving = after_user m f.driving (at f.driving now) (m.resent f.driving.core (una_of m f) (nxt_of m f));
  window = c.found_by_time f.window;
  repeats = most_repeats;
}

abbrev pub with_lost : {S W : Type 0} → Machine S → Control W → Flowing S W → ℕ → Bool → Flowing S W
with_lost m c f now again = if again && f.drops == most_drops then with_all m c f now else with_first m f now again

-- WHAT AN ARRIVAL HAS DELIVERED (DeliveredData: RFC 6937, 2): what it acknowledges and what blocks report then, but for what they had
-- reported before it. By so much the window grows where losses are found by time, soon behind a gap. Elsewhere, where a gap is found lost a
-- round trip later, in which it would grow on, and in a recovery, where it doesn't, what is acknowledged is told
abbrev pub counts_blocks : {S W : Type 0} → Control W → Flowing S W → Bool
counts_blocks c f = f.patient && not (c.is_recovering f.window)

abbrev pub reported_before : {S W : Type 0} → Machine S → Control W → Flowing S W → ℕ
reported_before m c f = if counts_blocks c f then m.reported f.driving.core else 0

abbrev pub delivered_by : {S W : Type 0} → Machine S → Control W → Flowing S W → ℕ → Report → ℕ
delivered_by m c f reported report =
    if counts_blocks c f then min latest (report.acked + m.reported f.driving.core) - reported else report.acked

-- where SND.UNA stays blocks alone tell of it
abbrev pub with_delivery : {S W : Type 0} → Machine S → Control W → Flowing S W → ℕ → ℕ → Flowing S W
with_delivery m c f delivered now =
    if counts_blocks c f && not (delivered == 0)
    then record f { window = c.delivered f.window delivered (flight_of m f) now (srtt_of f.driving.times.estimate.trip) }
    else f

-- SND.UNA HAS MOVED ON
abbrev pub after_progress : {S W : Type 0} → Machine S → Control W → Flowing S W → ℕ → ℕ → ℕ → Flowing S W
after_progress m c f acked delivered now =
    with_lost m c (record f {
      window = c.acknowledged f.window delivered (una_of m f) (flight_of m f) now (srtt_of f.driving.times.estimate.trip);
      drops = counted_drops m c f acked;
      repeats = 0;
    }) now (c.is_partial f.window (una_of m f) && not (has_blocks m f))

-- IT SAYS SOMETHING of what is in flight where SND.UNA has moved on, or the peer's window was taken from it
abbrev pub says_something : {S W : Type 0} → Machine S → Flowing S W → ℕ → Report → Bool
says_something m f una report = nat_lt una (una_of m f) || is_some report.window

-- IN RECOVERY AS MANY AS SSTHRESH ARE UNDER WAY beside what blocks report (RFC 6675, 4 and 5)
abbrev pub with_pipe : {S W : Type 0} → Machine S → Control W → Flowing S W → Flowing S W
with_pipe m c f = if c.is_recovering f.window then record f { window = c.with_pipe f.window (m.reported f.driving.core) } else f

abbrev pub with_pipe_if : {S W : Type 0} → Bool → Machine S → Control W → Flowing S W → Flowing S W
with_pipe_if says m c f = if says then with_pipe m c f else f

-- the third duplicate behind all that was sent again says that of this something was lost (RFC 5681, 4.3)
abbrev pub after_repeat : {S W : Type 0} → Machine S → Control W → Flowing S W → ℕ → Flowing S W
after_repeat m c f now =
    if f.repeats == 2 then with_all m c (record f { window = c.lost_again f.window }) now
    else record f { repeats = min most_repeats (f.repeats + 1) }

-- A DUPLICATE came, which counts where no blocks report gaps (RFC 5681, 4.3); in recovery it does by what blocks report
abbrev pub after_duplicate : {S W : Type 0} → Machine S → Control W → Flowing S W → ℕ → Flowing S W
after_duplicate m c f now =
    if has_blocks m f then (if c.is_recovering f.window then f else record f { window = c.reported f.window })
    else (if c.is_recovering f.window && f.drops == most_drops then after_repeat m c f now
    else with_lost m c (record f { window = c.duplicated f.window (una_of m f) (flight_of m f) (nxt_of m f) }) now (c.begins_recovery f.window (una_of m f)))

-- while the peer's window is shut what comes again and again answers probes, and says nothing of the path (RFC 9293, 3.8.6.1)
abbrev pub after_report : {S W : Type 0} → Machine S → Control W → Flowing S W → ℕ → ℕ → Report → ℕ → Flowing S W
after_report m c f una delivered report now =
    if nat_lt una (una_of m f) then after_progress m c f report.acked delivered now
    else (if report.is_duplicate && not f.shut then after_duplicate m c (with_delivery m c f delivered now) now else with_delivery m c f delivered now)

-- SMSS is what both SYNs agreed on, once they have (RFC 5681, 2)
abbrev pub agreed_by : {W : Type 0} → Control W → W → Option ℕ → W
agreed_by c w None = w
agreed_by c w (Some smss) = if c.smss w == smss then w else c.agreed w smss

abbrev pub settled : {S W : Type 0} → (S → Option ℕ) → Control W → Flowing S W → Flowing S W
settled smss_of c f = record f { window = agreed_by c f.window (smss_of f.driving.core) }

-- told of a segment that was taken, before which SND.UNA was this, and blocks reported so much
abbrev pub told : {S W : Type 0} → Machine S → (S → Option ℕ) → Control W → Flowing S W → ℕ → ℕ → Report → ℕ → Flowing S W
told m smss_of c f una reported report now =
    if c.limits f.window
    then settled smss_of c
    (with_pipe_if (says_something m f una report) m c
    (after_report m c (record f { shut = shut_by report.window f.shut }) una (delivered_by m c f reported report) report now))
    else f

abbrev pub after_segment : {S W : Type 0} → Machine S → (S → Option ℕ) → Control W → Flowing S W → ℕ → List ℕ → List ℕ → List ℕ → Bool → Flowing S W
after_segment m smss_of c f now src dst bytes vouched =
    if f.driving.times.bursting || is_withheld m f.driving.core bytes then f
    else told m smss_of c (record f { driving = after_arrival m f.driving (at f.driving now) src dst bytes (way_of f.driving vouched) }) (una_of m f)
    (reported_before m c f) (m.report f.driving.core src dst bytes (way_of f.driving vouched)) now

-- ---- AN EMISSION. Nothing was in flight, and nothing sent for longer than the timeout (RFC 5681, 4.1)
abbrev pub is_idle : {S W : Type 0} → Machine S → Flowing S W → ℕ → Bool
is_idle m f now = (flight_of m f == 0) && nat_lt f.driving.times.estimate.rto (now - f.sent_at)

abbrev pub rested : {S W : Type 0} → Machine S → Control W → Flowing S W → ℕ → Flowing S W
rested m c f now = if c.limits f.window && is_idle m f now then record f { window = c.idle f.window } else f

-- BEFORE A LOSS IS FOUND what blocks report has left the network, so that as much may go out beside cwnd: limited transmit is governed by
-- pipe (RFC 6675, 4 and 5, step 3), here until losses are found by time (own). It holds once all is acknowledged that was in flight when
-- the last one was found, and not in slow start, where a gap is mostly that of a queue that has overflowed (own)
abbrev pub is_avoiding : {S W : Type 0} → Control W → Flowing S W → Bool
is_avoiding c f = nat_le (c.ssthresh f.window) (c.cwnd f.window)

abbrev pub left_of : {S W : Type 0} → Machine S → Control W → Flowing S W → ℕ
left_of m c f = if f.patient && (is_avoiding c f && c.is_new_loss f.window (una_of m f)) then m.reported f.driving.core else 0

-- THE WINDOW OF WHAT GOES OUT, in numbers from SND.UNA: the caller's, and the room where nothing is in flight, or cwnd and what has left
-- the network
unfoldable pub let_out_of : {S W : Type 0} → Machine S → Control W → Flowing S W → ℕ
let_out_of m c f = if nat_lt 0 (left_of m c f) then c.cwnd f.window + left_of m c f else c.room f.window 0

abbrev pub allowed : {S W : Type 0} → Machine S → Control W → Flowing S W → ℕ → ℕ
allowed m c f window = if c.limits f.window then min window (let_out_of m c f) else window

-- cwnd, and past it two segments (RFC 3042, 2), or what has left the network
unfoldable pub most_of : {S W : Type 0} → Machine S → Control W → Flowing S W → ℕ
most_of m c f = c.cwnd f.window + (if nat_lt 0 (left_of m c f) then left_of m c f else 2 * c.smss f.window)

-- WHAT GOES OUT STAYS IN THE WINDOW (RFC 5681, 3.1; RFC 3042, 2; RFC 6675, 5): unless it is the acknowledgement alone, or nothing before it
-- is in flight, it ends at most so much past SND.UNA, and no further than the caller's window
abbrev pub StaysInWindow : {S W : Type 0} → Machine S → Control W → Flowing S W → ℕ → Option Sent → Type 0
StaysInWindow m c f window sent =
    holds m f.driving.core (allowed m c f window) ≡ false → c.limits f.window ≡ true
    → IfSome sent (λ sent. una_of m f < sent.start → 0 < sent.count → sent.start + sent.count ≤ una_of m f + most_of m c f)

abbrev pub StaysInOwn : {S W : Type 0} → Machine S → Control W → Flowing S W → ℕ → Option Sent → Type 0
StaysInOwn m c f window sent =
    holds m f.driving.core (allowed m c f window) ≡ false
    → IfSome sent (λ sent. una_of m f < sent.start → 0 < sent.count → sent.start + sent.count ≤ una_of m f + window)

abbrev pub sent_at_by : Bool → Option Sent → ℕ → ℕ → ℕ
sent_at_by limits None now before = before
sent_at_by limits (Some sent) now before = if limits && not (sent.count == 0) then now else before

abbrev pub emitted : {S W : Type 0} → Machine S → Control W → Flowing S W → ℕ → ℕ → Flowing S W
emitted m c f now window = record f {
  driving = after_emission m f.driving (at f.driving now) (allowed m c f window);
  sent_at = sent_at_by (c.limits f.window) (sent_of m f.driving.core (allowed m c f window)) now f.sent_at;
}

-- AS ONE, for a device that cuts them: as many emissions as these segments are
abbrev pub row_of : {S W : Type 0} → Machine S → Control W → Flowing S W → ℕ → ℕ → ℕ → Option Row
row_of m c f window most room = m.row f.driving.core (allowed m c f window) most room

abbrev pub sent_at_by_row : Bool → Option Row → ℕ → ℕ → ℕ
sent_at_by_row limits None now before = before
sent_at_by_row limits (Some row) now before = if limits && not (row.count == 0) then now else before

abbrev pub emitted_as_one : {S W : Type 0} → Machine S → Control W → Flowing S W → ℕ → ℕ → ℕ → ℕ → Flowing S W
emitted_as_one m c f now window most room = record f {
  driving = after_emissions m (emissions_of (row_of m c f window most room)) f.driving (at f.driving now) (allowed m c f window);
  sent_at = sent_at_by_row (c.limits f.window) (row_of m c f window most room) now f.sent_at;
}

-- ---- TIME PASSES. Of what was in flight before
abbrev pub lost_by : {S W : Type 0} → Machine S → Control W → Flowing S W → Option Timer → W
lost_by m c f (Some Retransmit) =
    if una_of m f == 0 then c.syn_resent f.window
    else (if f.shut then f.window else c.timed_out f.window (flight_of m f) (nxt_of m f))
lost_by m c f (Some Reorder) = c.lost f.window (una_of m f) (flight_of m f) (nxt_of m f)
lost_by m c f other = f.window

abbrev pub after_timeout : {S W : Type 0} → Machine S → Control W → Flowing S W → ℕ → Flowing S W
after_timeout m c f now = record f {
  driving = after_time m f.driving (at f.driving now);
  window = if c.limits f.window then lost_by m c f (expiry f.driving.times (at f.driving now)) else f.window;
}

-- A LOSS that a caller has found by itself is one that blocks found (RFC 5681, 4.3), and the caller will find by time what else is
-- lost; where what was sent again since then is lost again, it is another one; and where it is repaired already, recovery is up to
-- SND.UNA alone (RFC 8985, 7.4.2)
abbrev pub found_by : {S W : Type 0} → Machine S → Control W → Flowing S W → Loss → W
found_by m c f Found = c.found_by_time (c.lost f.window (una_of m f) (flight_of m f) (nxt_of m f))
found_by m c f Again = c.lost_again f.window
found_by m c f Repaired = c.found_by_time (c.lost f.window (una_of m f) (flight_of m f) (una_of m f))

abbrev pub after_loss : {S W : Type 0} → Machine S → Control W → Flowing S W → Loss → Flowing S W
after_loss m c f loss = record f { window = if c.limits f.window then found_by m c f loss else f.window }

-- A ROUND TRIP that a caller has measured by itself behind what came, which is one for HyStart++ (RFC 9406, 4.2)
abbrev pub after_trip : {S W : Type 0} → Machine S → Control W → Flowing S W → ℕ → Flowing S W
after_trip m c f trip = record f { window = if c.limits f.window then c.measured f.window trip (una_of m f) (nxt_of m f) else f.window }

-- ---- A USER'S CALL is the driver's
abbrev pub after_use : {S W : Type 0} → Machine S → Flowing S W → ℕ → S → Flowing S W
after_use m f now core = record f { driving = after_user m f.driving (at f.driving now) core }

abbrev pub after_user_limit : {S W : Type 0} → Flowing S W → Option ℕ → Flowing S W
after_user_limit f limit = record f { driving = after_user_timeout f.driving limit }

abbrev pub after_patience_of : {S W : Type 0} → Flowing S W → Bool → Flowing S W
after_patience_of f patient = record f { driving = after_patience f.driving patient; patient = patient }

-- ANOTHER WINDOW, of an end that has sent no text
abbrev pub with_window : {S W : Type 0} → (S → Option ℕ) → Control W → Flowing S W → W → Flowing S W
with_window smss_of c f window =
    let new = record f { window = window; shut = false } in if c.limits window then settled smss_of c new else new
