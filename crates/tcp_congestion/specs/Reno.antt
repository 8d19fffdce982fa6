-- The congestion window (RFC 5681, 3 and 4.1; RFC 6582, 3.2; RFC 3042, 2). All sizes are bytes, and positions count from the SYN, which
-- is at 0, in the direction of what is sent (RFC 9293, 3.4). `flight` is FlightSize: what was sent and isn't acknowledged.
use Rattle.std.specs.Prelude.{ℕ, ◌+◌, ◌-◌, ◌*◌, ◌/◌, ◌<◌, ◌≤◌, ◌==◌, ◌&&◌, ◌||◌, not, min, max, Bool, true, false, nat_lt, nat_le, if◌then◌else◌}
use Rattle.tcp_congestion.specs.HyStart.{IsSlowStart, SlowStart, after_trip, growth_of, is_complete, new_start}
use Rattle.tcp_congestion.specs.Sizes.{max_limit, max_segment, max_window}

pub record Window : Type 0 where
  -- SMSS, of a full segment
  pub smss : ℕ
  -- L in segments: so much an acknowledgement counts at most in the first slow start (RFC 3465, 2.2)
  pub limit : ℕ
  pub cwnd : ℕ
  pub ssthresh : ℕ
  -- acknowledged towards the next segment of congestion avoidance
  pub bytes_acked : ℕ
  -- the position after all that was sent when the last loss was found
  pub recover : ℕ
  -- fast recovery goes on
  pub is_recovering : Bool
  -- losses are found by time in it, so that nothing else has to say what goes out again
  pub is_found : Bool
  -- the timer has expired, and nothing was acknowledged since
  pub is_timed_out : Bool
  -- duplicate acknowledgements in a row, of which three count
  pub duplicates : ℕ
  -- what was sent again since the last loss was found, and isn't acknowledged
  pub resent : ℕ
  -- the first slow start, which ends before a loss where round trips become longer (RFC 9406)
  pub start : SlowStart

-- IW (RFC 6928, 2)
abbrev pub initial_window : ℕ → ℕ
initial_window smss = min (10 * smss) (max (2 * smss) 14600)

-- ssthresh is arbitrarily high (RFC 5681, 3.1), recover is the initial sequence number (RFC 6582, 3.2, 1), and an acknowledgement counts
-- for a segment at most (RFC 5681, 3.1, equation 2)
abbrev pub new_window : ℕ → Window
new_window smss = record {
  smss = smss;
  limit = 1;
  cwnd = initial_window smss;
  ssthresh = max_window;
  bytes_acked = 0;
  recover = 0;
  is_recovering = false;
  is_found = false;
  is_timed_out = false;
  duplicates = 0;
  resent = 0;
  start = new_start;
}

-- the same with another limit
abbrev pub new_window_with : ℕ → ℕ → Window
new_window_with smss limit = record (new_window smss) { limit = limit }

-- ---- how it grows

-- nothing was lost yet, and slow start goes on (RFC 5681, 3.1): HyStart++ is for this one alone (RFC 9406, 4.3)
abbrev pub is_first_start : Window → Bool
is_first_start w = w.ssthresh == max_window

-- min (N, L), and less in Conservative Slow Start (RFC 9406, 4.2; RFC 3465, 2.2 and 2.3): behind a loss L is a segment, since an
-- acknowledgement may cover there what had come long before
abbrev pub started_by : Window → ℕ → ℕ
started_by w acked = if is_first_start w then growth_of w.start acked w.smss w.limit else min acked w.smss

-- SLOW START (RFC 5681, 3.1, equation 2; RFC 9406, 4.2)
abbrev pub slow_started : Window → ℕ → Window
slow_started w acked = record w { cwnd = min max_window (w.cwnd + started_by w acked) }

-- CONGESTION AVOIDANCE (RFC 5681, 3.1; RFC 3465, 2.1): cwnd += SMSS once a window was acknowledged
abbrev pub avoided : Window → ℕ → Window
avoided w all =
    if nat_le w.cwnd all
    then record w { cwnd = min max_window (w.cwnd + w.smss); bytes_acked = all - w.cwnd }
    else record w { bytes_acked = all }

abbrev pub grown : Window → ℕ → Window
grown w acked = if nat_lt w.cwnd w.ssthresh then slow_started w acked else avoided w (w.bytes_acked + min acked w.cwnd)

-- half of the window was in flight when the acknowledgement came (RFC 7661, 4.3): one that isn't filled says nothing of the path
abbrev pub is_used : Window → ℕ → ℕ → Bool
is_used w acked flight = nat_le w.cwnd (2 * (acked + flight))

abbrev pub after_growth : Window → ℕ → ℕ → Window
after_growth w acked flight = if is_used w acked flight then grown w acked else w

-- ---- how a loss is repaired

-- ssthresh = max (FlightSize / 2, 2 * SMSS) (RFC 5681, 3.1, equation 4), where what limited transmit sent past cwnd isn't counted
-- (RFC 5681, 3.2, 2)
abbrev pub halved : Window → ℕ → Window
halved w flight = record w { ssthresh = max (min flight w.cwnd / 2) (2 * w.smss) }

-- RECOVERY BEGINS (RFC 5681, 3.2, 3; RFC 6582, 3.2, 2): cwnd = ssthresh, and a segment for each that is known to have left the
-- network, as three duplicates say of three; and recover is set
abbrev pub begun : Window → ℕ → ℕ → Window
begun w left snd_nxt = record w {
  cwnd = w.ssthresh + left * w.smss;
  bytes_acked = 0;
  recover = snd_nxt;
  is_recovering = true;
  is_found = false;
  duplicates = 0;
  resent = 0;
}

-- each further duplicate is a segment that has left the network (RFC 5681, 3.2, 4)
abbrev pub inflated : Window → Window
inflated w = record w { cwnd = min max_window (w.cwnd + w.smss) }

-- A PARTIAL ACKNOWLEDGEMENT (RFC 6582, 3.2, 3): cwnd is deflated by what it acknowledges, SMSS is added back where that is as much;
-- and a segment at least is left
abbrev pub deflated : Window → ℕ → Window
deflated w acked = record w { cwnd = max w.smss ((w.cwnd - acked) + (if nat_le w.smss acked then w.smss else 0)) }

-- A FULL ONE (RFC 6582, 3.2, 3): cwnd = min (ssthresh, max (FlightSize, SMSS) + SMSS)
abbrev pub recovered : Window → ℕ → Window
recovered w flight = record w { cwnd = min w.ssthresh (max flight w.smss + w.smss); bytes_acked = 0; is_recovering = false }

-- ---- what happens to it

-- something was acknowledged: nothing is a duplicate of what came before it, and the first segment is another one
abbrev pub with_progress : Window → ℕ → Window
with_progress w acked = record w { is_timed_out = false; duplicates = 0; resent = w.resent - acked }

-- IT SAYS THAT THE FIRST SEGMENT IS LOST, and goes out again, unless losses are found by time: RFC 6582 is for who knows nothing else of
-- what is lost (1)
abbrev pub is_partial : Window → ℕ → Bool
is_partial w snd_una = if w.is_recovering && not w.is_found then nat_lt snd_una w.recover else false

abbrev pub after_recovering : Window → ℕ → ℕ → ℕ → Window
after_recovering w acked snd_una flight = if nat_lt snd_una w.recover then deflated w acked else recovered w flight

-- ALL BEFORE snd_una IS ACKNOWLEDGED, `acked` bytes of it now, and `flight` bytes aren't
abbrev pub after_acknowledgement : Window → ℕ → ℕ → ℕ → Window
after_acknowledgement w acked snd_una flight =
    if w.is_recovering
    then after_recovering (with_progress w acked) acked snd_una flight
    else after_growth (with_progress w acked) acked flight

-- BLOCKS REPORT SO MANY BYTES MORE, and SND.UNA stays: they were delivered (DeliveredData: RFC 6937, 2), and the window grows as where so
-- much is acknowledged (own: RFC 5681 has what SND.UNA passes alone, which comes at once and late where segments overtake each other); in
-- a recovery it doesn't. FlightSize counts them still
abbrev pub after_delivery : Window → ℕ → ℕ → Window
after_delivery w delivered flight = if w.is_recovering then w else after_growth w delivered (flight - delivered)

-- A ROUND TRIP WAS MEASURED in the first slow start (RFC 9406, 4.2): once the rounds of Conservative Slow Start are complete, ssthresh is
-- cwnd, and two segments at least
abbrev pub with_trip : Window → ℕ → ℕ → ℕ → Window
with_trip w curr_rtt snd_una snd_nxt = record w {
  ssthresh = if is_complete w.start snd_una then max w.cwnd (2 * w.smss) else w.ssthresh;
  start = after_trip w.start curr_rtt snd_una snd_nxt;
}

abbrev pub after_measurement : Window → ℕ → ℕ → ℕ → Window
after_measurement w curr_rtt snd_una snd_nxt =
    if w.is_recovering then w else (if is_first_start w then with_trip w curr_rtt snd_una snd_nxt else w)

-- THE THIRD DUPLICATE of an acknowledgement of more than recover (RFC 5681, 3.2, 2; RFC 6582, 3.2, 2): what is before recover may have
-- been sent twice, and then duplicates say nothing
abbrev pub is_third : Window → ℕ → Bool
is_third w snd_una = if w.duplicates == 2 then nat_lt w.recover snd_una else false

abbrev pub begins_recovery : Window → ℕ → Bool
begins_recovery w snd_una = if w.is_recovering then false else is_third w snd_una

-- one that isn't says that a segment has left the network
abbrev pub counted : Window → Window
counted w = record w { duplicates = min 3 (w.duplicates + 1) }

abbrev pub after_counting : Window → ℕ → ℕ → ℕ → Window
after_counting w snd_una flight snd_nxt =
    if is_third w snd_una then begun (halved w flight) 3 snd_nxt else counted w

-- A DUPLICATE ACKNOWLEDGEMENT came (RFC 5681, 2)
abbrev pub after_duplicate : Window → ℕ → ℕ → ℕ → Window
after_duplicate w snd_una flight snd_nxt = if w.is_recovering then inflated w else after_counting w snd_una flight snd_nxt

-- A DUPLICATE WITH A NEW BLOCK, where blocks say what is lost (RFC 5681, 4.3): a segment has left the network, and no number of these is
-- a loss
abbrev pub after_report : Window → Window
after_report w = if w.is_recovering then inflated w else counted w

-- A LOSS WAS FOUND by blocks or by a probe. One for each window of data shrinks it (RFC 5681, 4.3): not again before all is acknowledged
-- that was in flight when the last one was found
abbrev pub is_new_loss : Window → ℕ → Bool
is_new_loss w snd_una = if w.is_recovering then false else nat_le w.recover snd_una

abbrev pub after_loss : Window → ℕ → ℕ → ℕ → Window
after_loss w snd_una flight snd_nxt = if is_new_loss w snd_una then begun (halved w flight) w.duplicates snd_nxt else w

-- LOSSES ARE FOUND BY TIME in the recovery that goes on (RFC 8985)
abbrev pub after_finding : Window → Window
after_finding w = record w { is_found = true }

-- BLOCKS REPORT SO MANY BYTES of what is in flight, which have left the network: in a recovery the window is ssthresh and these, so that
-- pipe is ssthresh (RFC 6675, 4 and 5). Where they report nothing, and losses aren't found by time, it is that of RFC 6582
abbrev pub has_pipe : Window → ℕ → Bool
has_pipe w reported = w.is_recovering && (w.is_found || nat_lt 0 reported)

abbrev pub with_pipe : Window → ℕ → Window
with_pipe w reported = if has_pipe w reported then record w { cwnd = min max_window (w.ssthresh + reported) } else w

-- WHAT WAS SENT AGAIN WAS LOST AGAIN: cwnd and ssthresh are lowered once more (RFC 5681, 4.3), by half of ssthresh, or of cwnd where that
-- is less; what was let out for segments that have left the network stays
abbrev pub base_of : Window → ℕ
base_of w = min w.cwnd w.ssthresh

abbrev pub lowered : Window → ℕ → Window
lowered w least = record w {
  ssthresh = max least (2 * w.smss);
  cwnd = max w.smss (w.cwnd - (base_of w - max least (2 * w.smss)));
  bytes_acked = 0;
}

abbrev pub after_second_loss : Window → Window
after_second_loss w = lowered w (base_of w / 2)

-- THE TIMER HAS EXPIRED (RFC 5681, 3.1): cwnd is the loss window, SMSS; ssthresh is set the first time that a segment is sent again by
-- the timer, and held then. Fast recovery is over, and recover is set (RFC 6582, 3.2, 4)
abbrev pub restarted : Window → ℕ → Window
restarted w snd_nxt = record w {
  cwnd = w.smss;
  bytes_acked = 0;
  recover = snd_nxt;
  is_recovering = false;
  is_timed_out = true;
  duplicates = 0;
  resent = 0;
}

-- in a recovery a loss has lowered ssthresh already, and what is in flight has in it what blocks report: the timer doesn't raise it
abbrev pub no_higher : Window → ℕ → ℕ
no_higher w ssthresh = if w.is_recovering then min ssthresh w.ssthresh else ssthresh

abbrev pub after_timeout : Window → ℕ → ℕ → Window
after_timeout w flight snd_nxt =
    restarted (record w { ssthresh = if w.is_timed_out then w.ssthresh else no_higher w (halved w flight).ssthresh }) snd_nxt

-- SO MUCH WAS SENT AGAIN. What a loss concerns isn't in flight any more, so that what is sent again is all that is: it begins with the
-- loss window and grows by slow start, as new data would (RFC 5681, 3.1)
abbrev pub after_resent : Window → ℕ → Window
after_resent w count = record w { resent = min max_window (w.resent + count) }

abbrev pub may_resend : Window → Bool
may_resend w = nat_lt w.resent w.cwnd

-- BOTH SYNs HAVE AGREED on SMSS: the window begins with IW of it (RFC 6928, 2), or with one segment where a SYN was lost before
abbrev pub after_agreement : Window → ℕ → Window
after_agreement w smss = record (new_window_with smss w.limit) { cwnd = if w.cwnd == w.smss then smss else initial_window smss }

-- A SYN WAS LOST: the window begins with one segment (RFC 5681, 3.1)
abbrev pub after_syn_resent : Window → Window
after_syn_resent w = record w { cwnd = w.smss }

-- NOTHING WAS SENT for longer than the timeout: cwnd is the restart window, min (IW, cwnd), and what was acknowledged before doesn't
-- count (RFC 5681, 4.1)
abbrev pub after_idle : Window → Window
after_idle w = record w { cwnd = min (initial_window w.smss) w.cwnd; bytes_acked = 0 }

-- LIMITED TRANSMIT (RFC 3042, 2): each of the first two duplicates lets a new segment out beyond cwnd, which stays as it is
abbrev pub limited : Window → ℕ
limited w = if w.is_recovering then 0 else min w.duplicates 2 * w.smss

abbrev pub room_of : Window → ℕ → ℕ
room_of w flight = (w.cwnd + limited w) - flight

-- ---- what always holds
pub record IsWindow (w : Window) : Type 0 where
  pub positive : 0 < w.smss
  pub fits : w.smss ≤ max_segment
  pub counts : 0 < w.limit
  pub limited : w.limit ≤ max_limit
  pub least : w.smss ≤ w.cwnd
  pub most : w.cwnd ≤ max_window
  pub threshold : 2 * w.smss ≤ w.ssthresh
  pub threshold_most : w.ssthresh ≤ max_window
  pub acked : w.bytes_acked ≤ max_window
  pub duplicates : w.duplicates ≤ 3
  pub resent : w.resent ≤ max_window
  pub start : IsSlowStart w.start
