-- The congestion window of CUBIC (RFC 9438), with the slow start and the recovery that Reno's has. Windows are bytes, and times counts of
-- microseconds; t - K and K, which are cubed or a cubic root, are whole milliseconds.
use Rattle.std.specs.Prelude.{ℕ, ◌+◌, ◌-◌, ◌*◌, ◌/◌, ◌%◌, ◌^◌, ◌<◌, ◌≤◌, min, max, Bool, true, false, nat_lt, nat_le, if◌then◌else◌}
use Rattle.tcp_congestion.specs.Root.{cube, cubic_root}
use Rattle.tcp_congestion.specs.Sizes.{latest, max_window}
use Rattle.tcp_congestion.specs.Reno.{Window, IsWindow, after_idle, after_recovering, after_report, base_of, begins_recovery, begun, is_new_loss, is_used, lowered, new_window_with, no_higher, restarted, slow_started, with_progress}

pub record CubicWindow : Type 0 where
  -- cwnd, ssthresh, and how a loss is repaired
  pub window : Window
  -- W_max, or 0 where the next stage begins at it
  pub w_max : ℕ
  pub cwnd_prior : ℕ
  -- a stage of congestion avoidance goes on, of which is what follows
  pub is_begun : Bool
  -- K, in milliseconds
  pub k : ℕ
  -- W_est, in parts of a byte
  pub w_est : ℕ
  -- so many parts of a byte the window is larger than cwnd
  pub rest : ℕ
  -- t, and up to when it is counted
  pub t : ℕ
  pub counted : ℕ

-- a byte has 2^23 parts
abbrev pub parts : ℕ
parts = 2 ^ 23

-- no time counts for more, nor a distance between windows for more segments: 2,000,000 ms, and 2^31
abbrev pub longest : ℕ
longest = 2000000

abbrev pub farthest : ℕ
farthest = 2 ^ 31

abbrev pub new_cubic : ℕ → ℕ → CubicWindow
new_cubic smss limit = record {
  window = new_window_with smss limit;
  w_max = 0;
  cwnd_prior = 0;
  is_begun = false;
  k = 0;
  w_est = 0;
  rest = 0;
  t = 0;
  counted = 0;
}

-- ---- how it grows

-- C * d^3 (RFC 9438, 4.1 and 4.2), with C = 0.4 segments each cubic second
abbrev pub rise : ℕ → ℕ → ℕ
rise smss d = cube (min longest d) * smss / 2500000000

-- W_cubic(t) = C * (t - K)^3 + W_max (RFC 9438, 4.2), of which one side of K is 0
abbrev pub w_cubic : CubicWindow → ℕ → ℕ
w_cubic c t = (c.w_max + rise c.window.smss (t / 1000 - c.k)) - rise c.window.smss (c.k - t / 1000)

-- K = cubic root of (W_max - cwnd_epoch) / C (RFC 9438, 4.2)
abbrev pub k_of : ℕ → ℕ → ℕ
k_of smss apart = cubic_root (min apart (farthest * smss) * 2500000000 / smss)

-- A STAGE of congestion avoidance BEGINS with this window, cwnd_epoch (RFC 9438, 4.2, 4.3 and 4.8)
abbrev pub stage_begun : CubicWindow → ℕ → CubicWindow
stage_begun c now = record c {
  w_max = max c.w_max c.window.cwnd;
  is_begun = true;
  k = k_of c.window.smss (c.w_max - c.window.cwnd);
  w_est = c.window.cwnd * parts;
  rest = 0;
  t = 0;
  counted = now;
}

-- the time since the last acknowledgement counts (RFC 9438, 4.2)
abbrev pub timed : CubicWindow → ℕ → CubicWindow
timed c now = record c { t = min (longest * 1000) (c.t + (now - c.counted)); counted = now }

-- alpha * SMSS / cwnd, with alpha = 3 * (1 - beta) / (1 + beta) = 9/17, or 1 once the window is what it was before (RFC 9438, 4.3)
abbrev pub est_rate : CubicWindow → ℕ
est_rate c =
    if nat_le (c.cwnd_prior * parts) c.w_est then c.window.smss * parts / c.window.cwnd else 9 * c.window.smss * parts / (17 * c.window.cwnd)

-- W_est += alpha * segments_acked / cwnd (RFC 9438, 4.3)
abbrev pub estimated : CubicWindow → ℕ → CubicWindow
estimated c acked = record c { w_est = min (max_window * parts) (c.w_est + est_rate c * min acked c.window.cwnd) }

-- THE RENO-FRIENDLY REGION (RFC 9438, 4.3) is where W_cubic is below W_est: cwnd = W_est
abbrev pub is_friendly : CubicWindow → Bool
is_friendly c = nat_lt (w_cubic c c.t) (c.w_est / parts)

abbrev pub befriended : CubicWindow → CubicWindow
befriended c =
    if nat_lt c.window.cwnd (c.w_est / parts)
    then record c { window = record c.window { cwnd = c.w_est / parts }; rest = c.w_est % parts }
    else c

-- target, between cwnd and 1.5 * cwnd (RFC 9438, 4.2)
abbrev pub target_of : CubicWindow → ℕ → ℕ
target_of c t = min (max (w_cubic c t) c.window.cwnd) (c.window.cwnd + c.window.cwnd / 2)

-- CONCAVE AND CONVEX REGION (RFC 9438, 4.4 and 4.5): cwnd += (target - cwnd) / cwnd for each segment that is acknowledged
abbrev pub widened : CubicWindow → ℕ → CubicWindow
widened c all = record c { window = record c.window { cwnd = min max_window (c.window.cwnd + all / parts) }; rest = all % parts }

abbrev pub approached : CubicWindow → ℕ → ℕ → CubicWindow
approached c acked t = widened c (c.rest + (target_of c t - c.window.cwnd) * parts / c.window.cwnd * min acked c.window.cwnd)

-- CONGESTION AVOIDANCE (RFC 9438, 4.2 and 4.3): towards what W_cubic is a round trip later, or to W_est where that is more than W_cubic
abbrev pub avoided : CubicWindow → ℕ → ℕ → CubicWindow
avoided c acked rtt =
    if is_friendly c then befriended c else approached c acked (min latest (c.t + rtt))

abbrev pub in_stage : CubicWindow → ℕ → CubicWindow
in_stage c now = if c.is_begun then c else stage_begun c now

-- SLOW START while cwnd is no more than ssthresh (RFC 9438, 4.10), else congestion avoidance
abbrev pub grown : CubicWindow → ℕ → ℕ → ℕ → CubicWindow
grown c acked now rtt =
    if nat_le c.window.cwnd c.window.ssthresh then record c { window = slow_started c.window acked }
    else avoided (estimated (timed (in_stage c now) now) acked) acked rtt

-- time in which the window isn't used doesn't count (RFC 9438, 4.2 and 5.8)
abbrev pub after_growth : CubicWindow → ℕ → ℕ → ℕ → ℕ → CubicWindow
after_growth c acked flight now rtt = if is_used c.window acked flight then grown c acked now rtt else record c { counted = now }

-- ---- how it shrinks

-- A LOSS (RFC 9438, 4.6 and 4.7): ssthresh is 0.7 of what is in flight, two segments at least, and W_max the window, or 0.85 of it where
-- the last loss found a larger one
abbrev pub reduced : CubicWindow → ℕ → CubicWindow
reduced c flight = record c {
  window = record c.window { ssthresh = max (min flight c.window.cwnd * 7 / 10) (2 * c.window.smss) };
  w_max = if nat_lt c.window.cwnd c.w_max then c.window.cwnd * 17 / 20 else c.window.cwnd;
  cwnd_prior = c.window.cwnd;
  is_begun = false;
}

abbrev pub recovering : CubicWindow → ℕ → ℕ → CubicWindow
recovering c left snd_nxt = record c { window = begun c.window left snd_nxt }

-- ---- what happens to it, by the same names as Reno's

abbrev pub after_acknowledgement : CubicWindow → ℕ → ℕ → ℕ → ℕ → ℕ → CubicWindow
after_acknowledgement c acked snd_una flight now rtt =
    if c.window.is_recovering
    then record c { window = after_recovering (with_progress c.window acked) acked snd_una flight }
    else after_growth (record c { window = with_progress c.window acked }) acked flight now rtt

abbrev pub after_delivery : CubicWindow → ℕ → ℕ → ℕ → ℕ → CubicWindow
after_delivery c delivered flight now rtt = if c.window.is_recovering then c else after_growth c delivered (flight - delivered) now rtt

abbrev pub after_report_of : CubicWindow → CubicWindow
after_report_of c = record c { window = after_report c.window }

abbrev pub after_duplicate : CubicWindow → ℕ → ℕ → ℕ → CubicWindow
after_duplicate c snd_una flight snd_nxt =
    if begins_recovery c.window snd_una then recovering (reduced c flight) 3 snd_nxt else after_report_of c

abbrev pub after_loss : CubicWindow → ℕ → ℕ → ℕ → CubicWindow
after_loss c snd_una flight snd_nxt =
    if is_new_loss c.window snd_una then recovering (reduced c flight) c.window.duplicates snd_nxt else c

-- lost again: once more to 0.7 of it, as Reno's to half
abbrev pub after_second_loss : CubicWindow → CubicWindow
after_second_loss c = record c { window = lowered c.window (base_of c.window * 7 / 10); is_begun = false }

-- A TIMEOUT (RFC 9438, 4.8): as a loss, but cwnd is a segment, and the next stage has K = 0 and begins at W_max
abbrev pub after_timeout : CubicWindow → ℕ → ℕ → CubicWindow
after_timeout c flight snd_nxt =
    if c.window.is_timed_out
    then record c { window = restarted c.window snd_nxt }
    else record (reduced c flight) {
      window = restarted (record (reduced c flight).window { ssthresh = no_higher c.window (reduced c flight).window.ssthresh }) snd_nxt;
      w_max = 0;
    }

-- AN IDLE TIME ends a stage: t doesn't include it (RFC 9438, 4.2 and 5.8)
abbrev pub after_idle_time : CubicWindow → CubicWindow
after_idle_time c = record c { window = after_idle c.window; is_begun = false }

-- ---- what always holds
pub record IsCubic (c : CubicWindow) : Type 0 where
  pub window : IsWindow c.window
  pub w_max : c.w_max ≤ max_window
  pub cwnd_prior : c.cwnd_prior ≤ max_window
  pub k : c.k ≤ longest
  pub w_est : c.w_est ≤ max_window * parts
  pub rest : c.rest < parts
  pub t : c.t ≤ longest * 1000
