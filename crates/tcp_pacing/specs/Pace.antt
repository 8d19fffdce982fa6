-- How fast new text goes out (RFC 9002, 7.7), in bytes and microseconds.
use Rattle.std.specs.Prelude.{ℕ, ◌*◌, ◌/◌, ◌%◌, ◌+◌, ◌^◌, min, max, if◌then◌else◌}
use Rattle.tcp_pacing.specs.declared.pace.Pace.{Pace}

-- no segment is longer (RFC 9293, 3.7.1)
abbrev pub max_segment : ℕ
max_segment = 65535

-- no window and no round trip counts as more
abbrev pub max_window : ℕ
max_window = 2 ^ 40

abbrev pub max_srtt : ℕ
max_srtt = 2 ^ 40

-- a millisecond
abbrev pub period : ℕ
period = 1000

-- SMSS, cwnd and the smoothed round trip as they count
abbrev pub smss_of : Pace → ℕ
smss_of p = max 1 (min max_segment p.smss)

abbrev pub cwnd_of : Pace → ℕ
cwnd_of p = max (smss_of p) (min max_window p.cwnd)

abbrev pub srtt_of : Pace → ℕ
srtt_of p = max 1 (min max_srtt p.srtt)

-- N in quarters: 2 in slow start, in which cwnd may double in a round trip, else 1.25
abbrev pub gain : Pace → ℕ
gain p = if p.is_slow_start then 8 else 5

-- THE RATE is N * cwnd / smoothed_rtt: so many bytes in so long
abbrev pub rate_bytes : Pace → ℕ
rate_bytes p = gain p * cwnd_of p

abbrev pub rate_time : Pace → ℕ
rate_time p = 4 * srtt_of p

-- the initial window (RFC 6928, 2), to which bursts are limited (RFC 9002, 7.7), in segments, however long these are (own)
abbrev pub initial_window : ℕ
initial_window = 10

-- so many may go out at once at any rate: cwnd's whole segments, up to the initial window
abbrev pub burst : Pace → ℕ
burst p = min initial_window (cwnd_of p / smss_of p)

-- A PORTION is as many whole segments as go out in a millisecond at the rate, or a burst where that is more, and two at least
abbrev pub portion : Pace → ℕ
portion p = smss_of p * max 2 (max (burst p) (rate_bytes p * period / (rate_time p * smss_of p)))

abbrev pub rounded_up : ℕ → ℕ → ℕ
rounded_up n by = n / by + min 1 (n % by)

-- AND IT LASTS for as long as it takes at the rate
abbrev pub interval : Pace → ℕ
interval p = rounded_up (portion p * rate_time p) (rate_bytes p)
