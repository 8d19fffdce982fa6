-- HyStart++ (RFC 9406, 4): slow start that ends where round trips become longer, before anything is lost. Times are microseconds, sizes
-- bytes, and positions count from the SYN. The names are those of 4.2.
use Rattle.std.specs.Prelude.{◌≡◌, ℕ, suc, ◌+◌, ◌-◌, ◌*◌, ◌/◌, ◌^◌, ◌<◌, ◌≤◌, ◌==◌, min, max, Bool, false, nat_lt, nat_le, if◌then◌else◌, List, [], ◌∷◌}
use Rattle.tcp_congestion.specs.Sizes.{max_limit}

-- ---- constants (4.3), of which L is max_limit where a round trip is measured
abbrev pub min_rtt_thresh : ℕ
min_rtt_thresh = 4000

abbrev pub max_rtt_thresh : ℕ
max_rtt_thresh = 16000

abbrev pub min_rtt_divisor : ℕ
min_rtt_divisor = 8

abbrev pub n_rtt_sample : ℕ
n_rtt_sample = 8

abbrev pub css_growth_divisor : ℕ
css_growth_divisor = 4

abbrev pub css_rounds : ℕ
css_rounds = 5

-- no round trip was measured
abbrev pub infinity : ℕ
infinity = 2 ^ 32 - 1

-- and none counts for more (own)
abbrev pub longest_trip : ℕ
longest_trip = 2 ^ 32 - 2

pub record SlowStart : Type 0 where
  -- where it is acknowledged a round ends
  pub window_end : ℕ
  pub last_round_min_rtt : ℕ
  pub current_round_min_rtt : ℕ
  pub css_baseline_min_rtt : ℕ
  -- of these no more are counted than are asked for
  pub rtt_sample_count : ℕ
  -- the round of Conservative Slow Start (CSS) that goes on: 0 in standard slow start
  pub css_round : ℕ

-- the first round ends with the first acknowledgement, and has no round trip in it
abbrev pub new_start : SlowStart
new_start = record {
  window_end = 0;
  last_round_min_rtt = infinity;
  current_round_min_rtt = infinity;
  css_baseline_min_rtt = infinity;
  rtt_sample_count = 0;
  css_round = 0;
}

-- every round has a round trip in it once one was measured
abbrev pub is_measured : SlowStart → Bool
is_measured h = nat_lt h.current_round_min_rtt infinity

abbrev pub is_conservative : SlowStart → Bool
is_conservative h = nat_lt 0 h.css_round

-- ---- rounds

-- THE ROUND ENDS where windowEnd is acknowledged
abbrev pub ends_round : SlowStart → ℕ → Bool
ends_round h snd_una = nat_le h.window_end snd_una

-- a round that begins in the middle of CSS counts, as the one does in whose middle CSS began
abbrev pub next_css_round : SlowStart → ℕ
next_css_round h = if is_conservative h then suc h.css_round else 0

abbrev pub begun : SlowStart → ℕ → SlowStart
begun h snd_nxt = record h {
  window_end = snd_nxt;
  last_round_min_rtt = h.current_round_min_rtt;
  current_round_min_rtt = infinity;
  rtt_sample_count = 0;
  css_round = next_css_round h;
}

abbrev pub in_round : SlowStart → ℕ → ℕ → SlowStart
in_round h snd_una snd_nxt = if ends_round h snd_una then begun h snd_nxt else h

-- CSS_ROUNDS ROUNDS ARE COMPLETE: ssthresh = cwnd
abbrev pub is_complete : SlowStart → ℕ → Bool
is_complete h snd_una = if h.css_round == css_rounds then ends_round h snd_una else false

-- ---- what is measured

abbrev pub sampled : SlowStart → ℕ → SlowStart
sampled h curr_rtt = record h {
  current_round_min_rtt = min h.current_round_min_rtt (min longest_trip curr_rtt);
  rtt_sample_count = min n_rtt_sample (h.rtt_sample_count + 1);
}

abbrev pub has_samples : SlowStart → Bool
has_samples h = nat_le n_rtt_sample h.rtt_sample_count

-- RttThresh
abbrev pub rtt_thresh : ℕ → ℕ
rtt_thresh last_round_min_rtt = max min_rtt_thresh (min (last_round_min_rtt / min_rtt_divisor) max_rtt_thresh)

-- THE DELAY INCREASES
abbrev pub is_longer : SlowStart → Bool
is_longer h =
    if nat_lt h.last_round_min_rtt infinity then nat_le (h.last_round_min_rtt + rtt_thresh h.last_round_min_rtt) h.current_round_min_rtt else false

abbrev pub enters_css : SlowStart → Bool
enters_css h = if has_samples h then is_longer h else false

-- CSS was spurious
abbrev pub resumes : SlowStart → Bool
resumes h = if has_samples h then nat_lt h.current_round_min_rtt h.css_baseline_min_rtt else false

-- the partial round is the first one of CSS
abbrev pub in_slow_start : SlowStart → SlowStart
in_slow_start h = if enters_css h then record h { css_baseline_min_rtt = h.current_round_min_rtt; css_round = 1 } else h

abbrev pub in_css : SlowStart → SlowStart
in_css h = if resumes h then record h { css_baseline_min_rtt = infinity; css_round = 0 } else h

abbrev pub checked : SlowStart → SlowStart
checked h = if is_conservative h then in_css h else in_slow_start h

-- AN ACKNOWLEDGEMENT MEASURED A ROUND TRIP. Behind the last round of CSS all begins anew (own), for whom slow starts again
abbrev pub after_trip : SlowStart → ℕ → ℕ → ℕ → SlowStart
after_trip h curr_rtt snd_una snd_nxt =
    if is_complete h snd_una then new_start else checked (sampled (in_round h snd_una snd_nxt) curr_rtt)

-- ---- by how much cwnd grows where N bytes are acknowledged

-- L, or the limit that there is without HyStart++ where no round trip was measured (own)
abbrev pub limit_with : SlowStart → ℕ → ℕ
limit_with h limit = if is_measured h then max_limit else limit

-- min(N, L * SMSS), and in CSS min(N, L * SMSS) / CSS_GROWTH_DIVISOR
abbrev pub growth_of : SlowStart → ℕ → ℕ → ℕ → ℕ
growth_of h acked smss limit =
    min acked (limit_with h limit * smss) / (if is_conservative h then css_growth_divisor else 1)

-- ---- what follows

-- GROWTH IS ACKNOWLEDGED, and of eight segments at most
pub record IsLimited (h : SlowStart) (acked smss limit : ℕ) : Type 0 where
  pub acknowledged : growth_of h acked smss limit ≤ acked
  pub limited : growth_of h acked smss limit ≤ max_limit * smss

abbrev pub HyStartGrowthIsLimited : Type 0
HyStartGrowthIsLimited = (h : SlowStart) (acked smss limit : ℕ) → limit ≤ max_limit → IsLimited h acked smss limit

-- a round trip that an acknowledgement measured
pub record Trip : Type 0 where
  pub curr_rtt : ℕ
  pub snd_una : ℕ
  pub snd_nxt : ℕ

-- the newest comes first
abbrev pub after_trips : List Trip → SlowStart
after_trips [] = new_start
after_trips (t ∷ earlier) = after_trip (after_trips earlier) t.curr_rtt t.snd_una t.snd_nxt

abbrev pub AreNear : ℕ → List Trip → Type 0
AreNear least [] = Unit {0}
AreNear least (t ∷ earlier) = (least ≤ t.curr_rtt) × (t.curr_rtt < least + min_rtt_thresh) × AreNear least earlier

-- JITTER ENDS NO SLOW START: where all round trips lie within MIN_RTT_THRESH, CSS never begins
abbrev pub JitterIsNoDelay : Type 0
JitterIsNoDelay = (least : ℕ) (trips : List Trip) → AreNear least trips → is_conservative (after_trips trips) ≡ false

-- CSS LASTS FOR FIVE ROUNDS at most, whatever is measured
abbrev pub CssIsShort : Type 0
CssIsShort = (trips : List Trip) → (after_trips trips).css_round ≤ css_rounds

-- ---- what always holds
pub record IsSlowStart (h : SlowStart) : Type 0 where
  pub samples : h.rtt_sample_count ≤ n_rtt_sample
  pub rounds : h.css_round ≤ css_rounds
