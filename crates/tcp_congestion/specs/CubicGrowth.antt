-- How CUBIC's window grows and shrinks (RFC 9438), over many acknowledgements.
use Rattle.std.specs.Prelude.{◌≡◌, ℕ, ◌+◌, ◌*◌, ◌/◌, ◌<◌, ◌≤◌, max, Bool, true, false, if◌then◌else◌, List, [], ◌∷◌}
use Rattle.tcp_congestion.specs.Reno.{after_finding, after_measurement, begins_recovery, is_new_loss, is_used, with_pipe}
use Rattle.tcp_congestion.specs.Cubic.{CubicWindow, IsCubic, parts, is_friendly, after_acknowledgement, after_delivery, after_duplicate, after_loss, after_report_of, after_timeout}

-- an acknowledgement, its time, the smoothed round trip then, and whether it tells by blocks, while SND.UNA stays
pub record TimedAcknowledgement : Type 0 where
  pub acked : ℕ
  pub snd_una : ℕ
  pub flight : ℕ
  pub now : ℕ
  pub rtt : ℕ
  pub by_blocks : Bool

abbrev pub after_ack : CubicWindow → TimedAcknowledgement → CubicWindow
after_ack c ack =
    if ack.by_blocks
    then after_delivery c ack.acked ack.flight ack.now ack.rtt
    else after_acknowledgement c ack.acked ack.snd_una ack.flight ack.now ack.rtt

-- these came one after another, the newest of which comes first
abbrev pub after_acks : CubicWindow → List TimedAcknowledgement → CubicWindow
after_acks c [] = c
after_acks c (ack ∷ earlier) = after_ack (after_acks c earlier) ack

abbrev pub total : List TimedAcknowledgement → ℕ
total [] = 0
total (ack ∷ earlier) = ack.acked + total earlier

-- the window, or what Reno's would be where that is more (RFC 9438, 4.3)
abbrev pub reached : CubicWindow → ℕ
reached c = max c.window.cwnd (if c.is_begun then c.w_est / parts else 0)

-- BY HALF OF WHAT IS ACKNOWLEDGED at most, and a byte, in congestion avoidance, so that in a round trip, in which a window is acknowledged,
-- it grows to 1.5 of what it was (RFC 9438, 4.2)
abbrev pub CubicGrowsByHalf : Type 0
CubicGrowsByHalf =
    (c : CubicWindow) (acks : List TimedAcknowledgement) → IsCubic c → c.window.is_recovering ≡ false → c.window.ssthresh < c.window.cwnd
    → 2 * (after_acks c acks).window.cwnd ≤ 2 * (reached c + 1) + total acks

-- BY WHAT IS ACKNOWLEDGED at most, and a byte, in slow start, too
abbrev pub CubicGrowthIsAcknowledged : Type 0
CubicGrowthIsAcknowledged =
    (c : CubicWindow) (acks : List TimedAcknowledgement) → IsCubic c → c.window.is_recovering ≡ false
    → (after_acks c acks).window.cwnd ≤ reached c + 1 + total acks

-- NO SMALLER THAN RENO'S WINDOW: where W_cubic is below W_est behind an acknowledgement of a window that is used, cwnd isn't below W_est
-- (RFC 9438, 4.3)
abbrev pub CubicIsFriendly : Type 0
CubicIsFriendly =
    (c : CubicWindow) (acked snd_una flight now rtt : ℕ) → c.window.is_recovering ≡ false → is_used c.window acked flight ≡ true
    → c.window.ssthresh < c.window.cwnd → is_friendly (after_acknowledgement c acked snd_una flight now rtt) ≡ true
    → (after_acknowledgement c acked snd_una flight now rtt).w_est / parts ≤ (after_acknowledgement c acked snd_una flight now rtt).window.cwnd

-- A LOSS SHRINKS THE WINDOW (RFC 9438, 4.6 and 4.8; RFC 6582, 3.2): to 0.7 of what was in flight, or two segments, and three segments,
-- where duplicates begin a recovery, or where blocks or a probe found the loss; one for all that was in flight; to ssthresh at most once
-- that is acknowledged; to a segment where the timer expires, which raises no ssthresh in a recovery
pub record CubicShrinks (c : CubicWindow) (snd_una flight snd_nxt : ℕ) : Type 0 where
  pub third :
      begins_recovery c.window snd_una ≡ true
      → (after_duplicate c snd_una flight snd_nxt).window.cwnd ≤ max (flight * 7 / 10) (2 * c.window.smss) + 3 * c.window.smss
  pub found :
      is_new_loss c.window snd_una ≡ true
      → (after_loss c snd_una flight snd_nxt).window.cwnd ≤ max (flight * 7 / 10) (2 * c.window.smss) + 3 * c.window.smss
  pub once : is_new_loss c.window snd_una ≡ false → after_loss c snd_una flight snd_nxt ≡ c
  pub new : is_new_loss c.window snd_una ≡ true → c.window.recover ≤ snd_una
  pub full :
      (acked now rtt : ℕ) → c.window.is_recovering ≡ true → c.window.recover ≤ snd_una
      → (after_acknowledgement c acked snd_una flight now rtt).window.cwnd ≤ c.window.ssthresh
  pub timeout : (after_timeout c flight snd_nxt).window.cwnd ≡ c.window.smss
  pub threshold : c.window.is_recovering ≡ true → (after_timeout c flight snd_nxt).window.ssthresh ≤ c.window.ssthresh

abbrev pub CubicLossShrinks : Type 0
CubicLossShrinks = (c : CubicWindow) (snd_una flight snd_nxt : ℕ) → IsCubic c → CubicShrinks c snd_una flight snd_nxt

-- ---- what happens to a window, but for a timeout and a second loss of what was sent again
pub data CubicEvent : Type 0 where
  Acknowledges : TimedAcknowledgement → CubicEvent
  Duplicates : ℕ → ℕ → ℕ → CubicEvent
  Reports : CubicEvent
  Loses : ℕ → ℕ → ℕ → CubicEvent
  Finds : CubicEvent
  Pipes : ℕ → CubicEvent
  Measures : ℕ → ℕ → ℕ → CubicEvent

abbrev pub after_event : CubicWindow → CubicEvent → CubicWindow
after_event c (Acknowledges ack) = after_ack c ack
after_event c (Duplicates snd_una flight snd_nxt) = after_duplicate c snd_una flight snd_nxt
after_event c Reports = after_report_of c
after_event c (Loses snd_una flight snd_nxt) = after_loss c snd_una flight snd_nxt
after_event c Finds = record c { window = after_finding c.window }
after_event c (Pipes reported) = record c { window = with_pipe c.window reported }
after_event c (Measures trip snd_una snd_nxt) = record c { window = after_measurement c.window trip snd_una snd_nxt }

abbrev pub after_events : CubicWindow → List CubicEvent → CubicWindow
after_events c [] = c
after_events c (event ∷ earlier) = after_event (after_events c earlier) event

-- none of these acknowledges all before a position
abbrev pub IsShortOf : ℕ → CubicEvent → Type 0
IsShortOf position (Acknowledges ack) = ack.snd_una < position
IsShortOf position (Duplicates snd_una flight snd_nxt) = Unit {0}
IsShortOf position Reports = Unit {0}
IsShortOf position (Loses snd_una flight snd_nxt) = Unit {0}
IsShortOf position Finds = Unit {0}
IsShortOf position (Pipes reported) = Unit {0}
IsShortOf position (Measures trip snd_una snd_nxt) = Unit {0}

abbrev pub AllShortOf : ℕ → List CubicEvent → Type 0
AllShortOf position [] = Unit {0}
AllShortOf position (event ∷ earlier) = IsShortOf position event × AllShortOf position earlier

-- ONE LOSS A WINDOW (RFC 5681, 4.3): where a loss shrinks the window, ssthresh and W_max stay until all is acknowledged that was in flight
-- then, whatever else is found or comes
abbrev pub CubicOneLossAWindow : Type 0
CubicOneLossAWindow =
    (c : CubicWindow) (snd_una flight snd_nxt : ℕ) (events : List CubicEvent) → is_new_loss c.window snd_una ≡ true → AllShortOf snd_nxt events
    → ((after_events (after_loss c snd_una flight snd_nxt) events).window.ssthresh ≡ (after_loss c snd_una flight snd_nxt).window.ssthresh)
    × ((after_events (after_loss c snd_una flight snd_nxt) events).w_max ≡ (after_loss c snd_una flight snd_nxt).w_max)
