-- How the window grows and shrinks (RFC 5681, 3), over many acknowledgements.
use Rattle.std.specs.Prelude.{◌≡◌, ℕ, ◌+◌, ◌*◌, ◌/◌, ◌<◌, ◌≤◌, max, Bool, true, false, if◌then◌else◌, List, [], ◌∷◌}
use Rattle.tcp_congestion.specs.Reno.{Window, IsWindow, after_acknowledgement, after_delivery, after_duplicate, after_finding, after_loss, after_measurement, after_report, after_timeout, after_resent, begins_recovery, is_new_loss, may_resend, room_of, with_pipe}

-- an acknowledgement: what it tells anew, up to which position all is acknowledged, what is in flight behind it, and whether it tells by
-- blocks, while SND.UNA stays
pub record Acknowledgement : Type 0 where
  pub acked : ℕ
  pub snd_una : ℕ
  pub flight : ℕ
  pub by_blocks : Bool

abbrev pub after_ack : Window → Acknowledgement → Window
after_ack w ack = if ack.by_blocks then after_delivery w ack.acked ack.flight else after_acknowledgement w ack.acked ack.snd_una ack.flight

-- these came one after another, the newest of which comes first
abbrev pub after_acks : Window → List Acknowledgement → Window
after_acks w [] = w
after_acks w (ack ∷ earlier) = after_ack (after_acks w earlier) ack

abbrev pub total : List Acknowledgement → ℕ
total [] = 0
total (ack ∷ earlier) = ack.acked + total earlier

-- CONGESTION AVOIDANCE GROWS BY A SEGMENT A WINDOW at most (RFC 5681, 3.1): so many segments, for which as many windows were
-- acknowledged
pub record GrewSlowly (w v : Window) (all : ℕ) : Type 0 where
  pub times : ℕ
  pub cwnd : v.cwnd ≤ w.cwnd + times * w.smss
  pub acked : times * w.cwnd ≤ w.bytes_acked + all

abbrev pub AvoidanceIsSlow : Type 0
AvoidanceIsSlow =
    (w : Window) (acks : List Acknowledgement) → IsWindow w → w.is_recovering ≡ false → w.ssthresh ≤ w.cwnd
    → GrewSlowly w (after_acks w acks) (total acks)

-- NO FASTER THAN WHAT IS TOLD ANEW, in slow start, too (RFC 5681, 3.1): what is told once lets a window be doubled in a round trip, at
-- most
abbrev pub GrowthIsAcknowledged : Type 0
GrowthIsAcknowledged =
    (w : Window) (acks : List Acknowledgement) → IsWindow w → w.is_recovering ≡ false
    → (after_acks w acks).cwnd ≤ w.cwnd + w.bytes_acked + total acks

-- A LOSS SHRINKS THE WINDOW (RFC 5681, 3.1 and 3.2; RFC 6582, 3.2): where the third duplicate begins fast recovery to three segments
-- more than half of what was in flight, or than two segments, and that only behind all that the last loss concerned; once all is
-- acknowledged to ssthresh at most; to a segment where the timer expires, which raises no ssthresh in a recovery
pub record Shrinks (w : Window) (snd_una flight snd_nxt : ℕ) : Type 0 where
  pub third : begins_recovery w snd_una ≡ true → (after_duplicate w snd_una flight snd_nxt).cwnd ≤ max (flight / 2) (2 * w.smss) + 3 * w.smss
  pub once : begins_recovery w snd_una ≡ true → w.recover < snd_una
  pub full :
      (acked : ℕ) → w.is_recovering ≡ true → w.recover ≤ snd_una → (after_acknowledgement w acked snd_una flight).cwnd ≤ w.ssthresh
  pub timeout : (after_timeout w flight snd_nxt).cwnd ≡ w.smss
  pub threshold : w.is_recovering ≡ true → (after_timeout w flight snd_nxt).ssthresh ≤ w.ssthresh

abbrev pub LossShrinks : Type 0
LossShrinks = (w : Window) (snd_una flight snd_nxt : ℕ) → Shrinks w snd_una flight snd_nxt

-- what happens to a window, but for a timeout and a second loss of what was sent again
pub data Event : Type 0 where
  Acknowledges : ℕ → ℕ → ℕ → Event
  Duplicates : ℕ → ℕ → ℕ → Event
  Reports : Event
  Loses : ℕ → ℕ → ℕ → Event
  Delivers : ℕ → ℕ → Event
  Finds : Event
  Pipes : ℕ → Event
  Measures : ℕ → ℕ → ℕ → Event

abbrev pub after_event : Window → Event → Window
after_event w (Acknowledges acked snd_una flight) = after_acknowledgement w acked snd_una flight
after_event w (Duplicates snd_una flight snd_nxt) = after_duplicate w snd_una flight snd_nxt
after_event w Reports = after_report w
after_event w (Loses snd_una flight snd_nxt) = after_loss w snd_una flight snd_nxt
after_event w (Delivers count flight) = after_delivery w count flight
after_event w Finds = after_finding w
after_event w (Pipes reported) = with_pipe w reported
after_event w (Measures trip snd_una snd_nxt) = after_measurement w trip snd_una snd_nxt

abbrev pub after_events : Window → List Event → Window
after_events w [] = w
after_events w (event ∷ earlier) = after_event (after_events w earlier) event

-- none of these acknowledges all before a position
abbrev pub IsShortOf : ℕ → Event → Type 0
IsShortOf position (Acknowledges acked snd_una flight) = snd_una < position
IsShortOf position (Duplicates snd_una flight snd_nxt) = Unit {0}
IsShortOf position Reports = Unit {0}
IsShortOf position (Loses snd_una flight snd_nxt) = Unit {0}
IsShortOf position (Delivers count flight) = Unit {0}
IsShortOf position Finds = Unit {0}
IsShortOf position (Pipes reported) = Unit {0}
IsShortOf position (Measures trip snd_una snd_nxt) = Unit {0}

abbrev pub AllShortOf : ℕ → List Event → Type 0
AllShortOf position [] = Unit {0}
AllShortOf position (event ∷ earlier) = IsShortOf position event × AllShortOf position earlier

-- ONE LOSS A WINDOW (RFC 5681, 4.3): a loss that blocks or a probe found shrinks the window to half of what was in flight, or two
-- segments, and three segments; and until all that was in flight then is acknowledged ssthresh stays, whatever else is found or comes
pub record IsOneLoss (w : Window) (snd_una flight snd_nxt : ℕ) : Type 0 where
  pub found : is_new_loss w snd_una ≡ true → (after_loss w snd_una flight snd_nxt).cwnd ≤ max (flight / 2) (2 * w.smss) + 3 * w.smss
  pub new : is_new_loss w snd_una ≡ true → w.recover ≤ snd_una
  pub kept : is_new_loss w snd_una ≡ false → after_loss w snd_una flight snd_nxt ≡ w
  pub once :
      (events : List Event) → is_new_loss w snd_una ≡ true → AllShortOf snd_nxt events
      → (after_events (after_loss w snd_una flight snd_nxt) events).ssthresh ≡ (after_loss w snd_una flight snd_nxt).ssthresh

abbrev pub OneLossAWindow : Type 0
OneLossAWindow = (w : Window) (snd_una flight snd_nxt : ℕ) → IsWindow w → IsOneLoss w snd_una flight snd_nxt

-- RESENDS STAY IN THE WINDOW (RFC 5681, 3.1): who sends a segment again when it may has no more than a window of it in flight, and that
-- segment; and behind a timeout none beside the first until something is acknowledged
pub record ResendsStay (w : Window) (flight snd_nxt count : ℕ) : Type 0 where
  pub most : may_resend w ≡ true → (after_resent w count).resent ≤ w.cwnd + count
  pub first : may_resend (after_timeout w flight snd_nxt) ≡ true
  pub alone : w.smss ≤ count → may_resend (after_resent (after_timeout w flight snd_nxt) count) ≡ false

abbrev pub ResendsStayInWindow : Type 0
ResendsStayInWindow = (w : Window) (flight snd_nxt count : ℕ) → IsWindow w → ResendsStay w flight snd_nxt count

-- NO MORE THAN THE WINDOW, and two segments for the first two duplicates (RFC 3042, 2), is in flight once what has room was sent, or
-- no more than was before
abbrev pub FlightStaysInWindow : Type 0
FlightStaysInWindow = (w : Window) (flight more : ℕ) → more ≤ room_of w flight → flight + more ≤ max flight (w.cwnd + 2 * w.smss)
