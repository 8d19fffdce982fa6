-- SEGMENTS OF NEW TEXT AS ONE within a window that the caller sets, as congestion control does (RFC 5681, 3.1). What the device makes
-- of them are the segments that so many emissions within that window would have written.
use Rattle.std.specs.Prelude.{◌≡◌, ℕ, zero, suc, ◌+◌, ◌-◌, ◌/◌, min, nat_le, if◌then◌else◌, List, [], length, Option, Some, None, option_map}
use Rattle.tcp_wire.specs.Wire.{wire_length}
use Rattle.tcp_halves.specs.declared.sent.Sent.TheVariants.{NewText}
use Rattle.tcp_conn.specs.declared.emit.due.Due.{Due}
use Rattle.tcp_conn.specs.declared.emit.due.Due.TheVariants.{Text}
use Rattle.tcp_conn.specs.declared.emit.train.Train.{Train}
use Rattle.tcp_conn.specs.State.{State, Sending}
use Rattle.tcp_conn.specs.Due.{count_of}
use Rattle.tcp_conn.specs.Forms.{segment_of}
use Rattle.tcp_conn.specs.Timers.{timers_wanted}
use Rattle.tcp_conn.specs.Train.{as_one, count_together, segments_of_due, text_allowed, train_with, with_segment}
use Rattle.tcp_conn.specs.Transmission.{transmit_of}
use Rattle.tcp_conn.specs.Within.{after_within, due_within, transmit_within}
use Rattle.tcp_conn.specs.Writing.{bytes_of}

-- SO MANY EMISSIONS in turn within the window: the end after them, and the segments that they write
unfoldable pub after_emissions_within : ℕ → ℕ → State → State
after_emissions_within zero window s = s
after_emissions_within (suc more) window s = after_emissions_within more window (after_within s window)

unfoldable pub emissions_within : ℕ → ℕ → State → List (List ℕ)
emissions_within zero window s = []
emissions_within (suc more) window s = with_segment (option_map (bytes_of s) (due_within s window)) (emissions_within more window (after_within s window))

-- HOW MANY GO TOGETHER: of new text as many as would without a window, where all that is allowed ends within it, and else as many full
-- segments as end within it; but always the first, which doesn't wait
abbrev pub window_left : Sending → ℕ → ℕ
window_left s window = window - (s.snd_nxt - s.snd_una)

abbrev pub most_within : Sending → ℕ → ℕ → Due → ℕ
most_within s window most (Text (NewText start each)) =
    if nat_le (text_allowed s) (window_left s window) then most else min most (window_left s window / each)
most_within s window most other = most

abbrev pub count_of_some : State → ℕ → ℕ → ℕ → Option Due → ℕ
count_of_some s window most room None = 0
count_of_some s window most room (Some due) = count_together s (most_within s.sending window most due) room due

unfoldable pub count_within : State → ℕ → ℕ → ℕ → ℕ
count_within s window most room = count_of_some s window most room (due_within s window)

-- WHAT IS REPORTED of so many: what they are as one segment, and how long the header and the text of each is
abbrev pub train_of : State → ℕ → Due → Train
train_of s count due = record {
  whole = transmit_of s (as_one s count due);
  header = wire_length (segment_of s (as_one s count due)) - count_of (as_one s count due);
  each = count_of due;
  segments = count;
}

unfoldable pub train_within : State → ℕ → ℕ → ℕ → Option Train
train_within s window most room = option_map (train_of s (count_within s window most room)) (due_within s window)

-- what the buffer contains, and the segments that the device makes of it
unfoldable pub train_buffer_within : State → ℕ → ℕ → List ℕ → List ℕ
train_buffer_within s window most out = train_with s (count_within s window most (length out)) (due_within s window) out

unfoldable pub train_segments_within : State → ℕ → ℕ → ℕ → List (List ℕ)
train_segments_within s window most room = segments_of_due s (count_within s window most room) (due_within s window)

-- ---- IN TURN. Each of the emissions begins where the one before it ends, and all but the last have as much text as the first
abbrev pub Spans : Option ℕ → Option ℕ → ℕ → ℕ → Type 0
Spans position end from to = (position ≡ Some from) × (end ≡ Some to)

abbrev pub SpansNext : State → ℕ → ℕ → ℕ → Type 0
SpansNext s window from to = Spans (option_map (λ t. t.position) (transmit_within s window)) (option_map (λ t. t.end) (transmit_within s window)) from to

-- none but the first changes which timers have to run, and none what was acknowledged or what came
pub record IsAsBefore (s after : State) : Type 0 where
  pub timers : timers_wanted after ≡ timers_wanted s
  pub una : after.sending.snd_una ≡ s.sending.snd_una
  pub phase : after.phase ≡ s.phase
  pub receiving : after.receiving ≡ s.receiving

unfoldable pub AreInTurn : ℕ → State → ℕ → ℕ → ℕ → ℕ → Type 0
AreInTurn zero s window each from to = SpansNext s window from to
AreInTurn (suc more) s window each from to =
    SpansNext s window from (from + each)
    × IsAsBefore (after_within s window) (after_within (after_within s window) window)
    × AreInTurn more (after_within s window) window each (from + each) to
