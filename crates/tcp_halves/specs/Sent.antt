-- What the half that sends emits next (RFC 9293, 3.7, 3.8 and 3.10): text or FIN again, new text, this end's FIN, whichever
-- is due first; what a segment carries of it, and the half after it.
use Rattle.std.specs.Prelude.{ℕ, ◌-◌, Bool, false, ◌==◌, if◌then◌else◌, true, ◌&&◌, List, length, Option, Some, None, min, nat_lt, ◌<◌, ◌≤◌, ◌+◌, max, nat_le, take, drop}
use Rattle.std.specs.Option.{option_or}
use Rattle.std.specs.declared.ops.Range.{Range}
use Rattle.tcp_wire.specs.Flags.{fin, ack, psh}
use Rattle.tcp_sendq.specs.SendQueue.{next_unmarked}
use Rattle.tcp_halves.specs.declared.sent.Sent.{Sent}
use Rattle.tcp_halves.specs.declared.sent.Sent.TheVariants.{Resend, NewText, Fin, ResentFin}
use Rattle.tcp_halves.specs.Config.{stream_limit}
use Rattle.tcp_halves.specs.Sender.{Sending, count_unsent, end_of_text, place_of, position_at}

abbrev pub is_fin : Sent → Bool
is_fin (Fin start) = true
is_fin (ResentFin start) = true
is_fin other = false

-- the position where it begins
abbrev pub start_of : Sent → ℕ
start_of (Resend start count) = start
start_of (NewText start count) = start
start_of (Fin start) = start
start_of (ResentFin start) = start

-- the length of its text
abbrev pub count_of : Sent → ℕ
count_of (Resend start count) = count
count_of (NewText start count) = count
count_of other = 0

-- the position after it: text and FIN take sequence numbers (RFC 9293, 3.4)
abbrev pub end_of : Sent → ℕ
end_of (Resend start count) = start + count
end_of (NewText start count) = start + count
end_of (Fin start) = start + 1
end_of (ResentFin start) = start + 1

-- RESEND: the first run of unmarked text in the range, as far as the range and the text limit allow. After all text it is the
-- FIN alone, where the range reaches past it
abbrev pub resend_start : Sending → Range ℕ → ℕ
resend_start s range = max range.start s.snd_una

abbrev pub resent_text : Sending → ℕ → ℕ → ℕ × ℕ → Option Sent
resent_text s limit end run =
    if nat_lt (position_at s run.0) end
    then Some (Resend (position_at s run.0) (min limit (min (run.1 - run.0) (end - position_at s run.0))))
    else None

abbrev pub resent_fin : Sending → Range ℕ → Option Sent
resent_fin s range =
    if nat_lt (end_of_text s) range.end && nat_le (resend_start s range) (end_of_text s) then Some (ResentFin (end_of_text s)) else None

abbrev pub resent_run : Sending → ℕ → Range ℕ → Option (ℕ × ℕ) → Option Sent
resent_run s limit range None = resent_fin s range
resent_run s limit range (Some run) = resent_text s limit range.end run

unfoldable pub resend_of : Sending → ℕ → Option (Range ℕ) → Option Sent
resend_of s limit None = None
resend_of s limit (Some range) = resent_run s limit range (next_unmarked s.queue (place_of s (resend_start s range)))

-- NEW TEXT: as much as the text limit, the queue and the peer's window allow (RFC 9293, 3.8.6). Where the window allows none,
-- it is one byte if a probe was granted (RFC 9293, 3.8.6.1)
abbrev pub usable_window : Sending → ℕ
usable_window s = (s.snd_una + s.snd_wnd) - s.snd_nxt

abbrev pub count_allowed : Sending → Bool → ℕ
count_allowed s probe = if usable_window s == 0 then (if probe then 1 else 0) else usable_window s

abbrev pub new_count : Sending → ℕ → Bool → ℕ
new_count s limit probe = min limit (min (count_unsent s) (count_allowed s probe))

unfoldable pub new_text_of : Sending → ℕ → Bool → Option Sent
new_text_of s limit probe = if new_count s limit probe == 0 then None else Some (NewText s.snd_nxt (new_count s limit probe))

-- FIN: after a close, once all text was sent, whatever the window (RFC 9293, 3.10.4)
abbrev pub fin_of : Sending → Bool → Option Sent
fin_of s closing = if closing && (s.snd_nxt == end_of_text s) then Some (Fin s.snd_nxt) else None

-- the first of these that is due
abbrev pub sending_due : Sending → ℕ → Bool → Bool → Option Sent
sending_due s limit probe closing = option_or (resend_of s limit s.resend) (option_or (new_text_of s limit probe) (fin_of s closing))

-- what is due lies within the queue, is no longer than this, and ends no later than a full direction does
pub record IsSendable (s : Sending) (limit : ℕ) (sent : Sent) : Type 0 where
  pub inside : 0 < count_of sent → place_of s (start_of sent) + count_of sent ≤ length s.queue.bytes
  pub short : count_of sent ≤ limit
  pub most : end_of sent ≤ 2 + stream_limit

-- the text that it carries
abbrev pub text_of : Sending → Sent → List ℕ
text_of s sent = take (count_of sent) (drop (place_of s (start_of sent)) s.queue.bytes)

-- PSH is set where the text ends with the last byte of the queue
abbrev pub pushes : Sending → Sent → Bool
pushes s sent = if count_of sent == 0 then false else place_of s (start_of sent) + count_of sent == length s.queue.bytes

abbrev pub flags_of : Sending → Sent → ℕ
flags_of s sent = ack + (if pushes s sent then psh else 0) + (if is_fin sent then fin else 0)

-- AFTER ITS EMISSION: SND.NXT is at least the position after it, and what was sent again is taken off the range
abbrev pub range_after : ℕ → Option (Range ℕ) → Option (Range ℕ)
range_after start None = None
range_after start (Some range) = Some (record range { start = start })

abbrev pub resend_after : Sending → Sent → Option (Range ℕ)
resend_after s (Resend start count) = range_after (start + count) s.resend
resend_after s (ResentFin start) = range_after (start + 1) s.resend
resend_after s other = s.resend

abbrev pub sending_after : Sending → Sent → Sending
sending_after s sent = record s { snd_nxt = max s.snd_nxt (end_of sent); resend = resend_after s sent }
