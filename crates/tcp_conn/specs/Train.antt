-- Segments of new text that go out as one, for a device that cuts them and computes their checksums (segmentation offload). What
-- the device makes of them are the segments that so many emissions would have written.
use Rattle.std.specs.Prelude.{◌≡◌, ◌<◌, ◌≤◌, ℕ, zero, suc, ◌+◌, ◌-◌, ◌*◌, ◌/◌, ◌%◌, ◌^◌, List, [], ◌∷◌, ◌++◌, length, take, drop, map, Option, Some, None, option_map, min, max, nat_lt, if◌then◌else◌}
use Rattle.tcp_wire.specs.Flags.{fin, has, psh}
use Rattle.tcp_wire.specs.Partial.{with_partial_sum}
use Rattle.tcp_wire.specs.Wire.{Content, encoded_bytes, header_len, max_len, wire_length}
use Rattle.tcp_halves.specs.declared.sent.Sent.TheVariants.{NewText}
use Rattle.tcp_halves.specs.Config.{max_mss}
use Rattle.tcp_halves.specs.Sender.{count_unsent}
use Rattle.tcp_conn.specs.declared.emit.due.Due.{Due}
use Rattle.tcp_conn.specs.declared.emit.due.Due.TheVariants.{Text}
use Rattle.tcp_conn.specs.State.{State, Sending}
use Rattle.tcp_conn.specs.Blocks.{blocks_to_report, sack_length}
use Rattle.tcp_conn.specs.Due.{count_of, due_of, end_of, usable_window}
use Rattle.tcp_conn.specs.Emission.{after_emission, emitted_bytes}
use Rattle.tcp_conn.specs.Forms.{segment_of}
use Rattle.tcp_conn.specs.Writing.{destination_of}

-- SO MANY EMISSIONS in turn: the end after them, and the segments that they write
unfoldable pub after_emissions : ℕ → State → State
after_emissions zero s = s
after_emissions (suc more) s = after_emissions more (after_emission s)

abbrev pub with_segment : Option (List ℕ) → List (List ℕ) → List (List ℕ)
with_segment None others = others
with_segment (Some bytes) others = bytes ∷ others

unfoldable pub emissions : ℕ → State → List (List ℕ)
emissions zero s = []
emissions (suc more) s = with_segment (emitted_bytes s) (emissions more (after_emission s))

-- WHAT THE DEVICE DOES: it takes as much text off the front for a segment, again and again, while more than that is left. The
-- sequence number goes on by the text that was taken. PSH and FIN are of the last segment (RFC 9293, 3.1 and 3.9.1.2)
abbrev pub without_bit : ℕ → ℕ → ℕ
without_bit bit flags = if has bit flags then flags - bit else flags

abbrev pub piece : ℕ → Content → Content
piece each v = record v { flags = without_bit psh (without_bit fin v.flags); text = take each v.text }

abbrev pub behind : ℕ → Content → Content
behind each v = record v { seq = (v.seq + each) % 2 ^ 32; text = drop each v.text }

-- so many pieces, and what is left
unfoldable pub cut_off : ℕ → ℕ → Content → List Content
cut_off zero each v = v ∷ []
cut_off (suc more) each v = piece each v ∷ cut_off more each (behind each v)

unfoldable pub cut : ℕ → Content → List Content
cut each v = cut_off ((length v.text - 1) / each) each v

-- HOW MANY GO TOGETHER: where new text is due, as many segments as its length as the queue and the peer's window allow, but for
-- the last, which may be shorter; no more than `most` of them, and than a buffer of `room` bytes and one segment's greatest
-- length have room for. Anything else goes alone. (SND.NXT lies behind all that was released once the SYN is acknowledged)
abbrev pub text_allowed : Sending → ℕ
text_allowed s = if nat_lt s.released s.snd_nxt then min (count_unsent s) (usable_window s) else 0

abbrev pub count_for : ℕ → ℕ → ℕ
count_for text each = (text + (each - 1)) / each

abbrev pub count_with_room : State → ℕ → ℕ → ℕ
count_with_room s room each = (min room max_len - (header_len + sack_length (blocks_to_report s))) / each

abbrev pub count_together : State → ℕ → ℕ → Due → ℕ
count_together s most room (Text (NewText start each)) =
    max 1 (min most (min (count_with_room s room each) (count_for (text_allowed s.sending) each)))
count_together s most room other = 1

abbrev pub count_of_due : State → ℕ → ℕ → Option Due → ℕ
count_of_due s most room None = 0
count_of_due s most room (Some due) = count_together s most room due

unfoldable pub train_count : State → ℕ → ℕ → ℕ
train_count s most room = count_of_due s most room (due_of s)

-- AS ONE: the text of so many segments
abbrev pub text_as_one : Sending → ℕ → ℕ → ℕ
text_as_one s count each = max each (min (count * each) (text_allowed s))

abbrev pub as_one : State → ℕ → Due → Due
as_one s count (Text (NewText start each)) = Text (NewText start (text_as_one s.sending count each))
as_one s count other = other

-- its length, and that of its text
unfoldable pub train_length : State → ℕ → Option ℕ
train_length s count = option_map (λ due. wire_length (segment_of s (as_one s count due))) (due_of s)

unfoldable pub train_text : State → ℕ → Option ℕ
train_text s count = option_map (λ due. count_of (as_one s count due)) (due_of s)

-- and the position after it
unfoldable pub train_end : State → ℕ → Option ℕ
train_end s count = option_map (λ due. end_of s.sending (as_one s count due)) (due_of s)

-- the bytes that are written: the checksum field has the sum of the pseudo-header
abbrev pub train_bytes : State → ℕ → Due → List ℕ
train_bytes s count due =
    let dst = (destination_of s due).addr.0 in
    with_partial_sum s.config.addr.0 dst (encoded_bytes s.config.addr.0 dst (segment_of s (as_one s count due)))

abbrev pub train_with : State → ℕ → Option Due → List ℕ → List ℕ
train_with s count None out = out
train_with s count (Some due) out = train_bytes s count due ++ drop (wire_length (segment_of s (as_one s count due))) out

unfoldable pub train_after : State → ℕ → List ℕ → List ℕ
train_after s count out = train_with s count (due_of s) out

-- and the segments that the device makes of them
abbrev pub segments_of_due : State → ℕ → Option Due → List (List ℕ)
segments_of_due s count None = []
segments_of_due s count (Some due) =
    map (encoded_bytes s.config.addr.0 (destination_of s due).addr.0) (cut (count_of due) (segment_of s (as_one s count due)))

unfoldable pub train_segments : State → ℕ → List (List ℕ)
train_segments s count = segments_of_due s count (due_of s)

-- where more than one goes: its text follows on what was sent, all but the last are full, and the buffer has room
pub record IsTogether (s : State) (start each count room : ℕ) : Type 0 where
  pub several : 1 < count
  pub follows : start ≡ s.sending.snd_nxt
  pub behind : s.sending.released < s.sending.snd_nxt
  pub some : 0 < each
  pub short : each ≤ max_mss
  pub allowed : (count - 1) * each < text_allowed s.sending
  pub fits : header_len + sack_length (blocks_to_report s) + count * each ≤ min room max_len
