-- THE STREAM that an end sent. What is acknowledged is forgotten, from its first byte on (RFC 9293, 3.4).
use Rattle.std.specs.Prelude.{ℕ, ◌+◌, ◌-◌, Bool, ◌&&◌, not, nat_lt, nat_le, min, if◌then◌else◌, List, [], ◌++◌, length, take, drop, bytes_eq}

pub record Stream : Type 0 where
  -- how many bytes are forgotten
  pub released : ℕ
  -- those behind them, as far as they were sent without a gap
  pub sent : List ℕ

abbrev pub nothing_sent : Stream
nothing_sent = record { released = 0; sent = [] }

-- how many bytes were sent without a gap
abbrev pub count_sent : Stream → ℕ
count_sent d = d.released + length d.sent

-- and how many positions, that of the SYN and that of the FIN among them: SND.NXT, as far as it is known
abbrev pub count_taken : Stream → Bool → ℕ
count_taken d has_fin = 1 + count_sent d + (if has_fin then 1 else 0)

-- A TEXT at a position, the first byte's being 1, adds what it has beyond the end, where nothing lies between
abbrev pub with_text : Stream → ℕ → List ℕ → Stream
with_text d place text =
    record d { sent = if nat_lt 0 place && nat_le place (1 + count_sent d) then d.sent ++ drop (1 + count_sent d - place) text else d.sent }

-- TWO TEXTS are equal from one position on, as far as both go
abbrev pub count_both : List ℕ → List ℕ → ℕ
count_both one other = min (length one) (length other)

abbrev pub agrees : List ℕ → List ℕ → Bool
agrees one other = bytes_eq (take (count_both one other) one) (take (count_both one other) other)

-- a position always carries the same byte (RFC 9293, 3.4). A text is compared from its own position on, or from the first that
-- isn't forgotten
abbrev pub changes_bytes : Stream → ℕ → List ℕ → Bool
changes_bytes d place text = nat_lt 0 place && not (agrees (drop (place - (1 + d.released)) d.sent) (drop (1 + d.released - place) text))

-- AN ACKNOWLEDGEMENT covers the positions before its own (RFC 9293, 3.4): so many of the bytes that are kept. One of more than
-- was sent, with the position of a FIN where there is one, covers none
abbrev pub count_covered : Stream → Bool → ℕ → ℕ
count_covered d has_fin position =
    if nat_le position (count_taken d has_fin) then min (length d.sent) (position - (1 + d.released)) else 0

-- and these are forgotten
abbrev pub without_front : Stream → ℕ → Stream
without_front d n = record { released = d.released + n; sent = drop n d.sent }
