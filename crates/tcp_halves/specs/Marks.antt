-- Marks (RFC 2018, 5): what the blocks that the peer reports change in the half that sends.
use Rattle.std.specs.Prelude.{ℕ, Bool, if◌then◌else◌, ◌&&◌, List, [], ◌∷◌, nat_lt, nat_le, ◌++◌}
use Rattle.tcp_wire.specs.Options.{OptionContent, Nop, Mss, WindowScale, SackPermitted, Sack, Unknown}
use Rattle.tcp_wire.specs.Position.{position_of}
use Rattle.tcp_sendq.specs.SendQueue as queues
use Rattle.tcp_halves.specs.Sender.{Sending, count_below, place_of}

-- the blocks that a segment reports, in their order (RFC 2018, 3)
abbrev pub reported_blocks : List OptionContent → List (ℕ × ℕ)
reported_blocks [] = []
reported_blocks (Sack blocks ∷ options) = blocks ++ reported_blocks options
reported_blocks (Nop ∷ options) = reported_blocks options
reported_blocks (Mss size ∷ options) = reported_blocks options
reported_blocks (WindowScale shift ∷ options) = reported_blocks options
reported_blocks (SackPermitted ∷ options) = reported_blocks options
reported_blocks (Unknown kind body ∷ options) = reported_blocks options

-- a block of what was sent and isn't acknowledged. It marks its text, never the FIN
abbrev pub is_of_flight : Sending → ℕ → ℕ → Bool
is_of_flight s left right = nat_lt s.snd_una left && (nat_lt left right && nat_le right s.snd_nxt)

abbrev pub marks_text : Sending → ℕ → ℕ → Bool
marks_text s left right = is_of_flight s left right && nat_lt (place_of s left) (count_below s right)

abbrev pub with_marks : Sending → ℕ → ℕ → Sending
with_marks s left right = record s { queue = queues.after_mark s.queue (place_of s left) (count_below s right) }

unfoldable pub after_block : Sending → ℕ → ℕ → Sending
after_block s left right = if marks_text s left right then with_marks s left right else s

-- each block in turn (RFC 2018, 5), its edges read near SND.UNA
abbrev pub after_blocks : ℕ → Sending → List (ℕ × ℕ) → Sending
after_blocks iss s [] = s
after_blocks iss s (block ∷ blocks) =
    after_blocks iss (after_block s (position_of iss s.snd_una block.0) (position_of iss s.snd_una block.1)) blocks
