-- WHAT IS LEFT between two ends (RFC 9293, 3.3.1): what was accepted and isn't taken yet, and what isn't acknowledged yet.
use Rattle.std.specs.Prelude.{ℕ, ◌+◌, ◌-◌, if◌then◌else◌, length}
use Rattle.tcp_replay.specs.World.{WorldState, PartyState}
use Rattle.tcp_replay.specs.Safe.{rcv_position_of}

-- the position after all that x has to send: its SYN, the bytes accepted, and after a close the FIN (RFC 9293, 3.4)
abbrev pub all_of : PartyState → ℕ
all_of x = 1 + length x.accepted + (if x.closed then 1 else 0)

-- from x to y: what y hasn't taken, counted from its RCV.NXT, and what isn't acknowledged to x, from its SND.UNA
abbrev pub left_between : PartyState → PartyState → ℕ
left_between x y = (all_of x - rcv_position_of y) + (all_of x - x.endpoint.sending.snd_una)

-- both ways
abbrev pub left_of_both : PartyState → PartyState → ℕ
left_of_both x y = left_between x y + left_between y x

abbrev pub left_in : WorldState → ℕ
left_in w = left_of_both w.a w.b
