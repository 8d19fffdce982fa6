-- HOW FAR AN END SENDS (RFC 9293, 3.8.6): where the text ends that an end has sent, and the windows that each end advertises.
use Rattle.std.specs.Prelude.{◌≡◌, ℕ, ◌+◌, ◌≤◌, min, true, false, length, Ok, Some, slice_get}
use Rattle.tcp_numbers.specs.Flags.{has, rst, syn}
use Rattle.tcp_wire.specs.Decoded.{decode_answer}
use Rattle.tcp_wire.specs.Wire.{Content}
use Rattle.tcp_conn.specs.Windows.{window_from}
use Rattle.tcp_replay.specs.World.{PartyState, SentSegment}
use Rattle.tcp_replay.specs.Safe.{rcv_position_of}

-- WITHIN REACH: the text that x has sent ends, at most, y's receive capacity after y's RCV.NXT: not always at an edge that y
-- advertised
abbrev pub IsWithinReach : PartyState → PartyState → Type 0
IsWithinReach x y = min x.endpoint.sending.snd_nxt (1 + length x.accepted) ≤ rcv_position_of y + y.endpoint.config.recv_capacity

-- the window that y advertised in each segment that it emitted fits its room, as x reads it: of a SYN the field as it is (RFC
-- 7323, 2.2), of another, once x has y's SYN, scaled
pub record AdvertisesWithin (y x : PartyState) : Type 0 where
  pub plain : (k : ℕ) (g : SentSegment) (v : Content) → slice_get y.sent k ≡ Some g → decode_answer y.endpoint.config.addr.0 x.endpoint.config.addr.0 g.bytes ≡ Ok v
      → has rst v.flags ≡ false → has syn v.flags ≡ false → x.endpoint.receiving.opened ≡ true → window_from x.endpoint.link v.window ≤ y.endpoint.config.recv_capacity
  pub syn : (k : ℕ) (g : SentSegment) (v : Content) → slice_get y.sent k ≡ Some g → decode_answer y.endpoint.config.addr.0 x.endpoint.config.addr.0 g.bytes ≡ Ok v
      → has rst v.flags ≡ false → has syn v.flags ≡ true → v.window ≤ y.endpoint.config.recv_capacity
