-- NOTHING IS TAKEN BEFORE IT IS SENT (RFC 9293, 3.3.1 and 3.4): after every list of events, SND.NXT of one end, and what the
-- other has taken, keeps or may still receive.
use Rattle.std.specs.Prelude.{◌≡◌, ℕ, ◌+◌, ◌<◌, ◌≤◌, true, false, List, Some, Ok, slice_get}
use Rattle.std.specs.List.{AllByRecursion}
use Rattle.tcp_wire.specs.Flags.{rst, has}
use Rattle.tcp_wire.specs.Wire.{Content}
use Rattle.tcp_wire.specs.Decoded.{decode_answer}
use Rattle.tcp_reasm.specs.Reassembly.{Cell}
use Rattle.tcp_halves.specs.declared.config.Config.{Config}
use Rattle.tcp_halves.specs.Config.{IsConfig}
use Rattle.tcp_conn.specs.Judgement.{count_numbers}
use Rattle.tcp_replay.specs.Events.{EventContent, HasBytes}
use Rattle.tcp_replay.specs.World.{WorldState, PartyState, SentSegment, max_life, new_world_with, run_of, world_after_all}
use Rattle.tcp_replay.specs.Safe.{rcv_position_of}

-- the position of SND.NXT
abbrev pub next_to_send : PartyState → ℕ
next_to_send x = x.endpoint.sending.snd_nxt

-- the direction from x to y
pub record TakesOnlySent (x y : PartyState) : Type 0 where
  -- once y has the peer's SYN, RCV.NXT is at most SND.NXT,
  pub taken : y.endpoint.receiving.opened ≡ true → rcv_position_of y ≤ next_to_send x
  -- each byte that y keeps out of order is below SND.NXT,
  pub held : (place : ℕ) (cell : Cell) → slice_get y.endpoint.receiving.inbox.held place ≡ Some (Some cell) → 1 + y.endpoint.receiving.ordered + place < next_to_send x
  -- and each segment that x emitted ends there at most, its SYN and FIN counted, unless it is a reset
  pub emitted : (k : ℕ) (g : SentSegment) (v : Content) → slice_get x.sent k ≡ Some g → decode_answer x.endpoint.config.addr.0 y.endpoint.config.addr.0 g.bytes ≡ Ok v
      → has rst v.flags ≡ false → g.position + count_numbers v ≤ next_to_send x

pub record TakeOnlySent (w : WorldState) : Type 0 where
  pub there : TakesOnlySent w.a w.b
  pub back : TakesOnlySent w.b w.a

-- over every list of events, whatever the Configs of the two ends, however long segments live, and whether a run stops at a
-- refusal or continues
abbrev pub NothingIsTakenBeforeItIsSent : Type 0
NothingIsTakenBeforeItIsSent =
    (life : ℕ) (a b : Config) (list : List EventContent) → life ≤ max_life → IsConfig a → IsConfig b → AllByRecursion HasBytes list
    → TakeOnlySent (run_of (new_world_with life a b) list) × TakeOnlySent (world_after_all (new_world_with life a b) list)
