-- What always holds of an end (RFC 9293, 3.1, 3.7.1 and 3.8.6; RFC 7323, 2.3).
use Rattle.std.specs.Prelude.{◌<◌, ◌≤◌, ◌^◌, unwrap_or}
use Rattle.tcp_sendq.specs.SendQueue.{Queue}
use Rattle.tcp_reasm.specs.Reassembly.{Inbox, IsInbox}
use Rattle.tcp_halves.specs.declared.config.Config.{Config}
use Rattle.tcp_halves.specs.declared.link.Link.{Link}
use Rattle.tcp_halves.specs.Config.{max_shift, max_mss, stream_limit}
use Rattle.tcp_halves.specs.Receiver.{max_ordered}
use Rattle.tcp_halves.specs.Sender.{IsSender}
use Rattle.tcp_conn.specs.State.{IsWithin, KeepsWithin, State, HoldsWithin}

-- its segments fit the room that it asks for, its numbers fit their fields, and its buffers keep to their capacities
pub record IsEndpoint (c : Config) (link : Link) (queue : Queue) (inbox : Inbox) : Type 0 where
  pub mss : c.mss ≤ max_mss
  pub port : c.port < 2 ^ 16
  pub isn : c.isn.0 < 2 ^ 32
  pub shift : unwrap_or c.window_shift 0 ≤ max_shift
  pub limit : c.limit ≤ stream_limit
  pub peer_shift : link.peer_shift ≤ max_shift
  pub keeps : KeepsWithin c.send_capacity queue
  pub holds : HoldsWithin c.recv_capacity inbox

-- each number of an end fits its field of a segment
pub record FitsFields (s : State) : Type 0 where
  pub port : s.config.port < 2 ^ 16
  pub peer_port : s.peer.port < 2 ^ 16
  pub next : s.receiving.rcv_nxt < 2 ^ 32
  pub mss : s.config.mss ≤ max_mss
  pub shift : unwrap_or s.config.window_shift 0 ≤ max_shift

-- the invariant of every end, whatever was done to it: it keeps to its capacities, its two halves are sound, RCV.NXT is a
-- number of 32 bits, and the count of what came in order one of 64 bits
pub record AlwaysHolds (s : State) : Type 0 where
  pub within : IsWithin s
  pub sends : IsSender s.sending
  pub inbox : IsInbox s.receiving.inbox
  pub next : s.receiving.rcv_nxt < 2 ^ 32
  pub ordered : s.receiving.ordered ≤ max_ordered
