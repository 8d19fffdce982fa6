-- The state of one end: data alone (RFC 9293, 3.3.1). Positions count from the first number of a direction: the SYN is at 0,
-- byte i of the stream at 1 + i, the FIN after the last byte.
use Rattle.std.specs.Prelude.{Bool, true}
use Rattle.tcp_halves.specs.declared.config.Config.{Config}
use Rattle.tcp_halves.specs.declared.link.Link.{Link}
use Rattle.tcp_conn.specs.declared.pending.Pending.{Pending}
use Rattle.tcp_halves.specs.declared.link.Peer.{Peer}
use Rattle.tcp_conn.specs.declared.phase.Ending.{Ending}
use Rattle.tcp_conn.specs.declared.phase.Phase.{Phase}
pub use Rattle.tcp_halves.specs.Sender.{Sending, accepted_count, place_of, position_at, end_of_text, KeepsWithin}
pub use Rattle.tcp_halves.specs.Receiver.{Receiving, HoldsWithin}

-- one end of a connection
pub record State : Type 0 where
  pub config : Config
  pub phase : Phase
  pub ending : Ending
  -- a `close` was answered Ok
  pub closing : Bool
  pub peer : Peer
  -- what the SYNs agreed on
  pub link : Link
  pub sending : Sending
  pub receiving : Receiving
  -- what is pending
  pub pending : Pending

-- an end keeps no more than its Config allows
abbrev pub IsWithin : State → Type 0
IsWithin s = KeepsWithin s.config.send_capacity s.sending.queue × HoldsWithin s.config.recv_capacity s.receiving.inbox

abbrev pub with_ack_pending : State → State
with_ack_pending s = record s { pending = record s.pending { ack = true } }
