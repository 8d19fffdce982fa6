-- The events of one end, as numbers and lists: a SoloEvent of the code is one of these (RFC 9293, 3.10).
use Rattle.std.specs.Prelude.{ℕ, ◌<◌, ◌^◌, List}
use Rattle.tcp_wire.specs.Checksum.{AreBytes}
use Rattle.tcp_conn.specs.declared.phase.Timer.{Timer as Which}
use Rattle.tcp_replay.specs.declared.solo_event.SoloEvent.{SoloEvent}
use Rattle.tcp_replay.specs.declared.solo_event.SoloEvent.TheVariants as code

-- a connect names the peer's address and port; an arrival the source and the destination of its bytes
pub data SoloContent : Type 0 where
  Connect : List ℕ → ℕ → SoloContent
  Listen : SoloContent
  Send : List ℕ → SoloContent
  Receive : ℕ → SoloContent
  Close : SoloContent
  Abort : SoloContent
  Acknowledge : SoloContent
  Timer : Which → SoloContent
  Emit : SoloContent
  EmitAcknowledgement : SoloContent
  ResendFirst : SoloContent
  Resend : ℕ → ℕ → SoloContent
  Arrive : List ℕ → List ℕ → List ℕ → SoloContent

abbrev pub solo_content : SoloEvent → SoloContent
solo_content (code.Connect addr port) = Connect addr.0 port
solo_content code.Listen = Listen
solo_content (code.Send bytes) = Send bytes.items
solo_content (code.Receive room) = Receive room
solo_content code.Close = Close
solo_content code.Abort = Abort
solo_content code.Acknowledge = Acknowledge
solo_content (code.Timer which) = Timer which
solo_content code.Emit = Emit
solo_content code.EmitAcknowledgement = EmitAcknowledgement
solo_content code.ResendFirst = ResendFirst
solo_content (code.Resend from to) = Resend from to
solo_content (code.Arrive src dst bytes) = Arrive src.0 dst.0 bytes.items

-- the content of an event is bytes, and a port fits its field
abbrev pub HasRanges : SoloContent → Type 0
HasRanges (Connect addr port) = port < 2 ^ 16
HasRanges (Send bytes) = AreBytes bytes
HasRanges (Arrive src dst bytes) = AreBytes bytes
HasRanges other = Unit {0}
