-- The events of two ends, as numbers and lists: an event of the code is one of these (RFC 9293, 3.10).
use Rattle.std.specs.Prelude.{ℕ, ◌<◌, List}
use Rattle.tcp_wire.specs.Checksum.{AreBytes}
use Rattle.tcp_conn.specs.declared.phase.Timer.{Timer as Which}
use Rattle.tcp_replay.specs.declared.event.Side.{Side}
use Rattle.tcp_replay.specs.declared.event.Event.{Event}
use Rattle.tcp_replay.specs.declared.event.Event.TheVariants as code

-- each names the side of the user, of the timer or of the emission; a delivery names the side that emitted the segment
pub data EventContent : Type 0 where
  Connect : Side → EventContent
  Listen : Side → EventContent
  Send : Side → List ℕ → EventContent
  Receive : Side → ℕ → EventContent
  Close : Side → EventContent
  Abort : Side → EventContent
  Acknowledge : Side → EventContent
  Timer : Side → Which → EventContent
  Emit : Side → EventContent
  EmitAcknowledgement : Side → EventContent
  ResendFirst : Side → EventContent
  Resend : Side → ℕ → ℕ → EventContent
  Deliver : Side → ℕ → EventContent
  Damage : Side → ℕ → ℕ → ℕ → EventContent

abbrev pub event_content : {A : Type 0} → Event A → EventContent
event_content (code.Connect side) = Connect side
event_content (code.Listen side) = Listen side
event_content (code.Send side bytes) = Send side bytes.items
event_content (code.Receive side room) = Receive side room
event_content (code.Close side) = Close side
event_content (code.Abort side) = Abort side
event_content (code.Acknowledge side) = Acknowledge side
event_content (code.Timer side which) = Timer side which
event_content (code.Emit side) = Emit side
event_content (code.EmitAcknowledgement side) = EmitAcknowledgement side
event_content (code.ResendFirst side) = ResendFirst side
event_content (code.Resend side from to) = Resend side from to
event_content (code.Deliver from k) = Deliver from k
event_content (code.Damage from k place value) = Damage from k place value

-- the side that an event names
abbrev pub side_of : EventContent → Side
side_of (Connect side) = side
side_of (Listen side) = side
side_of (Send side bytes) = side
side_of (Receive side room) = side
side_of (Close side) = side
side_of (Abort side) = side
side_of (Acknowledge side) = side
side_of (Timer side which) = side
side_of (Emit side) = side
side_of (EmitAcknowledgement side) = side
side_of (ResendFirst side) = side
side_of (Resend side from to) = side
side_of (Deliver from k) = from
side_of (Damage from k place value) = from

-- the content of an event is bytes
abbrev pub HasBytes : EventContent → Type 0
HasBytes (Send side bytes) = AreBytes bytes
HasBytes (Damage from k place value) = value < 256
HasBytes other = Unit {0}

-- a segment arrives with one byte changed
abbrev pub IsDamage : EventContent → Type 0
IsDamage (Damage from k place value) = Unit {0}
IsDamage other = ⊥
