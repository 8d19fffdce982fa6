-- The words of a script: kinds of events, sides and timers.
use Rattle.std.specs.Prelude.{ℕ, if◌then◌else◌, List, bytes_eq, codes, Option, Some, None}
use Rattle.tcp_conn.specs.declared.phase.Timer.{Timer}
use Rattle.tcp_conn.specs.declared.phase.Timer.TheVariants.{Retransmit, Reorder, TimeWait}
use Rattle.tcp_conn.specs.Names.{timer_name}
use Rattle.tcp_replay.specs.declared.event.Side.{Side}
use Rattle.tcp_replay.specs.declared.event.Side.TheVariants.{A, B}
use Rattle.tcp_replay.specs.Events.{EventContent}
use Rattle.tcp_replay.specs.Events as events
use Rattle.tcp_replay.specs.Names.{side_name}
use Rattle.kit_script.specs.declared.names.Kind.{Kind}
use Rattle.kit_script.specs.declared.names.Kind.TheVariants as kinds

-- the kind of an event, without what it names
abbrev pub kind_of : EventContent → Kind
kind_of (events.Connect side) = kinds.Connect
kind_of (events.Listen side) = kinds.Listen
kind_of (events.Send side bytes) = kinds.Send
kind_of (events.Receive side room) = kinds.Receive
kind_of (events.Close side) = kinds.Close
kind_of (events.Abort side) = kinds.Abort
kind_of (events.Acknowledge side) = kinds.Acknowledge
kind_of (events.Timer side timer) = kinds.Timer
kind_of (events.Emit side) = kinds.Emit
kind_of (events.EmitAcknowledgement side) = kinds.EmitAcknowledgement
kind_of (events.ResendFirst side) = kinds.ResendFirst
kind_of (events.Resend side from to) = kinds.Resend
kind_of (events.Deliver from k) = kinds.Deliver
kind_of (events.Damage from k place value) = kinds.Damage

abbrev pub kind_name : Kind → List ℕ
kind_name kinds.Connect = codes "connect"
kind_name kinds.Listen = codes "listen"
kind_name kinds.Send = codes "send"
kind_name kinds.Receive = codes "receive"
kind_name kinds.Close = codes "close"
kind_name kinds.Abort = codes "abort"
kind_name kinds.Acknowledge = codes "acknowledge"
kind_name kinds.Timer = codes "timer"
kind_name kinds.Emit = codes "emit"
kind_name kinds.EmitAcknowledgement = codes "emit-acknowledgement"
kind_name kinds.ResendFirst = codes "resend-first"
kind_name kinds.Resend = codes "resend"
kind_name kinds.Deliver = codes "deliver"
kind_name kinds.Damage = codes "damage"

-- the kind that a word of a script names, if any; no line says `acknowledge`,
-- `emit-acknowledgement`, `resend-first` or `resend`
abbrev pub kind_named : List ℕ → Option Kind
kind_named word =
    if bytes_eq word (kind_name kinds.Connect) then Some kinds.Connect
    else (if bytes_eq word (kind_name kinds.Listen) then Some kinds.Listen
    else (if bytes_eq word (kind_name kinds.Send) then Some kinds.Send
    else (if bytes_eq word (kind_name kinds.Receive) then Some kinds.Receive
    else (if bytes_eq word (kind_name kinds.Close) then Some kinds.Close
    else (if bytes_eq word (kind_name kinds.Abort) then Some kinds.Abort
    else (if bytes_eq word (kind_name kinds.Timer) then Some kinds.Timer
    else (if bytes_eq word (kind_name kinds.Emit) then Some kinds.Emit
    else (if bytes_eq word (kind_name kinds.Deliver) then Some kinds.Deliver
    else (if bytes_eq word (kind_name kinds.Damage) then Some kinds.Damage
    else None)))))))))

abbrev pub side_named : List ℕ → Option Side
side_named word = if bytes_eq word (side_name A) then Some A else (if bytes_eq word (side_name B) then Some B else None)

abbrev pub timer_named : List ℕ → Option Timer
timer_named word =
    if bytes_eq word (timer_name Retransmit) then Some Retransmit
    else (if bytes_eq word (timer_name Reorder) then Some Reorder
    else (if bytes_eq word (timer_name TimeWait) then Some TimeWait
    else None))
