-- What a connection reports of segments that it emitted as one, for a device that cuts them (RFC 9293, 3.7 and 3.8), into a buffer of
-- any length.
use Rattle.std.specs.Prelude.{ℕ, nat_lt, if◌then◌else◌, List, length, Option, Some, None}
use Rattle.tcp_congestion.specs.AnyWindow.{any_control}
use Rattle.tcp_conn.specs.declared.emit.train.Train.{Train}
use Rattle.tcp_conn.specs.declared.emit.transmit.TheConstants.{EMIT_ROOM}
use Rattle.tcp_steady.specs.Steady.{after_train as after_train_of, train_by_emit, written_by_train}
use Rattle.tcp_c.specs.Answers.{done, little_room, nothing_due}
use Rattle.tcp_c.specs.Trains.{no_train, record_of}
use Rattle.tcp_c.specs.declared.records.CTrain.{CTrain}
use Rattle.tcp_c.specs.declared.connection.driven.Driven.{Driven}

-- the answer, and the report: all zero where none goes out, where there is less room than an emission requires, or no end
abbrev pub train_answer : Option Train → ℕ
train_answer None = nothing_due
train_answer (Some train) = done

abbrev pub train_found : Option Train → CTrain
train_found None = no_train
train_found (Some train) = record_of train

abbrev pub train_sent : ℕ → ℕ → ℕ → ℕ → Driven → Option Train
train_sent now window most room d = train_by_emit any_control d.connection now window most room

abbrev pub train_number : ℕ → ℕ → ℕ → ℕ → Driven → ℕ
train_number now window most room d = if nat_lt room EMIT_ROOM then little_room else train_answer (train_sent now window most room d)

abbrev pub train_reported : ℕ → ℕ → ℕ → ℕ → Option Driven → CTrain
train_reported now window most room None = no_train
train_reported now window most room (Some d) = if nat_lt room EMIT_ROOM then no_train else train_found (train_sent now window most room d)

-- the content of the buffer afterwards
abbrev pub train_written : ℕ → ℕ → ℕ → List ℕ → Option Driven → List ℕ
train_written now window most out None = out
train_written now window most out (Some d) =
    if nat_lt (length out) EMIT_ROOM then out else written_by_train any_control d.connection now window most out

-- the connection afterwards: so many emissions later, each at this time
abbrev pub after_train : ℕ → ℕ → ℕ → ℕ → Driven → Driven
after_train now window most room d =
    if nat_lt room EMIT_ROOM then d else record { connection = after_train_of any_control d.connection now window most room }
