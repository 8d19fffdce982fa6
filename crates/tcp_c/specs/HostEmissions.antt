-- What a host reports of what a connection in it emitted by its name, alone or as one (RFC 9293, 3.7 and 3.8).
use Rattle.std.specs.Prelude.{◌≡◌, ℕ, List, length, Option, Some, None}
use Rattle.tcp_congestion.specs.AnyWindow.{any_control}
use Rattle.tcp_conn.specs.declared.emit.train.Train.{Train}
use Rattle.tcp_host.specs.declared.guest.Guest.{Guest}
use Rattle.tcp_steady.specs.Steady.{after_train as after_train_of, written_by_train}
use Rattle.tcp_table.specs.declared.held.Id.{Id}
use Rattle.tcp_c.specs.ConnectionTrains.{train_answer, train_found, train_sent}
use Rattle.tcp_c.specs.Connections.{emission_told, no_segment, segment_told}
use Rattle.tcp_c.specs.Hosts.{Hosted, asked, guest_of, host_after_use}
use Rattle.tcp_c.specs.Lodgers.{connection_in, driven_in, lodged, of_lodger}
use Rattle.tcp_c.specs.Trains.{no_train}
use Rattle.tcp_c.specs.declared.host.lodger.Lodger.{Lodger}
use Rattle.tcp_c.specs.declared.records.CConnectionSegment.{CConnectionSegment}
use Rattle.tcp_c.specs.declared.records.CTrain.{CTrain}

-- ---- ALONE: of the connection of a name, if it is there, what is reported, and what is written
abbrev pub segment_by : ℕ → ℕ → Option (Guest Lodger) → CConnectionSegment
segment_by now window None = no_segment
segment_by now window (Some guest) = segment_told (of_lodger.emission guest.end now window)

abbrev pub written_by : ℕ → ℕ → List ℕ → Option (Guest Lodger) → List ℕ
written_by now window out None = out
written_by now window out (Some guest) = of_lodger.written guest.end now window out

-- it emits into a buffer that each segment fits
pub record EmitsAlone (old new : Hosted) (id : Id) (now window : ℕ) (out after : List ℕ) (answer : ℕ) (told : CConnectionSegment) : Type 0 where
  pub answered : answer ≡ asked (λ g. emission_told (of_lodger.emission g now window)) (guest_of old id)
  pub reported : told ≡ segment_by now window (guest_of old id)
  pub written : after ≡ written_by now window out (guest_of old id)
  pub state : new ≡ host_after_use old id (λ g. of_lodger.emitted g now window)

-- ---- AS ONE: what goes out, what is written of it, and the connection afterwards
abbrev pub lodger_train : Lodger → ℕ → ℕ → ℕ → ℕ → Option Train
lodger_train g now window most room = train_sent now window most room (driven_in g)

abbrev pub lodger_written : Lodger → ℕ → ℕ → ℕ → List ℕ → List ℕ
lodger_written g now window most out = written_by_train any_control (connection_in g) now window most out

abbrev pub lodger_trained : Lodger → ℕ → ℕ → ℕ → ℕ → Lodger
lodger_trained g now window most room = lodged g (after_train_of any_control (connection_in g) now window most room)

-- of the connection of a name, if it is there: what is reported, and what is written
abbrev pub train_by : ℕ → ℕ → ℕ → ℕ → Option (Guest Lodger) → CTrain
train_by now window most room None = no_train
train_by now window most room (Some guest) = train_found (lodger_train guest.end now window most room)

abbrev pub train_written_by : ℕ → ℕ → ℕ → List ℕ → Option (Guest Lodger) → List ℕ
train_written_by now window most out None = out
train_written_by now window most out (Some guest) = lodger_written guest.end now window most out

-- it emits as one into a buffer that each segment fits
pub record EmitsTrain (old new : Hosted) (id : Id) (now window most : ℕ) (out after : List ℕ) (answer : ℕ) (told : CTrain) : Type 0 where
  pub answered : answer ≡ asked (λ g. train_answer (lodger_train g now window most (length out))) (guest_of old id)
  pub reported : told ≡ train_by now window most (length out) (guest_of old id)
  pub written : after ≡ train_written_by now window most out (guest_of old id)
  pub state : new ≡ host_after_use old id (λ g. lodger_trained g now window most (length out))
