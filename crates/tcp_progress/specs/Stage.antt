-- WHAT EACH STATE OF A CONNECTION SAYS (RFC 9293, 3.3.2) of both FINs, and who the peer is: facts of two ends after every
-- list of events.
use Rattle.std.specs.Prelude.{◌≡◌, Bool, true, false}
use Rattle.tcp_conn.specs.declared.phase.Ending.TheVariants.{Orderly}
use Rattle.tcp_conn.specs.declared.phase.Phase.{Phase}
use Rattle.tcp_conn.specs.declared.phase.Phase.TheVariants.{Closed, SynReceived, Established, FinWait1, FinWait2, CloseWait, Closing, LastAck, TimeWait}
use Rattle.tcp_conn.specs.Phase.{has_peer}
use Rattle.tcp_halves.specs.Sender.{is_fin_acked}
use Rattle.tcp_conn.specs.State.{State}
use Rattle.tcp_replay.specs.World.{PartyState}
use Rattle.tcp_replay.specs.Safe.{rcv_position_of}

-- WHAT EACH STATE SAYS (RFC 9293, 3.3.2) of this end's close, of the acknowledgement of its FIN and of the peer's FIN
pub record Says (closes acks finishes : Bool) (s : State) : Type 0 where
  pub closing : s.closing ≡ closes
  pub acked : is_fin_acked s.sending ≡ acks
  pub finished : s.receiving.finished ≡ finishes

-- by phase
abbrev pub SaysByPhase : Phase → State → Type 0
SaysByPhase Established s = Says false false false s
SaysByPhase FinWait1 s = Says true false false s
SaysByPhase FinWait2 s = Says true true false s
SaysByPhase CloseWait s = Says false false true s
SaysByPhase Closing s = Says true false true s
SaysByPhase LastAck s = Says true false true s
SaysByPhase TimeWait s = Says true true true s
SaysByPhase SynReceived s = (s.sending.snd_una ≡ 0) × (s.sending.snd_nxt ≡ 1)
SaysByPhase Closed s = s.ending ≡ Orderly → Says true true true s
SaysByPhase other s = Unit {0}

-- the known peer is at the other party's port
abbrev pub KnowsPort : PartyState → PartyState → Type 0
KnowsPort x y = has_peer x.endpoint.phase ≡ true → x.endpoint.peer.port ≡ y.endpoint.config.port

-- in LAST-ACK, all that the peer sent is acknowledged to it once it has the FIN, since each FIN from LAST-ACK acknowledges the peer's
abbrev pub ReleasesAll : PartyState → PartyState → Type 0
ReleasesAll x y = x.endpoint.phase ≡ LastAck → y.endpoint.receiving.finished ≡ true → y.endpoint.sending.snd_una ≡ rcv_position_of x
