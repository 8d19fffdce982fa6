-- THE INVARIANT OF ONE END BY ITSELF, whoever its peer is (RFC 9293, 3.3 and 3.4): how far it has come, what it queues of
-- what its user sent, and what it has pending.
use Rattle.std.specs.Prelude.{◌≡◌, ℕ, ◌+◌, ◌-◌, ◌^◌, ◌<◌, ◌≤◌, min, max, Bool, true, false, if◌then◌else◌, List, length, drop, IfSome}
use Rattle.tcp_wire.specs.Checksum.{AreBytes}
use Rattle.tcp_halves.specs.declared.link.WaitingReset.{WaitingReset}
use Rattle.tcp_conn.specs.declared.phase.Phase.{Phase}
use Rattle.tcp_conn.specs.declared.phase.Phase.TheVariants.{Closed, Listen, SynSent, SynReceived, Established, FinWait1, FinWait2, CloseWait, Closing, LastAck, TimeWait}
use Rattle.tcp_conn.specs.declared.phase.Ending.{Ending}
use Rattle.tcp_conn.specs.declared.phase.Ending.TheVariants.{NotEnded}
use Rattle.tcp_sendq.specs.SendQueue.{max_capacity}
use Rattle.tcp_halves.specs.Config.{IsConfig, stream_limit}
use Rattle.tcp_conn.specs.State.{State, Sending}
use Rattle.tcp_conn.specs.Phase.{has_peer, is_handshake, discards}

-- THE HALF THAT SENDS, and what was accepted
pub record Sends (s : Sending) (accepted : List ℕ) (closed gone : Bool) : Type 0 where
  pub order : s.snd_una ≤ s.snd_nxt
  -- nothing was sent but the SYN, what was accepted, and after a close the FIN
  pub most : s.snd_nxt ≤ 1 + length accepted + (if closed then 1 else 0)
  pub limit : length accepted ≤ stream_limit
  -- no more is unreleased than a queue holds, also after a reset or an abort
  pub capacity : s.queue.capacity ≤ max_capacity
  pub ahead : length accepted ≤ s.released + max_capacity
  pub bytes : AreBytes accepted
  -- what was released is the text below SND.UNA
  pub released : s.released ≡ min (s.snd_una - 1) (length accepted)
  -- and the rest is queued, until a reset or an abort
  pub queue : gone ≡ false → s.queue.bytes ≡ drop s.released accepted
  pub flags : length s.queue.marks ≡ length s.queue.bytes
  -- what has to be sent again was sent, or is text
  pub range : IfSome s.resend (λ range. range.end ≤ max s.snd_nxt (1 + length accepted))

-- HOW FAR AN END HAS COME, by its phase. Nothing was sent or taken:
pub record IsUnused (snd_nxt : ℕ) (opened : Bool) : Type 0 where
  pub snd_nxt_is : snd_nxt ≡ 0
  pub not_opened : opened ≡ false

-- its SYN waits for an answer,
pub record IsOpening (snd_nxt : ℕ) (opened : Bool) : Type 0 where
  pub snd_nxt_is : snd_nxt ≡ 1
  pub not_opened : opened ≡ false

-- or its SYN that answers the peer's;
pub record IsAnswering (snd_nxt : ℕ) (opened finished : Bool) : Type 0 where
  pub snd_nxt_is : snd_nxt ≡ 1
  pub is_opened : opened ≡ true
  pub goes_on : finished ≡ false

-- both SYNs were taken, and the peer's FIN wasn't,
pub record IsReceiving (snd_una : ℕ) (opened finished : Bool) : Type 0 where
  pub least : 1 ≤ snd_una
  pub is_opened : opened ≡ true
  pub goes_on : finished ≡ false

-- or it may have been.
pub record IsDone (snd_una : ℕ) (opened : Bool) : Type 0 where
  pub least : 1 ≤ snd_una
  pub is_opened : opened ≡ true

abbrev pub FitsPhase : Phase → Ending → ℕ → ℕ → Bool → Bool → Type 0
FitsPhase Closed ending snd_una snd_nxt opened finished = ending ≡ NotEnded → IsUnused snd_nxt opened
FitsPhase Listen ending snd_una snd_nxt opened finished = (ending ≡ NotEnded) × IsUnused snd_nxt opened
FitsPhase SynSent ending snd_una snd_nxt opened finished = (ending ≡ NotEnded) × IsOpening snd_nxt opened
FitsPhase SynReceived ending snd_una snd_nxt opened finished = (ending ≡ NotEnded) × IsAnswering snd_nxt opened finished
FitsPhase Established ending snd_una snd_nxt opened finished = (ending ≡ NotEnded) × IsReceiving snd_una opened finished
FitsPhase FinWait1 ending snd_una snd_nxt opened finished = (ending ≡ NotEnded) × IsReceiving snd_una opened finished
FitsPhase FinWait2 ending snd_una snd_nxt opened finished = (ending ≡ NotEnded) × IsReceiving snd_una opened finished
FitsPhase CloseWait ending snd_una snd_nxt opened finished = (ending ≡ NotEnded) × IsDone snd_una opened
FitsPhase Closing ending snd_una snd_nxt opened finished = (ending ≡ NotEnded) × IsDone snd_una opened
FitsPhase LastAck ending snd_una snd_nxt opened finished = (ending ≡ NotEnded) × IsDone snd_una opened
FitsPhase TimeWait ending snd_una snd_nxt opened finished = (ending ≡ NotEnded) × IsDone snd_una opened

-- a waiting reset can be written
pub record IsWritable (reset : WaitingReset) : Type 0 where
  pub port : reset.to.port < 2 ^ 16
  pub seq : reset.seq.0 < 2 ^ 32
  pub ack : IfSome reset.ack (λ seq. seq.0 < 2 ^ 32)

-- ONE END ALONE, with what its user sent and whether its user closed
pub record IsAlone (s : State) (accepted : List ℕ) (closed : Bool) : Type 0 where
  pub config : IsConfig s.config
  pub closing : s.closing ≡ closed
  pub progress : FitsPhase s.phase s.ending s.sending.snd_una s.sending.snd_nxt s.receiving.opened s.receiving.finished
  pub port : has_peer s.phase ≡ true → s.peer.port < 2 ^ 16
  -- a SYN is pending in the handshake alone, an acknowledgement to a peer whose SYN was taken
  pub syn : s.pending.syn ≡ true → is_handshake s.phase ≡ true
  pub ack : s.pending.ack ≡ true → (has_peer s.phase ≡ true) × (s.receiving.opened ≡ true)
  pub reset : IfSome s.pending.reset IsWritable
  pub sends : Sends s.sending accepted closed (discards s.ending)
  -- RCV.NXT fits its field, and before the peer's SYN there is no FIN
  pub next : s.receiving.rcv_nxt < 2 ^ 32
  pub unopened : s.receiving.opened ≡ false → s.receiving.finished ≡ false
