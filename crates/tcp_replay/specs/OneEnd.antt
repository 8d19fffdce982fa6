-- THE FACTS OF ONE END, over every list of events, whoever its peer is and whatever bytes arrive (RFC 9293, 3.4 and 3.10.7):
-- what it sends is its user's, what it delivers came, and what it acknowledges is in order.
use Rattle.std.specs.Prelude.{◌≡◌, ℕ, ◌+◌, ◌-◌, Bool, true, false, if◌then◌else◌, List, [], ◌∷◌, ◌++◌, length, Some, slice_get, Ok}
use Rattle.std.specs.List.{AllByRecursion}
use Rattle.tcp_wire.specs.Decoded.{decode_answer}
use Rattle.tcp_wire.specs.Flags.{syn, rst, ack, has}
use Rattle.tcp_wire.specs.Position.{number}
use Rattle.tcp_wire.specs.Wire.{Content}
use Rattle.tcp_halves.specs.declared.config.Config.{Config}
use Rattle.tcp_halves.specs.Config.{IsConfig}
use Rattle.tcp_conn.specs.State.{State}
use Rattle.tcp_conn.specs.NewEnd.{end_with_runs}
use Rattle.tcp_conn.specs.Judgement.{is_foreign, is_acceptable_segment}
use Rattle.tcp_replay.specs.SoloEvents.{SoloContent, HasRanges, Arrive}
use Rattle.tcp_reasm.specs.Reassembly.{default_runs}
use Rattle.tcp_replay.specs.Solo.{end_after, segment_emitted, alone_with_runs}
use Rattle.tcp_replay.specs.Truthful.{IsOfUser}

-- WHAT IT SENDS IS ITS USER'S: each segment that it emitted can be read. Unless it is a reset, it begins at a position of
-- this end's direction and has the text that was accepted there. FIN comes only after a close, after all of the text
abbrev pub SendsItsUsers : Config → List ℕ → Bool → List (List ℕ × List ℕ) → Type 0
SendsItsUsers c accepted closed emitted =
    (k : ℕ) (to bytes : List ℕ) → slice_get emitted k ≡ Some (to, bytes)
    → (v : Content) × (decode_answer c.addr.0 to bytes ≡ Ok v) × (has rst v.flags ≡ false → IsOfUser c.isn.0 accepted closed v)

-- A SEGMENT that arrived among these events
pub record Came (list : List SoloContent) : Type 0 where
  pub front : List SoloContent
  pub src : List ℕ
  pub dst : List ℕ
  pub bytes : List ℕ
  pub rest : List SoloContent
  pub whole : list ≡ front ++ Arrive src dst bytes ∷ rest
  pub content : Content
  pub read : decode_answer src dst bytes ≡ Ok content

-- THE PEER'S SYN that the end took came, and its number is IRS (RFC 9293, 3.3.1): no SYN was taken before it. The end keeps
-- at most this many runs out of order
pub record TookSynWith (c : Config) (runs : ℕ) (list : List SoloContent) (irs : ℕ) : Type 0 where
  pub came : Came list
  pub is_syn : has syn came.content.flags ≡ true
  pub before : (alone_with_runs c runs came.front).endpoint.receiving.opened ≡ false
  pub after : (end_after (alone_with_runs c runs came.front).endpoint (Arrive came.src came.dst came.bytes)).receiving.opened ≡ true
  pub number : irs ≡ came.content.seq

abbrev pub TookSyn : Config → List SoloContent → ℕ → Type 0
TookSyn c list irs = TookSynWith c default_runs list irs

-- A BYTE with this number came, in a segment of this connection that was taken when it came: acceptable, neither a reset nor
-- a SYN, and with ACK (RFC 9293, 3.10.7.4, first to fifth)
pub record CameInWith (c : Config) (runs : ℕ) (list : List SoloContent) (n byte : ℕ) : Type 0 where
  pub came : Came list
  pub mine : is_foreign (alone_with_runs c runs came.front).endpoint came.src came.dst came.content ≡ false
  pub acceptable : is_acceptable_segment (alone_with_runs c runs came.front).endpoint came.content ≡ true
  pub no_rst : has rst came.content.flags ≡ false
  pub no_syn : has syn came.content.flags ≡ false
  pub has_ack : has ack came.content.flags ≡ true
  pub place : ℕ
  pub byte_is : slice_get came.content.text place ≡ Some byte
  pub number : n ≡ number came.content.seq place

abbrev pub CameIn : Config → List SoloContent → ℕ → ℕ → Type 0
CameIn c list n byte = CameInWith c default_runs list n byte

-- WHAT IT DELIVERS CAME: byte i as the byte with number IRS + 1 + i
pub record DeliversWhatCameWith (c : Config) (runs : ℕ) (list : List SoloContent) (delivered : List ℕ) : Type 0 where
  pub irs : ℕ
  pub came : (i byte : ℕ) → slice_get delivered i ≡ Some byte → TookSynWith c runs list irs × CameInWith c runs list (number irs (1 + i)) byte

abbrev pub DeliversWhatCame : Config → List SoloContent → List ℕ → Type 0
DeliversWhatCame c list delivered = DeliversWhatCameWith c default_runs list delivered

-- how many bytes come in order at an event: those that it adds to the unread ones
abbrev pub count_come : State → SoloContent → ℕ
count_come s event = length (end_after s event).receiving.inbox.unread - length s.receiving.inbox.unread

unfoldable pub count_in_order : State → List SoloContent → ℕ
count_in_order s [] = 0
count_in_order s (event ∷ events) = count_come s event + count_in_order (end_after s event) events

-- the next position that it expects after these events: after what came in order, and after the peer's FIN once that was
-- taken
abbrev pub rcv_position_with : Config → ℕ → List SoloContent → ℕ
rcv_position_with c runs list =
    1 + count_in_order (end_with_runs c runs) list + (if (alone_with_runs c runs list).endpoint.receiving.finished then 1 else 0)

abbrev pub rcv_position_after : Config → List SoloContent → ℕ
rcv_position_after c list = rcv_position_with c default_runs list

-- WHAT IT ACKNOWLEDGES IS IN ORDER: at each emission, all that came in order up to then and nothing else
pub record AcknowledgesInOrderWith (c : Config) (runs : ℕ) (list : List SoloContent) : Type 0 where
  pub irs : ℕ
  pub reported : (front rest : List SoloContent) (event : SoloContent) (to bytes : List ℕ) (v : Content) → list ≡ front ++ event ∷ rest
      → segment_emitted (alone_with_runs c runs front).endpoint event ≡ Some (to, bytes) → decode_answer c.addr.0 to bytes ≡ Ok v
      → has rst v.flags ≡ false → has ack v.flags ≡ true → TookSynWith c runs front irs
      × (v.ack ≡ number irs (rcv_position_with c runs front))

abbrev pub AcknowledgesInOrder : Config → List SoloContent → Type 0
AcknowledgesInOrder c list = AcknowledgesInOrderWith c default_runs list

-- THE THEOREM OF ONE END
pub record IsTrueEndWith (c : Config) (runs : ℕ) (list : List SoloContent) : Type 0 where
  pub sends : SendsItsUsers c (alone_with_runs c runs list).accepted (alone_with_runs c runs list).closed (alone_with_runs c runs list).emitted
  pub delivers : DeliversWhatCameWith c runs list (alone_with_runs c runs list).delivered
  pub acknowledges : AcknowledgesInOrderWith c runs list

abbrev pub IsTrueEnd : Config → List SoloContent → Type 0
IsTrueEnd c list = IsTrueEndWith c default_runs list

abbrev pub OneEndIsTrue : Type 0
OneEndIsTrue = (c : Config) (list : List SoloContent) → IsConfig c → AllByRecursion HasRanges list → IsTrueEnd c list

-- so it is whatever number of runs the end keeps out of order
abbrev pub OneEndIsTrueWithRuns : Type 0
OneEndIsTrueWithRuns = (c : Config) (runs : ℕ) (list : List SoloContent) → IsConfig c → AllByRecursion HasRanges list → IsTrueEndWith c runs list
