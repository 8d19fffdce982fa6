-- Who is spoken to answers (RFC 9293, 3.10.7.4, first): a segment that isn't acceptable is answered by an acknowledgement.
-- Once nothing has to be sent again, that is at SND.NXT.
use Rattle.std.specs.Prelude.{◌≡◌, ℕ, ◌≤◌, true, false, List, Some, None, IfSome, Ok}
use Rattle.tcp_numbers.specs.Position.{number}
use Rattle.tcp_numbers.specs.Flags.{ack, has, rst, syn}
use Rattle.tcp_wire.specs.Decoded.{decode_answer}
use Rattle.tcp_wire.specs.Wire.{Content, encoded_bytes}
use Rattle.tcp_conn.specs.declared.outcome.Arrival.TheVariants.{Dropped}
use Rattle.tcp_conn.specs.declared.phase.Timer.TheVariants.{Retransmit}
use Rattle.tcp_conn.specs.State.{State}
use Rattle.tcp_conn.specs.Arrival.{after_arrival, arrival_answer}
use Rattle.tcp_conn.specs.declared.emit.due.Due.{Due}
use Rattle.tcp_conn.specs.Due.{due_of, start_of, text_limit}
use Rattle.tcp_conn.specs.Forms.{segment_of}
use Rattle.tcp_conn.specs.Emission.{emitted_bytes}
use Rattle.tcp_conn.specs.Judgement.{is_acceptable_segment, is_allowed_shut, is_foreign}
use Rattle.tcp_conn.specs.Timers.{after_timer}
use Rattle.tcp_progress.specs.Progress.{is_synchronized}
use Rattle.tcp_progress.specs.Resent.{KeepsFlight, after_emissions}

-- MAY ANSWER: in ESTABLISHED or a later state, no reset or SYN is sent first, and the text limit leaves room for text. What
-- has to be sent again ends at most at SND.NXT
pub record MayAnswer (s : State) : Type 0 where
  pub phase : is_synchronized s.phase ≡ true
  pub reset : s.pending.reset ≡ None
  pub syn : s.pending.syn ≡ false
  pub limit : 1 ≤ text_limit s
  pub range : IfSome s.sending.resend (λ range. range.end ≤ s.sending.snd_nxt)

-- A SEGMENT OF THE PEER THAT ISN'T ACCEPTABLE, as an old SYN: no reset, and nothing that is taken at a zero window
pub record IsUnacceptable (s : State) (src dst : List ℕ) (v : Content) : Type 0 where
  pub mine : is_foreign s src dst v ≡ false
  pub no_rst : has rst v.flags ≡ false
  pub outside : is_acceptable_segment s v ≡ false
  pub untaken : is_allowed_shut s v ≡ false

-- what is emitted next is AT SND.NXT, and is a plain acknowledgement of RCV.NXT
pub record StandsAtNext (s : State) : Type 0 where
  pub due : Due
  pub is_due : due_of s ≡ Some due
  pub segment : Content
  pub form : segment ≡ segment_of s due
  pub emitted : emitted_bytes s ≡ Some (encoded_bytes s.config.addr.0 s.peer.addr.0 segment)
  pub starts : start_of s.sending due ≡ s.sending.snd_nxt
  pub seq : segment.seq ≡ number s.config.isn.0 s.sending.snd_nxt
  pub no_rst : has rst segment.flags ≡ false
  pub no_syn : has syn segment.flags ≡ false
  pub has_ack : has ack segment.flags ≡ true
  pub acknowledged : segment.ack ≡ s.receiving.rcv_nxt

-- CERTAINLY ANSWERS: after this many emissions, each of which keeps the flight, whatever isn't acceptable is answered so
pub record Answers (s : State) : Type 0 where
  pub count : ℕ
  pub keeps : (n : ℕ) → n ≤ count → KeepsFlight s.sending (after_emissions n s).sending
  pub answers : (src dst bytes : List ℕ) (v : Content) → decode_answer src dst bytes ≡ Ok v → IsUnacceptable (after_emissions count s) src dst v
      → (arrival_answer (after_emissions count s) src dst bytes ≡ Dropped)
      × StandsAtNext (after_arrival (after_emissions count s) src dst bytes)

-- WHO IS SPOKEN TO ANSWERS
abbrev pub SpokenToAnswers : Type 0
SpokenToAnswers = (s : State) → MayAnswer s → KeepsFlight s.sending (after_timer s Retransmit).sending × Answers (after_timer s Retransmit)
