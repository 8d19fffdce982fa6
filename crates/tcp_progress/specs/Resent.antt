-- What an end certainly sends after a retransmission timeout: what is in flight is sent again (RFC 9293, 3.8.1), and where
-- nothing is, what is unsent is sent (RFC 9293, 3.8.6.1).
use Rattle.std.specs.Prelude.{◌≡◌, ℕ, zero, suc, ◌+◌, ◌<◌, ◌≤◌, true, false, length, take, drop, Some, None, IfSome, ◌⊎◌}
use Rattle.tcp_numbers.specs.Position.{number}
use Rattle.tcp_numbers.specs.Flags.{ack, has, rst, syn}
use Rattle.tcp_wire.specs.Wire.{Content, encoded_bytes}
use Rattle.tcp_conn.specs.declared.phase.Timer.TheVariants.{Retransmit}
use Rattle.tcp_conn.specs.Phase.{sends_text}
use Rattle.tcp_halves.specs.Sender.{Sending, count_unsent, end_of_text, place_of}
use Rattle.tcp_conn.specs.State.{State}
use Rattle.tcp_conn.specs.declared.emit.due.Due.{Due}
use Rattle.tcp_conn.specs.Due.{due_of, start_of, text_limit}
use Rattle.tcp_conn.specs.Forms.{segment_of}
use Rattle.tcp_conn.specs.Emission.{after_emission, emitted_bytes}
use Rattle.tcp_conn.specs.Judgement.{count_numbers}
use Rattle.tcp_conn.specs.Timers.{after_timer}

-- the end after this many emissions
abbrev pub after_emissions : ℕ → State → State
after_emissions zero s = s
after_emissions (suc n) s = after_emissions n (after_emission s)

-- MAY SEND: in a phase in which text and FIN are sent, no reset or SYN is sent first, and the text limit leaves room for text
-- (RFC 9293, 3.7.1)
pub record MaySend (s : State) : Type 0 where
  pub phase : sends_text s.phase ≡ true
  pub reset : s.pending.reset ≡ None
  pub syn : s.pending.syn ≡ false
  pub limit : 1 ≤ text_limit s

-- IN FLIGHT: SND.UNA =< position < SND.NXT, and a byte of the queue or the FIN is there
pub record IsInFlight (s : Sending) (position : ℕ) : Type 0 where
  pub unacknowledged : s.snd_una ≤ position
  pub sent : position < s.snd_nxt
  pub queued : s.released < position
  pub most : position ≤ end_of_text s

-- what is emitted next COVERS a position: it begins at or before it, ends after it (RFC 9293, 3.4), has the text of the
-- queue, and is a plain acknowledgement of RCV.NXT
pub record CoversNext (s : State) (position : ℕ) : Type 0 where
  pub due : Due
  pub is_due : due_of s ≡ Some due
  pub segment : Content
  pub form : segment ≡ segment_of s due
  pub start : ℕ
  pub emitted : emitted_bytes s ≡ Some (encoded_bytes s.config.addr.0 s.peer.addr.0 segment)
  pub starts : start_of s.sending due ≡ start
  pub seq : segment.seq ≡ number s.config.isn.0 start
  pub begins : start ≤ position
  pub ends : position < start + count_numbers segment
  pub text : segment.text ≡ take (length segment.text) (drop (place_of s.sending start) s.sending.queue.bytes)
  pub no_rst : has rst segment.flags ≡ false
  pub no_syn : has syn segment.flags ≡ false
  pub has_ack : has ack segment.flags ≡ true
  pub acknowledged : segment.ack ≡ s.receiving.rcv_nxt

-- SND.UNA, SND.NXT and the queued bytes are what they were
pub record KeepsFlight (before after : Sending) : Type 0 where
  pub snd_una : after.snd_una ≡ before.snd_una
  pub snd_nxt : after.snd_nxt ≡ before.snd_nxt
  pub released : after.released ≡ before.released
  pub queued : after.queue.bytes ≡ before.queue.bytes

-- CERTAINLY GOES OUT: after this many emissions the next covers the position, and that one and those before it keep the
-- flight
pub record GoesOut (s : State) (position : ℕ) : Type 0 where
  pub count : ℕ
  pub covers : CoversNext (after_emissions count s) position
  pub keeps : (n : ℕ) → n ≤ count + 1 → KeepsFlight s.sending (after_emissions n s).sending

-- WHAT IS IN FLIGHT IS SENT AGAIN after a retransmission timeout, whatever the peer has reported as received
abbrev pub FlightGoesOutAgain : Type 0
FlightGoesOutAgain =
    (s : State) (position : ℕ) → MaySend s → IsInFlight s.sending position
    → KeepsFlight s.sending (after_timer s Retransmit).sending × GoesOut (after_timer s Retransmit) position

-- UNSENT: nothing is in flight, and text or the FIN waits (RFC 9293, 3.10.4). What has to be sent again ends at most at
-- SND.NXT
pub record IsUnsent (s : State) : Type 0 where
  pub idle : s.sending.snd_una ≡ s.sending.snd_nxt
  pub waits : (0 < count_unsent s.sending) ⊎ ((s.closing ≡ true) × (s.sending.snd_nxt ≡ end_of_text s.sending))
  pub range : IfSome s.sending.resend (λ range. range.end ≤ s.sending.snd_nxt)

-- SND.NXT has moved on; SND.UNA and the queued bytes are what they were
pub record MovesOn (before after : Sending) : Type 0 where
  pub snd_una : after.snd_una ≡ before.snd_una
  pub snd_nxt : before.snd_nxt < after.snd_nxt
  pub released : after.released ≡ before.released
  pub queued : after.queue.bytes ≡ before.queue.bytes

-- WHAT IS UNSENT IS SENT after a retransmission timeout, whatever window the peer advertised: what is emitted next covers
-- SND.NXT
abbrev pub UnsentGoesOut : Type 0
UnsentGoesOut =
    (s : State) → MaySend s → IsUnsent s
    → CoversNext (after_timer s Retransmit) s.sending.snd_nxt
    × MovesOn s.sending (after_emission (after_timer s Retransmit)).sending
