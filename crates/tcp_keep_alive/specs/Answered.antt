-- WHAT A KEEP-ALIVE CHANGES at the end that it comes to (RFC 9293, 3.8.4, and 3.10.7.4, first).
use Rattle.std.specs.Prelude.{◌≡◌, ℕ, ◌+◌, ◌<◌, ◌≤◌, ◌^◌, true, false, List, []}
use Rattle.tcp_wire.specs.Flags.{fin, syn, rst, ack, has}
use Rattle.tcp_wire.specs.Position.{number, is_before}
use Rattle.tcp_wire.specs.Wire.{Content}
use Rattle.tcp_reasm.specs.Reassembly.{window}
use Rattle.tcp_conn.specs.Arrival.{after_judgement, after_arrival}
use Rattle.tcp_conn.specs.Calls.{after_acknowledge}
use Rattle.tcp_conn.specs.Endpoint.{FitsFields}
use Rattle.tcp_conn.specs.Judgement.{judgement, is_foreign}
use Rattle.tcp_conn.specs.Phase.{is_closed, is_listening, is_syn_sent, takes_text}
use Rattle.tcp_conn.specs.State.{State, with_ack_pending}
use Rattle.tcp_keep_alive.specs.Asking.{keep_alive_bytes}

-- a segment that acknowledges, and does nothing else: it opens, ends and resets nothing, and brings no text
pub record OnlyAcknowledges (v : Content) : Type 0 where
  pub acks : has ack v.flags ≡ true
  pub no_syn : has syn v.flags ≡ false
  pub no_fin : has fin v.flags ≡ false
  pub no_rst : has rst v.flags ≡ false
  pub no_text : v.text ≡ []

-- SYN-RECEIVED and the states that follow it, in which numbers are compared (RFC 9293, 3.10.7.4)
pub record ComparesNumbers (s : State) : Type 0 where
  pub closed : is_closed s.phase ≡ false
  pub listening : is_listening s.phase ≡ false
  pub syn_sent : is_syn_sent s.phase ≡ false

-- IT COMES OLD: from the peer, and its number lies before RCV.NXT
pub record ComesOld (s : State) (src dst : List ℕ) (v : Content) : Type 0 where
  pub mine : is_foreign s src dst v ≡ false
  pub only : OnlyAcknowledges v
  pub number : v.seq < 2 ^ 32
  pub old : is_before v.seq s.receiving.rcv_nxt ≡ true

-- AS THE CALL `acknowledge`: an acknowledgement is pending, and nothing else is different. That call makes one pending where the
-- peer's text is taken
pub record IsAnswered (s s' : State) : Type 0 where
  pub pending : s' ≡ with_ack_pending s
  pub called : takes_text s.phase ≡ true → s' ≡ after_acknowledge s

-- so it is at every end whose window is open
abbrev pub OldIsAnswered : Type 0
OldIsAnswered =
    (s : State) (src dst : List ℕ) (v : Content) → s.receiving.rcv_nxt < 2 ^ 32 → ComparesNumbers s → ComesOld s src dst v → 0 < window s.receiving.inbox
    → IsAnswered s (after_judgement (judgement s src dst v) s src v)

-- ---- TWO ENDS. This is the state in which a asked, and that in which p is when the keep-alive comes, however late: p has had
-- all in order that a had sent, since it had acknowledged that, and less than 2^31 positions were sent since
pub record ComesTo (a p : State) (next : ℕ) : Type 0 where
  -- each is the other's peer
  pub to_addr : a.peer.addr.0 ≡ p.config.addr.0
  pub to_port : a.peer.port ≡ p.config.port
  pub from_addr : p.peer.addr.0 ≡ a.config.addr.0
  pub from_port : p.peer.port ≡ a.config.port
  -- RCV.NXT is the number of this position of a's direction
  pub next_is : p.receiving.rcv_nxt ≡ number a.config.isn.0 next
  pub sent : 1 ≤ a.sending.snd_nxt
  pub had : a.sending.snd_nxt ≤ next
  pub young : next + 1 < a.sending.snd_nxt + 2 ^ 31

-- THE KEEP-ALIVE IS THE CALL: its arrival changes the end as the user's own call `acknowledge` would have
abbrev pub KeepAliveIsAcknowledge : Type 0
KeepAliveIsAcknowledge =
    (a p : State) (next : ℕ) → FitsFields a → p.receiving.rcv_nxt < 2 ^ 32 → ComparesNumbers p → ComesTo a p next → 0 < window p.receiving.inbox
    → IsAnswered p (after_arrival p a.config.addr.0 p.config.addr.0 (keep_alive_bytes a))
