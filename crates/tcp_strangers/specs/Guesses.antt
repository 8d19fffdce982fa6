-- GUESSED NUMBERS (RFC 5961, 1.1): how many of the 2^32 sequence and acknowledgement numbers let a segment of a blind attacker
-- in, or release text. It knows addresses and ports.
use Rattle.std.specs.Prelude.{◌≡◌, ℕ, ◌+◌, ◌-◌, ◌<◌, ◌≤◌, ◌^◌, max, Bool, true, false, ◌||◌, nat_lt, List, [], ◌∷◌, ◌⊎◌, Option, Some, Result, Ok, Err}
use Rattle.std.specs.List.{AllByRecursion}
use Rattle.tcp_wire.specs.Checksum.{AreBytes}
use Rattle.tcp_wire.specs.Decoded.{decode_answer}
use Rattle.tcp_wire.specs.Flags.{syn, ack, rst, has}
use Rattle.tcp_wire.specs.Wire.{Content}
use Rattle.tcp_wire.specs.declared.fault.DecodeError.{DecodeError}
use Rattle.tcp_reasm.specs.Reassembly.{window}
use Rattle.tcp_conn.specs.Arrival.{after_judgement}
use Rattle.tcp_conn.specs.Guard.{guarded}
use Rattle.tcp_conn.specs.Judgement.{judgement, count_numbers, is_acceptable_segment, is_foreign}
use Rattle.tcp_conn.specs.Phase.{is_closed, is_listening, is_syn_sent, is_syn_received}
use Rattle.tcp_conn.specs.State.{State}
use Rattle.tcp_replay.specs.Among.{Injection, after_injection, is_injection_let_in, is_let_in, lets_in}
use Rattle.tcp_strangers.specs.Counts.{count_where}

-- all numbers of 32 bits
abbrev pub count_guesses : (ℕ → Bool) → ℕ
count_guesses test = count_where (2 ^ 32) test

-- SYN-RECEIVED and the states that follow it, in which sequence numbers are tested (RFC 9293, 3.10.7.4)
pub record TestsNumbers (s : State) : Type 0 where
  pub closed : is_closed s.phase ≡ false
  pub listening : is_listening s.phase ≡ false
  pub syn_sent : is_syn_sent s.phase ≡ false

-- the segment with another sequence number; with another acknowledgement
abbrev pub with_seq : Content → ℕ → Content
with_seq v n = record v { seq = n }

abbrev pub with_ack : Content → ℕ → Content
with_ack v n = record v { ack = n }

-- ---- SEQUENCE NUMBERS (3.10.7.4, first). Any of the numbers that the segment takes has to lie in the window
abbrev pub width : State → Content → ℕ
width s v = window s.receiving.inbox + (max 1 (count_numbers v) - 1)

-- few let a segment in, whatever else it says, where the window is open
abbrev pub FewNumbersLetIn : Type 0
FewNumbersLetIn =
    (s : State) (src dst : List ℕ) (v : Content) → TestsNumbers s → s.receiving.rcv_nxt < 2 ^ 32 → 1 ≤ window s.receiving.inbox
    → window s.receiving.inbox ≤ 2 ^ 20 → count_numbers v ≤ 2 ^ 16 → count_guesses (λ n. is_let_in s src dst (with_seq v n)) ≤ width s v

-- a reset: one, RCV.NXT (3.10.7.4, second), whatever the window
abbrev pub OneNumberResets : Type 0
OneNumberResets =
    (s : State) (src dst : List ℕ) (v : Content) → TestsNumbers s → s.receiving.rcv_nxt < 2 ^ 32 → has rst v.flags ≡ true
    → count_guesses (λ n. is_let_in s src dst (with_seq v n)) ≤ 1

-- ---- ACKNOWLEDGEMENTS of the SYN: one, whatever the sequence number. In SYN-SENT of any segment (3.10.7.3, first), and in
-- SYN-RECEIVED of any but a reset (3.10.7.4, fifth)
abbrev pub WaitsForItsSyn : State → Content → Type 0
WaitsForItsSyn s v = (is_syn_sent s.phase ≡ true) ⊎ ((is_syn_received s.phase ≡ true) × (has rst v.flags ≡ false))

abbrev pub OneNumberAnswers : Type 0
OneNumberAnswers =
    (s : State) (src dst : List ℕ) (v : Content) → WaitsForItsSyn s v → s.config.isn.0 < 2 ^ 32 → s.sending.snd_una ≡ 0 → s.sending.snd_nxt ≡ 1
    → count_guesses (λ n. is_let_in s src dst (with_ack v n)) ≤ 1

-- ---- ACKNOWLEDGEMENTS FROM ESTABLISHED ON (3.10.7.4, fifth). How many numbers are in flight
abbrev pub flight : State → ℕ
flight s = s.sending.snd_nxt - s.sending.snd_una

-- what counts in flight isn't half of all numbers (RFC 9293, 3.4)
pub record IsOpen (s : State) : Type 0 where
  pub tests : TestsNumbers s
  pub opened : is_syn_received s.phase ≡ false
  pub isn : s.config.isn.0 < 2 ^ 32
  pub order : s.sending.snd_una ≤ s.sending.snd_nxt
  pub most : flight s < 2 ^ 31

-- ONLY ITS ACKNOWLEDGEMENT DECIDES: it has ACK and neither RST nor SYN, is from the peer's address, and is acceptable, or comes
-- while the window is shut, where each sequence number will do (3.10.7.4, first)
pub record ComesToItsAck (s : State) (src dst : List ℕ) (v : Content) : Type 0 where
  pub mine : is_foreign s src dst v ≡ false
  pub no_rst : has rst v.flags ≡ false
  pub no_syn : has syn v.flags ≡ false
  pub has_ack : has ack v.flags ≡ true
  pub place : (is_acceptable_segment s v ≡ true) ⊎ (window s.receiving.inbox ≡ 0)

-- SND.UNA moves on, so that text is released
abbrev pub is_released_by : State → List ℕ → List ℕ → Content → Bool
is_released_by s src dst v = nat_lt s.sending.snd_una (after_judgement (judgement s src dst v) s src v).sending.snd_una

-- half of all acknowledgements let it in: the older ones, SND.UNA, and what is in flight
abbrev pub HalfOfAcksLetIn : Type 0
HalfOfAcksLetIn =
    (s : State) (src dst : List ℕ) (v : Content) → IsOpen s → ComesToItsAck s src dst v
    → count_guesses (λ n. is_let_in s src dst (with_ack v n)) ≡ 2 ^ 31 + flight s + 1

-- and as many release text as there are in flight
abbrev pub FlightIsReleased : Type 0
FlightIsReleased =
    (s : State) (src dst : List ℕ) (v : Content) → IsOpen s → ComesToItsAck s src dst v
    → count_guesses (λ n. is_released_by s src dst (with_ack v n)) ≡ flight s

-- ---- AT A SHUT WINDOW each of the 2^32 sequence numbers lets in what comes to its acknowledgement, with one of the numbers above
abbrev pub AnyNumberAtAShutWindow : Type 0
AnyNumberAtAShutWindow =
    (s : State) (src dst : List ℕ) (v : Content) → IsOpen s → ComesToItsAck s src dst v → window s.receiving.inbox ≡ 0 → is_let_in s src dst v ≡ true
    → count_guesses (λ n. is_let_in s src dst (with_seq v n)) ≡ 2 ^ 32

-- ---- WITH A GUARD of this reach (RFC 5961, 5.2): what passes it is let in
abbrev pub passes : ℕ → State → List ℕ → List ℕ → Content → Bool
passes reach s src dst v = lets_in (guarded (Some reach) (judgement s src dst v) s v)

-- few acknowledgements let a segment in that comes to its acknowledgement: the last ones, SND.UNA, and what is in flight
abbrev pub FewAcksPass : Type 0
FewAcksPass =
    (reach : ℕ) (s : State) (src dst : List ℕ) (v : Content) → IsOpen s → ComesToItsAck s src dst v
    → count_guesses (λ n. passes reach s src dst (with_ack v n)) ≤ reach + flight s + 1

-- and at a shut window few sequence numbers do: the last ones before RCV.NXT, and those that the receive buffer may have had a
-- place for, with a FIN behind them
abbrev pub FewNumbersPassAtAShutWindow : Type 0
FewNumbersPassAtAShutWindow =
    (reach : ℕ) (s : State) (src dst : List ℕ) (v : Content) → IsOpen s → ComesToItsAck s src dst v → window s.receiving.inbox ≡ 0
    → s.receiving.rcv_nxt < 2 ^ 32 → count_guesses (λ n. passes reach s src dst (with_seq v n)) ≤ reach + s.config.recv_capacity + 2

-- ---- A BURST of injections, one after another at one end
abbrev pub any_let_in : State → List Injection → Bool
any_let_in s [] = false
any_let_in s (i ∷ rest) = is_injection_let_in s i || any_let_in (after_injection s i) rest

abbrev pub HaveBytes : List Injection → Type 0
HaveBytes = AllByRecursion (λ (i : Injection). AreBytes i.bytes)

-- the end, were RCV.NXT another number: its peer had begun at another initial number
abbrev pub with_rcv_nxt : State → ℕ → State
with_rcv_nxt s n = record s { receiving = record s.receiving { rcv_nxt = n } }

-- the sum of their widths
abbrev pub width_of_reading : State → Result Content DecodeError → ℕ
width_of_reading s (Ok v) = width s v
width_of_reading s (Err fault) = 0

abbrev pub widths : State → List Injection → ℕ
widths s [] = 0
widths s (i ∷ rest) = width_of_reading s (decode_answer i.src i.dst i.bytes) + widths s rest

-- of the 2^32 numbers at which RCV.NXT may stand, as many as all widths together, at most, let any of them in
abbrev pub BurstsRarelyGetIn : Type 0
BurstsRarelyGetIn =
    (s : State) (burst : List Injection) → HaveBytes burst → TestsNumbers s → 1 ≤ window s.receiving.inbox → window s.receiving.inbox ≤ 2 ^ 20
    → count_guesses (λ n. any_let_in (with_rcv_nxt s n) burst) ≤ widths s burst
