-- Which rule applies to a segment that arrives (RFC 9293, 3.10.7), each test once, and the answer. The effect of a rule is in
-- Arrival.
use Rattle.std.specs.Prelude.{◌≡◌, ℕ, Bool, ◌||◌, ◌==◌, if◌then◌else◌, not, ◌&&◌, List, length, ◌+◌, bytes_eq}
use Rattle.tcp_wire.specs.Flags.{fin, ack, has, syn, rst}
use Rattle.tcp_wire.specs.Position.{position_of}
use Rattle.tcp_wire.specs.Wire.{Content}
use Rattle.tcp_reasm.specs.Reassembly.{window}
use Rattle.tcp_conn.specs.declared.arrive.judgement.Judgement.{Judgement}
use Rattle.tcp_conn.specs.declared.arrive.judgement.Judgement.TheVariants.{Foreign, ResetIgnored, Stray, AckOfListen, OpensNothing, PeerOpens, AckOfNoSyn, PeerRefuses, PeerAccepts, Unacceptable, PeerResets, ResetElsewhere, SynInWindow, NoAck, AcksUnsent, HandshakeRefused, HandshakeRefusedShut, Taken, TakenShut}
use Rattle.tcp_conn.specs.declared.outcome.Arrival.{Arrival}
use Rattle.tcp_conn.specs.declared.arrive.judged_fields.JudgedFields.{JudgedFields}
use Rattle.tcp_conn.specs.declared.outcome.Arrival.TheVariants.{NotMine, Dropped, Processed}
use Rattle.tcp_halves.specs.Acceptable.{is_acceptable}
use Rattle.tcp_conn.specs.Phase.{is_listening, is_syn_received, is_closed, is_syn_sent, has_peer}
use Rattle.tcp_conn.specs.State.{State}
use Rattle.tcp_halves.specs.Sender.{acks_unsent}

-- the position that an acknowledgement number is read as: the nearest to SND.UNA
abbrev pub position_near : State → ℕ → ℕ
position_near s w = position_of s.config.isn.0 s.sending.snd_una w

-- SEG.LEN: SYN and FIN take a number each (RFC 9293, 3.4)
abbrev pub count_numbers : Content → ℕ
count_numbers v = length v.text + (if has syn v.flags then 1 else 0) + (if has fin v.flags then 1 else 0)

-- FOREIGN (RFC 9293, 3.10.7): for another end, or, where the peer is known, from another source
abbrev pub is_for_other : State → List ℕ → Content → Bool
is_for_other s dst v = not (bytes_eq dst s.config.addr.0) || not (v.dst_port == s.config.port)

abbrev pub is_from_other : State → List ℕ → Content → Bool
is_from_other s src v = not (bytes_eq src s.peer.addr.0) || not (v.src_port == s.peer.port)

unfoldable pub is_foreign : State → List ℕ → List ℕ → Content → Bool
is_foreign s src dst v = is_for_other s dst v || (has_peer s.phase && is_from_other s src v)

-- ARRIVAL IN CLOSED (3.10.7.1): a reset answers all but a reset
unfoldable pub closed_judgement : Content → Judgement
closed_judgement v = if has rst v.flags then ResetIgnored else Stray

-- ARRIVAL IN LISTEN (3.10.7.2)
unfoldable pub listen_judgement : Content → Judgement
listen_judgement v =
    if has rst v.flags then ResetIgnored
    else (if has ack v.flags then AckOfListen
    else (if has syn v.flags then PeerOpens
    else OpensNothing))

-- it acknowledges this end's SYN, and nothing else was sent
abbrev pub acks_syn : State → Content → Bool
acks_syn s v = position_near s v.ack == s.sending.snd_nxt

-- ARRIVAL IN SYN-SENT (3.10.7.3)
unfoldable pub syn_sent_judgement : State → Content → Judgement
syn_sent_judgement s v =
    if has ack v.flags && not (acks_syn s v) then (if has rst v.flags then ResetIgnored else AckOfNoSyn)
    else (if has rst v.flags then (if has ack v.flags then PeerRefuses else ResetIgnored)
    else (if has syn v.flags && has ack v.flags then PeerAccepts
    else OpensNothing))

-- ACCEPTABILITY in the other states (3.10.7.4, first)
abbrev pub is_acceptable_segment : State → Content → Bool
is_acceptable_segment s v = is_acceptable s.receiving.rcv_nxt (window s.receiving.inbox) v.seq (count_numbers v)

-- ACKNOWLEDGEMENT (3.10.7.4, fifth): of this end's SYN in SYN-RECEIVED, else of nothing that wasn't sent
unfoldable pub ack_judgement : State → Content → Judgement → Judgement → Judgement
ack_judgement s v good refused =
    if is_syn_received s.phase then (if acks_syn s v then good else refused)
    else (if acks_unsent s.sending (position_near s v.ack) then AcksUnsent else good)

-- THE ALLOWANCE AT WINDOW 0 (3.10.7.4, first): acknowledgement, window and blocks are taken from a segment whose text and
-- FIN are not
abbrev pub is_allowed_shut : State → Content → Bool
is_allowed_shut s v = (window s.receiving.inbox == 0) && (has ack v.flags && not (has syn v.flags))

unfoldable pub unacceptable_judgement : State → Content → Judgement
unacceptable_judgement s v =
    if has rst v.flags then ResetIgnored
    else (if is_allowed_shut s v then ack_judgement s v TakenShut HandshakeRefusedShut
    else Unacceptable)

-- RESET CHECK, SYN CHECK (3.10.7.4, second and fourth), then the acknowledgement
unfoldable pub acceptable_judgement : State → Content → Judgement
acceptable_judgement s v =
    if has rst v.flags then (if v.seq == s.receiving.rcv_nxt then PeerResets else ResetElsewhere)
    else (if has syn v.flags then SynInWindow
    else (if not (has ack v.flags) then NoAck
    else ack_judgement s v Taken HandshakeRefused))

unfoldable pub judgement_after_syn : State → Content → Judgement
judgement_after_syn s v = if is_acceptable_segment s v then acceptable_judgement s v else unacceptable_judgement s v

-- WHAT IS READ of an end for it
pub record IsReadOf (read : JudgedFields) (s : State) : Type 0 where
  pub rcv_nxt : s.receiving.rcv_nxt ≡ read.rcv_nxt.0
  pub rcv_wnd : window s.receiving.inbox ≡ read.rcv_wnd
  pub syn_received : is_syn_received s.phase ≡ read.is_syn_received
  pub isn : s.config.isn.0 ≡ read.isn.0
  pub snd_una : s.sending.snd_una ≡ read.snd_una
  pub snd_nxt : s.sending.snd_nxt ≡ read.snd_nxt

-- THE ORDER
unfoldable pub phase_judgement : State → Content → Judgement
phase_judgement s v =
    if is_closed s.phase then closed_judgement v
    else (if is_listening s.phase then listen_judgement v
    else (if is_syn_sent s.phase then syn_sent_judgement s v
    else judgement_after_syn s v))

unfoldable pub judgement : State → List ℕ → List ℕ → Content → Judgement
judgement s src dst v = if is_foreign s src dst v then Foreign else phase_judgement s v

-- THE ANSWER OF EACH JUDGEMENT
abbrev pub answer_of : Judgement → Arrival
answer_of Foreign = NotMine
answer_of ResetIgnored = Dropped
answer_of Stray = Dropped
answer_of AckOfListen = Dropped
answer_of OpensNothing = Dropped
answer_of PeerOpens = Processed
answer_of AckOfNoSyn = Dropped
answer_of PeerRefuses = Processed
answer_of PeerAccepts = Processed
answer_of Unacceptable = Dropped
answer_of PeerResets = Processed
answer_of ResetElsewhere = Dropped
answer_of SynInWindow = Dropped
answer_of NoAck = Dropped
answer_of AcksUnsent = Dropped
answer_of HandshakeRefused = Dropped
answer_of HandshakeRefusedShut = Dropped
answer_of Taken = Processed
answer_of TakenShut = Processed
