-- A segment arrives (RFC 9293, 3.10.7): the effect of each judgement.
use Rattle.std.specs.Prelude.{ℕ, Bool, false, ◌||◌, ◌==◌, if◌then◌else◌, true, not, ◌&&◌, List, [], length, Option, Some, None, Result, Ok, Err, nat_le}
use Rattle.tcp_wire.specs.Decoded.{decode_answer}
use Rattle.tcp_wire.specs.Flags.{fin, ack, has}
use Rattle.tcp_wire.specs.Position.{number}
use Rattle.tcp_wire.specs.Wire.{Content}
use Rattle.tcp_wire.specs.declared.fault.DecodeError.{DecodeError}
use Rattle.tcp_conn.specs.declared.arrive.judgement.Judgement.{Judgement}
use Rattle.tcp_conn.specs.declared.arrive.judgement.Judgement.TheVariants.{Foreign, ResetIgnored, Stray, AckOfListen, OpensNothing, PeerOpens, AckOfNoSyn, PeerRefuses, PeerAccepts, Unacceptable, PeerResets, ResetElsewhere, SynInWindow, NoAck, AcksUnsent, HandshakeRefused, HandshakeRefusedShut, Taken, TakenShut}
use Rattle.tcp_halves.specs.declared.link.Peer.{Peer}
use Rattle.tcp_halves.specs.declared.link.WaitingReset.{WaitingReset}
use Rattle.tcp_conn.specs.declared.outcome.Arrival.{Arrival}
use Rattle.tcp_conn.specs.declared.outcome.Arrival.TheVariants.{Malformed}
use Rattle.tcp_conn.specs.declared.phase.Ending.TheVariants as endings
use Rattle.tcp_conn.specs.declared.phase.Phase.{Phase}
use Rattle.tcp_conn.specs.declared.phase.Phase.TheVariants as phases
use Rattle.tcp_conn.specs.declared.phase.Phase.TheVariants.{SynReceived, Established, FinWait1}
use Rattle.tcp_conn.specs.Phase.{is_closed, phase_after_fin, is_syn_received, is_last_ack, takes_text, phase_after_own_fin}
use Rattle.tcp_halves.specs.Options.{link_of}
use Rattle.tcp_conn.specs.State.{with_ack_pending, State, Sending}
use Rattle.tcp_conn.specs.Windows.{window_from}
use Rattle.tcp_halves.specs.Sender.{with_window, after_ack, is_fin_acked, after_window_update, with_syn_sent, with_syn_acked}
use Rattle.tcp_halves.specs.Receiver.{after_text, is_fin_due, with_fin, with_syn}
use Rattle.tcp_conn.specs.Blocks.{after_blocks, reported_blocks}
use Rattle.tcp_conn.specs.Endings.{after_discarding, after_orderly_end}
use Rattle.tcp_conn.specs.Judgement.{count_numbers, answer_of, judgement, position_near}

-- RESETS (RFC 9293, 3.10.7.1): at most one waits, the first that was recorded
abbrev pub first_reset : Option WaitingReset → WaitingReset → Option WaitingReset
first_reset None reset = Some reset
first_reset (Some waiting) reset = Some waiting

abbrev pub with_reset : State → WaitingReset → State
with_reset s reset = record s { pending = record s.pending { reset = first_reset s.pending.reset reset } }

abbrev pub source_of : List ℕ → Content → Peer
source_of src v = record { addr = record { 0 = src }; port = v.src_port }

-- a reset at SEG.ACK
abbrev pub reset_at_ack : List ℕ → Content → WaitingReset
reset_at_ack src v = record { to = source_of src v; seq = record { 0 = v.ack }; ack = None }

-- of a segment without ACK all is acknowledged
abbrev pub reset_of_stray : List ℕ → Content → WaitingReset
reset_of_stray src v = record {
  to = source_of src v;
  seq = record { 0 = if has ack v.flags then v.ack else 0 };
  ack = if has ack v.flags then None else Some (record { 0 = number v.seq (count_numbers v) });
}

-- PEER OPENS: a SYN in LISTEN (3.10.7.2, third). Text and FIN that come with it are dropped.
unfoldable pub after_peer_opens : State → List ℕ → Content → State
after_peer_opens s src v = record s {
  phase = phases.SynReceived;
  peer = source_of src v;
  link = link_of s.config v.options;
  sending = with_syn_sent s.sending;
  receiving = with_syn s.receiving v.seq;
  pending = record s.pending { syn = true };
}

-- PEER ACCEPTS: a SYN with ACK in SYN-SENT (3.10.7.3, fourth). The window of a SYN is never scaled.
unfoldable pub after_peer_accepts : State → Content → State
after_peer_accepts s v = record s {
  phase = phases.Established;
  link = link_of s.config v.options;
  sending = with_window (with_syn_acked s.sending) v.seq v.ack v.window;
  receiving = with_syn s.receiving v.seq;
  pending = record s.pending { syn = false; ack = true };
}

-- THIS END'S SYN ACKNOWLEDGED in SYN-RECEIVED (3.10.7.4, fifth): the window is taken, and a waiting close takes effect
abbrev pub phase_after_own_syn : Phase → Bool → Phase
phase_after_own_syn phase closing =
    if is_syn_received phase then (if closing then phases.FinWait1 else phases.Established) else phase

unfoldable pub after_own_syn : State → Content → State
after_own_syn s v = record s {
  phase = phase_after_own_syn s.phase s.closing;
  sending = if is_syn_received s.phase then with_window (with_syn_acked s.sending) v.seq v.ack (window_from s.link v.window) else s.sending;
  pending = record s.pending { syn = s.pending.syn && not (is_syn_received s.phase) };
}

-- ACKNOWLEDGEMENT of text (3.10.7.4, fifth)
unfoldable pub after_acked_text : State → Content → State
after_acked_text s v = record s { sending = after_ack s.sending (position_near s v.ack) }

-- the blocks of all options mark text (RFC 2018, 3 and 5)
abbrev pub after_reported_blocks : State → Content → State
after_reported_blocks s v = record s { sending = after_blocks s.config.isn.0 s.sending (reported_blocks v.options) }

-- the blocks that are read: those of all options, where selective acknowledgement is in use (RFC 2018, 2)
abbrev pub blocks_used : State → Content → List (ℕ × ℕ)
blocks_used s v = if s.link.sack then reported_blocks v.options else []

-- WINDOW UPDATE (3.10.7.4, fifth), then the blocks
abbrev pub with_window_and_blocks : State → Content → Sending
with_window_and_blocks s v =
    after_blocks s.config.isn.0 (after_window_update s.sending v.seq v.ack (window_from s.link v.window)) (blocks_used s v)

-- the acknowledgement isn't older than SND.UNA: SND.UNA =< SEG.ACK
abbrev pub is_current : State → Content → Bool
is_current s v = nat_le s.sending.snd_una (position_near s v.ack)

-- from an older acknowledgement neither window nor blocks are taken
unfoldable pub after_window_and_blocks : State → Content → State
after_window_and_blocks s v = record s { sending = if is_current s v then with_window_and_blocks s v else s.sending }

-- THIS END'S FIN ACKNOWLEDGED (3.10.7.4, fifth)
unfoldable pub after_own_fin : State → State
after_own_fin s =
    if is_fin_acked s.sending
    then (if is_last_ack s.phase then after_orderly_end s else record s { phase = phase_after_own_fin s.phase })
    else s

unfoldable pub after_its_ack : State → Content → State
after_its_ack s v = after_own_fin (after_window_and_blocks (after_acked_text (after_own_syn s v) v) v)

-- TEXT (3.10.7.4, seventh) is placed, and an acknowledgement is pending for it
abbrev pub takes_text_of : State → Content → Bool
takes_text_of s v = takes_text s.phase && not (length v.text == 0)

unfoldable pub after_its_text : State → Content → State
after_its_text s v = record s {
  receiving = if takes_text_of s v then after_text s.receiving v.seq v.text else s.receiving;
  pending = record s.pending { ack = s.pending.ack || takes_text_of s v };
}

-- THE PEER'S FIN (3.10.7.4, eighth) is acknowledged, and taken where its number is RCV.NXT
abbrev pub has_fin : State → Content → Bool
has_fin s v = takes_text s.phase && has fin v.flags

abbrev pub takes_fin : State → Content → Bool
takes_fin s v = has_fin s v && is_fin_due s.receiving (number v.seq (length v.text))

unfoldable pub after_fin : State → Content → State
after_fin s v = record s {
  phase = if takes_fin s v then phase_after_fin s.phase else s.phase;
  receiving = if takes_fin s v then with_fin s.receiving else s.receiving;
  pending = record s.pending { ack = s.pending.ack || has_fin s v };
}

-- TAKEN (3.10.7.4, fifth to eighth)
unfoldable pub after_taking : State → Content → State
after_taking s v = after_fin (after_its_text (after_its_ack s v) v) v

-- TAKEN AT A ZERO WINDOW: an acknowledgement shows where the window lies
abbrev pub with_ack_pending_unless_closed : State → State
with_ack_pending_unless_closed s = record s { pending = record s.pending { ack = s.pending.ack || not (is_closed s.phase) } }

unfoldable pub after_taking_shut : State → Content → State
after_taking_shut s v = with_ack_pending_unless_closed (after_its_ack s v)

-- THE EFFECT OF EACH JUDGEMENT
abbrev pub after_judgement : Judgement → State → List ℕ → Content → State
after_judgement Foreign s src v = s
after_judgement ResetIgnored s src v = s
after_judgement Stray s src v = with_reset s (reset_of_stray src v)
after_judgement AckOfListen s src v = with_reset s (reset_at_ack src v)
after_judgement OpensNothing s src v = s
after_judgement PeerOpens s src v = after_peer_opens s src v
after_judgement AckOfNoSyn s src v = with_reset s (reset_at_ack src v)
after_judgement PeerRefuses s src v = after_discarding s endings.Reset
after_judgement PeerAccepts s src v = after_peer_accepts s v
after_judgement Unacceptable s src v = with_ack_pending s
after_judgement PeerResets s src v = after_discarding s endings.Reset
after_judgement ResetElsewhere s src v = with_ack_pending s
after_judgement SynInWindow s src v = with_ack_pending s
after_judgement NoAck s src v = s
after_judgement AcksUnsent s src v = with_ack_pending s
after_judgement HandshakeRefused s src v = with_reset s (reset_at_ack src v)
after_judgement HandshakeRefusedShut s src v = with_ack_pending (with_reset s (reset_at_ack src v))
after_judgement Taken s src v = after_taking s v
after_judgement TakenShut s src v = after_taking_shut s v

-- ARRIVAL of any bytes
abbrev pub answer_to_reading : State → List ℕ → List ℕ → Result Content DecodeError → Arrival
answer_to_reading s src dst (Ok v) = answer_of (judgement s src dst v)
answer_to_reading s src dst (Err fault) = Malformed fault

abbrev pub after_reading : State → List ℕ → List ℕ → Result Content DecodeError → State
after_reading s src dst (Ok v) = after_judgement (judgement s src dst v) s src v
after_reading s src dst (Err fault) = s

unfoldable pub arrival_answer : State → List ℕ → List ℕ → List ℕ → Arrival
arrival_answer s src dst bytes = answer_to_reading s src dst (decode_answer src dst bytes)

unfoldable pub after_arrival : State → List ℕ → List ℕ → List ℕ → State
after_arrival s src dst bytes = after_reading s src dst (decode_answer src dst bytes)
