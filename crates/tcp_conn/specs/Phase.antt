-- What the states of a connection have in common (RFC 9293, 3.3.2).
use Rattle.std.specs.Prelude.{Bool, false, true, not, ◌&&◌}
use Rattle.tcp_conn.specs.declared.phase.Ending.{Ending}
use Rattle.tcp_conn.specs.declared.phase.Ending.TheVariants.{NotEnded, Aborted, Reset}
use Rattle.tcp_conn.specs.declared.phase.Phase.{Phase}
use Rattle.tcp_conn.specs.declared.phase.Phase.TheVariants.{Closing, Closed, Listen, SynSent, SynReceived, Established, FinWait1, FinWait2, CloseWait, LastAck, TimeWait}

abbrev pub is_closed : Phase → Bool
is_closed Closed = true
is_closed other = false

abbrev pub is_listening : Phase → Bool
is_listening Listen = true
is_listening other = false

-- the peer is known
abbrev pub has_peer : Phase → Bool
has_peer phase = not (is_closed phase) && not (is_listening phase)

abbrev pub is_syn_sent : Phase → Bool
is_syn_sent SynSent = true
is_syn_sent other = false

abbrev pub is_syn_received : Phase → Bool
is_syn_received SynReceived = true
is_syn_received other = false

abbrev pub is_last_ack : Phase → Bool
is_last_ack LastAck = true
is_last_ack other = false

abbrev pub is_time_wait : Phase → Bool
is_time_wait TimeWait = true
is_time_wait other = false

-- this end's SYN waits for its acknowledgement
abbrev pub is_handshake : Phase → Bool
is_handshake SynSent = true
is_handshake SynReceived = true
is_handshake other = false

-- the peer's text and FIN are taken
abbrev pub takes_text : Phase → Bool
takes_text Established = true
takes_text FinWait1 = true
takes_text FinWait2 = true
takes_text other = false

-- text and FIN can be sent
abbrev pub sends_text : Phase → Bool
sends_text Established = true
sends_text FinWait1 = true
sends_text CloseWait = true
sends_text Closing = true
sends_text LastAck = true
sends_text other = false

-- an abort sends the peer a reset (RFC 9293, 3.10.5)
abbrev pub resets_on_abort : Phase → Bool
resets_on_abort SynReceived = true
resets_on_abort Established = true
resets_on_abort FinWait1 = true
resets_on_abort FinWait2 = true
resets_on_abort CloseWait = true
resets_on_abort other = false

-- the connection has ended, in any way
abbrev pub is_ended : Ending → Bool
is_ended NotEnded = false
is_ended other = true

-- a reset or an abort discards what is queued, unread or kept out of order
abbrev pub discards : Ending → Bool
discards Reset = true
discards Aborted = true
discards other = false

-- the phase after the acknowledgement of this end's FIN (RFC 9293, 3.10.7.4, fifth)
abbrev pub phase_after_own_fin : Phase → Phase
phase_after_own_fin FinWait1 = FinWait2
phase_after_own_fin Closing = TimeWait
phase_after_own_fin other = other

-- the phase after the peer's FIN (RFC 9293, 3.10.7.4, eighth)
abbrev pub phase_after_fin : Phase → Phase
phase_after_fin Established = CloseWait
phase_after_fin FinWait1 = Closing
phase_after_fin FinWait2 = TimeWait
phase_after_fin other = other
