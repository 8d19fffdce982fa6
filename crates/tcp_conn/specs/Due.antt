-- What an end emits next, as a function of its state (RFC 9293, 3.7, 3.8 and 3.10): a waiting reset, this end's SYN, text or
-- FIN again, new text, this end's FIN, an acknowledgement; the first of these that is due. And what a segment carries of it.
use Rattle.std.specs.Prelude.{ℕ, ◌-◌, Bool, false, ◌||◌, if◌then◌else◌, List, [], Option, Some, None, is_some, option_map, min}
use Rattle.std.specs.Option.{option_or}
use Rattle.tcp_wire.specs.Flags.{ack}
use Rattle.tcp_halves.specs.declared.link.WaitingReset.{WaitingReset}
use Rattle.tcp_halves.specs.declared.sent.Sent.{Sent}
use Rattle.tcp_halves.specs.Sent as half
use Rattle.tcp_conn.specs.declared.emit.due.Due.{Due}
use Rattle.tcp_conn.specs.declared.emit.due.Due.TheVariants.{Reset, Syn, Text, Acknowledgement}
use Rattle.tcp_conn.specs.declared.pending.Pending.{Pending}
use Rattle.tcp_conn.specs.Phase.{sends_text}
use Rattle.tcp_conn.specs.State.{State, Sending}
use Rattle.tcp_conn.specs.Blocks.{sack_length, blocks_to_report}
pub use Rattle.tcp_halves.specs.Sent.{resend_start, resent_text, resent_fin, resent_run, usable_window, count_allowed, new_count, fin_of, sending_due}
unfoldable pub use Rattle.tcp_halves.specs.Sent.{resend_of, new_text_of}

abbrev pub is_fin : Due → Bool
is_fin (Text sent) = half.is_fin sent
is_fin other = false

-- the position where it begins: SND.NXT for an acknowledgement without text. A SYN is at 0, and a reset is counted there
abbrev pub start_of : Sending → Due → ℕ
start_of s Reset = 0
start_of s Syn = 0
start_of s (Text sent) = half.start_of sent
start_of s Acknowledgement = s.snd_nxt

-- the length of its text
abbrev pub count_of : Due → ℕ
count_of (Text sent) = half.count_of sent
count_of other = 0

-- the position after it: text, SYN and FIN take sequence numbers (RFC 9293, 3.4)
abbrev pub end_of : Sending → Due → ℕ
end_of s Reset = 0
end_of s Syn = 1
end_of s (Text sent) = half.end_of sent
end_of s Acknowledgement = s.snd_nxt

-- the text that it carries
abbrev pub text_of : Sending → Due → List ℕ
text_of s (Text sent) = half.text_of s sent
text_of s other = []

-- its control bits, where it is no reset and no SYN
abbrev pub flags_of : Sending → Due → ℕ
flags_of s (Text sent) = half.flags_of s sent
flags_of s other = ack

-- what is due of the half that sends lies within its queue, and is no longer than this
abbrev pub IsSendable : Sending → ℕ → Due → Type 0
IsSendable s limit (Text sent) = half.IsSendable s limit sent
IsSendable s limit other = Unit {0}

-- the MSS in use: the smaller of the peer's and this end's maximum segment size
abbrev pub mss_in_use : State → ℕ
mss_in_use s = min s.config.mss s.link.peer_mss

-- TEXT LIMIT: the MSS in use, less the options (RFC 9293, 3.7.1)
abbrev pub text_limit : State → ℕ
text_limit s = mss_in_use s - sack_length (blocks_to_report s)

-- what is due of the half that sends, in the phases that send text
abbrev pub sent_due : State → Option Sent
sent_due s = if sends_text s.phase then sending_due s.sending (text_limit s) s.pending.probe s.closing else None

abbrev pub text_due : State → Option Due
text_due s = option_map Text (sent_due s)

abbrev pub reset_due : Option WaitingReset → Option Due
reset_due None = None
reset_due (Some reset) = Some Reset

abbrev pub syn_due : Pending → Option Due
syn_due o = if o.syn then Some Syn else None

abbrev pub ack_due : Pending → Option Due
ack_due o = if o.ack then Some Acknowledgement else None

-- AN ACKNOWLEDGEMENT ALONE, where one is pending and no reset or SYN comes before it, whatever text or FIN is due
-- (RFC 9293, 3.8.6.3)
unfoldable pub ack_alone : State → Option Due
ack_alone s = if is_some s.pending.reset || s.pending.syn then None else ack_due s.pending

-- THE ORDER
unfoldable pub due_of : State → Option Due
due_of s = option_or (reset_due s.pending.reset) (option_or (syn_due s.pending) (option_or (text_due s) (ack_due s.pending)))
