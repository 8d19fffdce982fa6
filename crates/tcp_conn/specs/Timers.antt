-- The timers (RFC 9293, 3.10.8): whether a timer's rule applies, and the end after it.
use Rattle.std.specs.Prelude.{ℕ, Bool, ◌||◌, if◌then◌else◌, ◌&&◌, Option, Some, None, is_some, max, min, nat_lt}
use Rattle.tcp_sendq.specs.SendQueue.{last_mark_end}
use Rattle.tcp_conn.specs.declared.phase.Timer.{Timer}
use Rattle.tcp_conn.specs.declared.timers.Timers.{Timers}
use Rattle.tcp_conn.specs.declared.phase.Timer.TheVariants as timers
use Rattle.tcp_conn.specs.Phase.{is_time_wait, is_handshake, sends_text}
use Rattle.tcp_conn.specs.State.{Sending, State}
use Rattle.tcp_conn.specs.Due.{text_limit}
use Rattle.tcp_halves.specs.Sender.{is_probe_needed, with_first_resent, with_gaps_resent, with_all_resent, with_resent, is_in_flight}
use Rattle.tcp_conn.specs.Endings.{after_orderly_end}

-- RETRANSMISSION TIMEOUT (RFC 9293, 3.8.1 and 3.8.6.1): the SYN is pending again; or what is in flight is sent again; or,
-- where nothing is, text is unsent and the peer's window is zero, a probe is granted
abbrev pub sends_again : State → Bool
sends_again s = sends_text s.phase && is_in_flight s.sending

abbrev pub needs_probe : State → Bool
needs_probe s = sends_text s.phase && is_probe_needed s.sending

unfoldable pub after_retransmit : State → State
after_retransmit s = record s {
  sending = if sends_again s then with_all_resent s.sending else s.sending;
  pending = record s.pending { syn = s.pending.syn || is_handshake s.phase; probe = s.pending.probe || needs_probe s };
}

-- FIRST SEGMENT AGAIN (RFC 5681, 3.2; RFC 6582, 3.2): of what is in flight, one segment's part goes out again
unfoldable pub after_resend_first : State → State
after_resend_first s = record s { sending = if sends_again s then with_first_resent s.sending (text_limit s) else s.sending }

-- ONE STRETCH AGAIN (RFC 6675, 5; RFC 8985, 6.2): where some position in flight lies between two positions, all that do are
-- sent again
abbrev pub resends_between : State → ℕ → ℕ → Bool
resends_between s from to = sends_text s.phase && nat_lt (max s.sending.snd_una from) (min s.sending.snd_nxt to)

unfoldable pub after_resend : State → ℕ → ℕ → State
after_resend s from to = record s { sending = if resends_between s from to then with_resent s.sending from to else s.sending }

-- REORDERING TIMEOUT: what lies before the end of the last mark is sent again (RFC 2018, 5)
abbrev pub marks_end : State → Option ℕ
marks_end s = if sends_text s.phase then last_mark_end s.sending.queue else None

abbrev pub after_gaps : Sending → Option ℕ → Sending
after_gaps s None = s
after_gaps s (Some end) = with_gaps_resent s end

unfoldable pub after_reorder : State → State
after_reorder s = record s { sending = after_gaps s.sending (marks_end s) }

-- TIME-WAIT TIMEOUT: the connection ends in order
unfoldable pub after_time_wait : State → State
after_time_wait s = if is_time_wait s.phase then after_orderly_end s else s

abbrev pub timer_answer : State → Timer → Bool
timer_answer s timers.Retransmit = is_handshake s.phase || (sends_again s || needs_probe s)
timer_answer s timers.Reorder = is_some (marks_end s)
timer_answer s timers.TimeWait = is_time_wait s.phase

abbrev pub after_timer : State → Timer → State
after_timer s timers.Retransmit = after_retransmit s
after_timer s timers.Reorder = after_reorder s
after_timer s timers.TimeWait = after_time_wait s

-- WHICH TIMERS HAVE TO RUN: those whose rule would apply
abbrev pub timers_wanted : State → Timers
timers_wanted s = record {
  retransmit = timer_answer s timers.Retransmit;
  reorder = timer_answer s timers.Reorder;
  time_wait = timer_answer s timers.TimeWait;
}
