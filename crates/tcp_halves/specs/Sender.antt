-- The half that sends (RFC 9293, 3.3.1, 3.8 and 3.10.7.4): what acknowledgements, windows, blocks and timers change in it.
-- Acknowledgements and edges of blocks are positions here.
use Rattle.std.specs.Prelude.{ℕ, ◌-◌, Bool, ◌||◌, ◌==◌, if◌then◌else◌, ◌&&◌, List, length, ◌≡◌, Option, Some, None, max, min, nat_lt, take, ◌<◌, ◌≤◌, ◌^◌, ◌+◌, nat_le}
use Rattle.std.specs.declared.ops.Range.{Range}
use Rattle.tcp_wire.specs.Flags.{ack}
use Rattle.tcp_wire.specs.Position.{is_before}
use Rattle.tcp_sendq.specs.SendQueue as queues
use Rattle.tcp_sendq.specs.SendQueue.{Queue}
use Rattle.tcp_reasm.specs.Reassembly.{window}
use Rattle.tcp_halves.specs.Config.{stream_limit}

-- the half that sends
pub record Sending : Type 0 where
  -- SND.UNA and SND.NXT, as positions: the oldest that isn't acknowledged, and the next to be sent
  pub snd_una : ℕ
  pub snd_nxt : ℕ
  -- the text bytes that acknowledgements have released
  pub released : ℕ
  -- the bytes that were accepted and aren't released, with the peer's marks
  pub queue : Queue
  -- what a retransmission still has to send again
  pub resend : Option (Range ℕ)
  -- SND.WND, and the two numbers of the segment that it was taken from, SND.WL1 and SND.WL2
  pub snd_wnd : ℕ
  pub snd_wl1 : ℕ
  pub snd_wl2 : ℕ

-- how many bytes the direction has accepted from its user
abbrev pub accepted_count : Sending → ℕ
accepted_count s = s.released + length s.queue.bytes

-- the offset in the queue of the byte at a position
abbrev pub place_of : Sending → ℕ → ℕ
place_of s position = position - (1 + s.released)

-- the position of the byte at an offset in the queue
abbrev pub position_at : Sending → ℕ → ℕ
position_at s place = 1 + s.released + place

-- the position after the last byte that was accepted: the FIN's
abbrev pub end_of_text : Sending → ℕ
end_of_text s = 1 + accepted_count s

-- the half that sends before any call
abbrev pub sending_with_runs : ℕ → ℕ → Sending
sending_with_runs capacity most = record {
  snd_una = 0;
  snd_nxt = 0;
  released = 0;
  queue = queues.empty_with_runs capacity most;
  resend = None;
  snd_wnd = 0;
  snd_wl1 = 0;
  snd_wl2 = 0;
}

abbrev pub new_sending : ℕ → Sending
new_sending capacity = sending_with_runs capacity queues.default_runs

-- the SYN is sent: SND.UNA = ISS, SND.NXT = ISS + 1 (RFC 9293, 3.10.1)
abbrev pub with_syn_sent : Sending → Sending
with_syn_sent s = record s { snd_una = 0; snd_nxt = 1 }

-- the SYN is emitted, for the first time or again: SND.NXT is at least the position after it (RFC 9293, 3.4)
abbrev pub with_syn_counted : Sending → Sending
with_syn_counted s = record s { snd_nxt = max s.snd_nxt 1 }

-- the SYN is acknowledged
abbrev pub with_syn_acked : Sending → Sending
with_syn_acked s = record s { snd_una = s.snd_nxt }

-- the acknowledgement is of what wasn't sent: SEG.ACK > SND.NXT
abbrev pub acks_unsent : Sending → ℕ → Bool
acks_unsent s ack = nat_lt s.snd_nxt ack

-- the acknowledgement is of something new: SND.UNA < SEG.ACK =< SND.NXT
abbrev pub acks_more : Sending → ℕ → Bool
acks_more s ack = nat_lt s.snd_una ack && nat_le ack s.snd_nxt

-- how many queued bytes lie before a position
abbrev pub count_below : Sending → ℕ → ℕ
count_below s position = min (place_of s position) (length s.queue.bytes)

-- ACKNOWLEDGEMENT: the text below it is released (RFC 9293, 3.10.7.4, fifth, ESTABLISHED)
abbrev pub with_acked : Sending → ℕ → Sending
with_acked s ack = record s {
  snd_una = ack;
  released = s.released + count_below s ack;
  queue = queues.after_release s.queue (count_below s ack);
}

unfoldable pub after_ack : Sending → ℕ → Sending
after_ack s ack = if acks_more s ack then with_acked s ack else s

-- WINDOW UPDATE (RFC 9293, 3.10.7.4, fifth): not from a segment older than the one that the window was taken from
abbrev pub is_newer : Sending → ℕ → ℕ → Bool
is_newer s seq ack = is_before s.snd_wl1 seq || ((s.snd_wl1 == seq) && (is_before s.snd_wl2 ack || (s.snd_wl2 == ack)))

abbrev pub with_window : Sending → ℕ → ℕ → ℕ → Sending
with_window s seq ack window = record s { snd_wnd = window; snd_wl1 = seq; snd_wl2 = ack }

unfoldable pub after_window_update : Sending → ℕ → ℕ → ℕ → Sending
after_window_update s seq ack window = if is_newer s seq ack then with_window s seq ack window else s

-- RETRANSMISSION TIMEOUT (RFC 9293, 3.8.1; RFC 2018, 5): all that is in flight is sent again, and every mark is forgotten
abbrev pub is_in_flight : Sending → Bool
is_in_flight s = nat_lt s.snd_una s.snd_nxt

abbrev pub with_all_resent : Sending → Sending
with_all_resent s = record s { resend = Some (record { start = s.snd_una; end = s.snd_nxt }); queue = queues.without_marks s.queue }

-- ONE STRETCH AGAIN (RFC 6675, 5; RFC 8985, 6.2): of what is in flight, what lies between two positions is sent again
abbrev pub with_resent : Sending → ℕ → ℕ → Sending
with_resent s from to = record s { resend = Some (record { start = max s.snd_una from; end = min s.snd_nxt to }) }

-- FIRST SEGMENT AGAIN (RFC 5681, 3.2; RFC 6582, 3.2): of what is in flight, as much as one segment carries goes out again
abbrev pub with_first_resent : Sending → ℕ → Sending
with_first_resent s limit = with_resent s s.snd_una (s.snd_una + limit)

-- REORDERING TIMEOUT (RFC 2018, 5): what lies before the end of the last mark is sent again
abbrev pub with_gaps_resent : Sending → ℕ → Sending
with_gaps_resent s end = record s { resend = Some (record { start = s.snd_una; end = position_at s end }) }

-- how many bytes of a text the direction accepts: the longest prefix that fits the queue and the limit
abbrev pub count_sendable : Sending → ℕ → List ℕ → ℕ
count_sendable s limit text = min (queues.count_taken s.queue text) (limit - accepted_count s)

abbrev pub with_text : Sending → ℕ → List ℕ → Sending
with_text s limit text = record s { queue = queues.after_offer s.queue (take (count_sendable s limit text) text) }

-- how many queued bytes weren't sent yet
abbrev pub count_unsent : Sending → ℕ
count_unsent s = length s.queue.bytes - place_of s s.snd_nxt

-- a probe is needed: nothing is in flight, text is unsent, and the peer's window is zero (RFC 9293, 3.8.6.1)
abbrev pub is_probe_needed : Sending → Bool
is_probe_needed s = (s.snd_una == s.snd_nxt) && (nat_lt 0 (count_unsent s) && (s.snd_wnd == 0))

-- this end's FIN was sent: SND.NXT is after the end of text
abbrev pub is_fin_sent : Sending → Bool
is_fin_sent s = nat_lt (end_of_text s) s.snd_nxt

-- this end's FIN was sent, and all that was sent is acknowledged
abbrev pub is_fin_acked : Sending → Bool
is_fin_acked s = is_fin_sent s && (s.snd_una == s.snd_nxt)

-- after the end of the connection nothing is sent again
abbrev pub without_resend : Sending → Sending
without_resend s = record s { resend = None }

-- nor is anything left in the queue
abbrev pub without_text : Sending → Sending
without_text s = record s { resend = None; queue = queues.after_release s.queue (length s.queue.bytes) }

-- what always holds of the half that sends
pub record IsSender (s : Sending) : Type 0 where
  pub order : s.snd_una ≤ s.snd_nxt
  pub most : s.snd_nxt ≤ 2 + stream_limit
  pub limit : accepted_count s ≤ stream_limit
  pub snd_wnd : s.snd_wnd < 2 ^ 32
  pub queued : length s.queue.bytes ≤ s.queue.capacity

-- what is queued stays within the capacity that the Config sets
pub record KeepsWithin (capacity : ℕ) (queue : Queue) : Type 0 where
  pub size : queue.capacity ≡ capacity
  pub queued : length queue.bytes ≤ capacity
