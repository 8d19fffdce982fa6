-- WHAT IS KNOWN of an end by the segments that it sent and that came to it: its initial number, its stream, the position of
-- its FIN (RFC 9293, 3.4), and what came to it.
use Rattle.std.specs.Prelude.{ℕ, ◌+◌, ◌==◌, Bool, false, ◌&&◌, ◌||◌, not, nat_lt, nat_le, if◌then◌else◌, List, [], ◌∷◌, length, Option, Some, None, is_some}
use Rattle.tcp_numbers.specs.declared.seq.Seq.{Seq}
use Rattle.tcp_wire.specs.Flags.{fin, syn, rst, has}
use Rattle.tcp_wire.specs.Options.{OptionContent, Unknown}
use Rattle.tcp_wire.specs.Position.{number, position_of}
use Rattle.tcp_wire.specs.Wire.{Content}
use Rattle.tcp_judge.specs.Stream.{Stream, nothing_sent, count_sent, count_taken, with_text, count_covered, without_front}
use Rattle.tcp_judge.specs.Answers.{answers_of, kept_with, goes_elsewhere}
use Rattle.tcp_judge.specs.Edge.{Edge, no_edge, edge_after}
use Rattle.tcp_judge.specs.Heard.{Heard, nothing_heard, is_syn, carries_ack, after_went, after_came}

pub record Known : Type 0 where
  -- the number of the first SYN that was sent
  pub initial : Option Seq
  -- what was sent, as far as it isn't acknowledged
  pub stream : Stream
  -- the position of the FIN
  pub fin : Option ℕ
  -- whether its SYN was acknowledged
  pub acked : Bool
  -- whether text may go before that
  pub fast : Bool
  -- whether it reset the connection
  pub ended : Bool
  -- what the peer's windows allow
  pub edge : Edge
  -- the resets that answer what came, as far as it acknowledges none of the end's numbers
  pub answers : List (Seq × Option Seq)
  -- and what came to it
  pub heard : Heard

abbrev pub nothing_known : Known
nothing_known = record { initial = None; stream = nothing_sent; fin = None; acked = false; fast = false; ended = false; edge = no_edge; answers = []; heard = nothing_heard }

-- TCP FAST OPEN: a SYN that went or came has its option, one of an experiment, as it was before (RFC 6994), or text (RFC 7413, 2 and
-- 4.1.1)
abbrev pub is_fast_open : OptionContent → Bool
is_fast_open (Unknown kind body) = kind == 34 || (kind == 253 || kind == 254)
is_fast_open other = false

abbrev pub any_fast_open : List OptionContent → Bool
any_fast_open [] = false
any_fast_open (option ∷ options) = is_fast_open option || any_fast_open options

abbrev pub opens_fast : Content → Bool
opens_fast v = is_syn v && (any_fast_open v.options || not (length v.text == 0))

-- THE INITIAL NUMBER is that of the first SYN (RFC 9293, 3.4.1)
abbrev pub initial_after : Option Seq → Content → Option Seq
initial_after None v = if is_syn v then Some (record { 0 = v.seq }) else None
initial_after (Some first) v = Some first

-- THE POSITION where a segment's text begins: that of its number, the nearest to the last byte that was sent, and one further
-- after a SYN. It is 0 where no position is known: before any SYN, and in a reset.
abbrev pub place_by : Option Seq → ℕ → Content → ℕ
place_by None count v = 0
place_by (Some first) count v =
    if has rst v.flags then 0 else position_of first.0 count v.seq + (if has syn v.flags then 1 else 0)

abbrev pub place_of : Known → Content → ℕ
place_of k v = place_by (initial_after k.initial v) (count_sent k.stream) v

-- THE FIN is right after the text that it comes with
abbrev pub fin_after : Option ℕ → ℕ → Content → Option ℕ
fin_after known place v = if nat_lt 0 place && has fin v.flags then Some (place + length v.text) else known

-- A KEEP-ALIVE may have one byte, of any value, right before SND.NXT (RFC 9293, 3.8.4)
abbrev pub is_keep_alive : Known → ℕ → Content → Bool
is_keep_alive k place v =
    (length v.text == 1 && place + 1 == count_taken k.stream (is_some k.fin)) && (not (has syn v.flags) && not (has fin v.flags))

-- THE OWN RESET, at SND.NXT and with the connection's ports, ends one whose SYN was acknowledged (RFC 9293, 3.10.5), unless a SYN goes
-- after it
abbrev pub is_at_next : Option Seq → ℕ → Content → Bool
is_at_next None next v = false
is_at_next (Some first) next v = v.seq == number first.0 next

abbrev pub ends_by : Known → Content → Bool
ends_by k v =
    (has rst v.flags && k.acked) && (is_at_next k.initial (count_taken k.stream (is_some k.fin)) v && not (goes_elsewhere k.heard.ports v))

-- after a segment that was sent
abbrev pub known_after : Known → Content → Known
known_after k v = record {
  initial = initial_after k.initial v;
  stream = if is_keep_alive k (place_of k v) v then k.stream else with_text k.stream (place_of k v) v.text;
  fin = fin_after k.fin (place_of k v) v;
  acked = k.acked;
  fast = k.fast || opens_fast v;
  ended = not (is_syn v) && (k.ended || ends_by k v);
  edge = k.edge;
  answers = k.answers;
  heard = after_went k.heard v;
}

-- how many of the bytes that are kept a segment that came acknowledges. Its number is taken for the position nearest to the
-- last byte that was sent
abbrev pub acked_by : Option Seq → Stream → Bool → Content → ℕ
acked_by None d has_fin v = 0
acked_by (Some first) d has_fin v = if carries_ack v then count_covered d has_fin (position_of first.0 (count_sent d) v.ack) else 0

abbrev pub count_acked : Known → Content → ℕ
count_acked k v = acked_by k.initial k.stream (is_some k.fin) v

-- and whether it acknowledges the SYN, and no more than was sent
abbrev pub covers_syn : Stream → Bool → ℕ → Bool
covers_syn d has_fin position = nat_lt 0 position && nat_le position (count_taken d has_fin)

abbrev pub acks_syn_by : Option Seq → Stream → Bool → Content → Bool
acks_syn_by None d has_fin v = false
acks_syn_by (Some first) d has_fin v = carries_ack v && covers_syn d has_fin (position_of first.0 (count_sent d) v.ack)

abbrev pub acks_syn : Known → Content → Bool
acks_syn k v = acks_syn_by k.initial k.stream (is_some k.fin) v

-- the position that it acknowledges, where that is no more than was sent
abbrev pub acked_position_by : Option Seq → ℕ → ℕ → Content → ℕ
acked_position_by None count next v = 0
acked_position_by (Some first) count next v =
    if carries_ack v && nat_le (position_of first.0 count v.ack) next then position_of first.0 count v.ack else 0

abbrev pub acked_position : Known → Content → ℕ
acked_position k v = acked_position_by k.initial (count_sent k.stream) (count_taken k.stream (is_some k.fin)) v

-- A RESET before the SYN was acknowledged leads back to where nothing is sent: an end that listened listens again, and its next
-- SYN has another number (RFC 9293, 3.5 and 3.10.7.4)
abbrev pub leads_back : Known → Content → Bool
leads_back k v = has rst v.flags && not k.acked

-- and after one that came: what it acknowledges is forgotten
abbrev pub known_with : Known → Content → Known
known_with k v = record {
  initial = if leads_back k v then None else k.initial;
  stream = if leads_back k v then nothing_sent else without_front k.stream (count_acked k v);
  fin = if leads_back k v then None else k.fin;
  acked = k.acked || acks_syn k v;
  fast = k.fast || opens_fast v;
  ended = k.ended;
  edge = edge_after k.edge (acked_position k v) v;
  answers = kept_with k.answers (answers_of k.initial (count_taken k.stream (is_some k.fin)) v);
  heard = after_came k.heard v;
}
