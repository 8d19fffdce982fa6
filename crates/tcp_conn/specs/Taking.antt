-- What is reported of bytes that arrive at an end `s` (RFC 9293, 3.10.7.4; RFC 5681, 2): the rule that applied, the text that
-- they acknowledged, whether they are a duplicate acknowledgement, whether their window was taken, and what they brought.
use Rattle.std.specs.Prelude.{ℕ, ◌-◌, Bool, false, true, not, ◌&&◌, ◌||◌, ◌==◌, if◌then◌else◌, nat_lt, List, length, Option, Some, None, Result, Ok, Err}
use Rattle.tcp_wire.specs.Decoded.{decode_answer}
use Rattle.tcp_wire.specs.Flags.{fin, has, syn}
use Rattle.tcp_wire.specs.Position.{offset}
use Rattle.tcp_wire.specs.Wire.{Content}
use Rattle.tcp_wire.specs.declared.fault.DecodeError.{DecodeError}
use Rattle.tcp_reasm.specs.declared.placed.Placed.{Placed}
use Rattle.tcp_reasm.specs.declared.placed.Placed.TheVariants as placed
use Rattle.tcp_reasm.specs.Reassembly.{place_answer}
use Rattle.tcp_halves.specs.Sender.{is_newer}
use Rattle.tcp_conn.specs.declared.arrive.judgement.Judgement.{Judgement}
use Rattle.tcp_conn.specs.declared.arrive.judgement.Judgement.TheVariants.{PeerAccepts, Taken, TakenShut}
use Rattle.tcp_conn.specs.declared.arrive.brought.Brought.{Brought}
use Rattle.tcp_conn.specs.declared.arrive.brought.Brought.TheVariants.{Nothing, InOrder, Held, NotKept}
use Rattle.tcp_conn.specs.Arrival.{after_acked_text, after_its_ack, after_its_text, after_own_syn, is_current, takes_fin, takes_text_of}
use Rattle.tcp_conn.specs.Judgement.{judgement, position_near}
use Rattle.tcp_conn.specs.State.{State}
use Rattle.tcp_conn.specs.Status.{in_flight_of}
use Rattle.tcp_conn.specs.Windows.{window_from}

-- THE RULE that applied (RFC 9293, 3.10.7); none where the bytes are no segment
abbrev pub rule_of_reading : State → List ℕ → List ℕ → Result Content DecodeError → Option Judgement
rule_of_reading s src dst (Ok v) = Some (judgement s src dst v)
rule_of_reading s src dst (Err fault) = None

unfoldable pub rule_of : State → List ℕ → List ℕ → List ℕ → Option Judgement
rule_of s src dst bytes = rule_of_reading s src dst (decode_answer src dst bytes)

-- TEXT ACKNOWLEDGED (RFC 9293, 3.10.7.4, fifth): the text bytes that are released after it, and weren't before
abbrev pub bytes_acked : State → State → ℕ
bytes_acked s after = after.sending.released - s.sending.released

-- A DUPLICATE ACKNOWLEDGEMENT (RFC 5681, 2): (a) text is in flight, (b) the segment has none, (c) it is no SYN and no FIN, (d) it
-- acknowledges up to SND.UNA, and (e) its window is the last one, SND.WND
abbrev pub is_duplicate_ack : State → Content → Bool
is_duplicate_ack s v =
    nat_lt 0 (in_flight_of s)
    && ((length v.text == 0)
    && ((not (has syn v.flags) && not (has fin v.flags))
    && ((position_near s v.ack == s.sending.snd_una)
    && (window_from s.link v.window == s.sending.snd_wnd))))

-- of a segment whose acknowledgement is taken
abbrev pub is_duplicate_by : Judgement → State → Content → Bool
is_duplicate_by Taken s v = is_duplicate_ack s v
is_duplicate_by TakenShut s v = is_duplicate_ack s v
is_duplicate_by other s v = false

abbrev pub is_duplicate_reading : State → List ℕ → List ℕ → Result Content DecodeError → Bool
is_duplicate_reading s src dst (Ok v) = is_duplicate_by (judgement s src dst v) s v
is_duplicate_reading s src dst (Err fault) = false

unfoldable pub is_duplicate : State → List ℕ → List ℕ → List ℕ → Bool
is_duplicate s src dst bytes = is_duplicate_reading s src dst (decode_answer src dst bytes)

-- ITS WINDOW IS TAKEN (RFC 9293, 3.10.7.4, fifth): its acknowledgement isn't older than SND.UNA, and by SND.WL1 and SND.WL2
-- the last window wasn't taken from a newer segment
abbrev pub takes_window_of : State → Content → Bool
takes_window_of s v = is_current s v && is_newer s.sending v.seq v.ack

-- once its acknowledgement was taken
abbrev pub takes_window : State → Content → Bool
takes_window s v = takes_window_of (after_acked_text (after_own_syn s v) v) v

-- the SYN that answers this end's has the first window (RFC 9293, 3.10.7.3, fourth)
abbrev pub takes_window_by : Judgement → State → Content → Bool
takes_window_by PeerAccepts s v = true
takes_window_by Taken s v = takes_window s v
takes_window_by TakenShut s v = takes_window s v
takes_window_by other s v = false

abbrev pub takes_window_reading : State → List ℕ → List ℕ → Result Content DecodeError → Bool
takes_window_reading s src dst (Ok v) = takes_window_by (judgement s src dst v) s v
takes_window_reading s src dst (Err fault) = false

unfoldable pub is_window_taken : State → List ℕ → List ℕ → List ℕ → Bool
is_window_taken s src dst bytes = takes_window_reading s src dst (decode_answer src dst bytes)

-- WHAT IT BROUGHT (RFC 9293, 3.10.7.4, seventh and eighth): text or FIN that moved RCV.NXT, text that is kept out of order,
-- or nothing that is kept
abbrev pub brought_as : Placed → Brought
brought_as (placed.Advanced count) = InOrder
brought_as placed.Held = Held
brought_as placed.NotKept = NotKept

abbrev pub brought_text : State → Content → Brought
brought_text s v =
    if takes_text_of s v then brought_as (place_answer s.receiving.inbox (offset s.receiving.rcv_nxt v.seq) v.text) else NotKept

abbrev pub brings : Content → Bool
brings v = not (length v.text == 0) || has fin v.flags

-- where nothing of it is kept
abbrev pub brought_in_vain : Content → Brought
brought_in_vain v = if brings v then NotKept else Nothing

-- once its acknowledgement was taken: a FIN that is taken comes in order
abbrev pub brought_kept : State → Content → Brought
brought_kept s v = if takes_fin (after_its_text s v) v then InOrder else (if brings v then brought_text s v else Nothing)

abbrev pub brought_by : Judgement → State → Content → Brought
brought_by Taken s v = brought_kept (after_its_ack s v) v
brought_by other s v = brought_in_vain v

abbrev pub brought_reading : State → List ℕ → List ℕ → Result Content DecodeError → Brought
brought_reading s src dst (Ok v) = brought_by (judgement s src dst v) s v
brought_reading s src dst (Err fault) = Nothing

unfoldable pub brought : State → List ℕ → List ℕ → List ℕ → Brought
brought s src dst bytes = brought_reading s src dst (decode_answer src dst bytes)
