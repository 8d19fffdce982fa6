-- The guard against segments of a blind attacker, who sees nothing of a connection (RFC 5961, 1.1 and 5.2), and the way in with
-- parameters. Its reach has the place of MAX.SND.WND there, so that no state is kept for it.
use Rattle.std.specs.Prelude.{ℕ, Bool, false, ◌+◌, ◌^◌, ◌||◌, ◌&&◌, if◌then◌else◌, nat_le, nat_lt, List, Option, Some, None, Result, Ok, Err}
use Rattle.tcp_wire.specs.Decoded.{decode_answer}
use Rattle.tcp_wire.specs.Position.{distance, number}
use Rattle.tcp_wire.specs.Vouched.{with_right_sum}
use Rattle.tcp_wire.specs.Wire.{Content}
use Rattle.tcp_wire.specs.declared.fault.DecodeError.{DecodeError}
use Rattle.tcp_conn.specs.declared.arrive.brought.Brought.{Brought}
use Rattle.tcp_conn.specs.declared.arrive.brought.Brought.TheVariants.{Nothing}
use Rattle.tcp_conn.specs.declared.arrive.guard.Intake.{Intake}
use Rattle.tcp_conn.specs.declared.arrive.judgement.Judgement.{Judgement}
use Rattle.tcp_conn.specs.declared.arrive.judgement.Judgement.TheVariants.{Taken, TakenShut, Unacceptable}
use Rattle.tcp_conn.specs.declared.outcome.Arrival.{Arrival}
use Rattle.tcp_conn.specs.declared.outcome.Arrival.TheVariants.{Malformed}
use Rattle.tcp_conn.specs.Arrival.{after_judgement}
use Rattle.tcp_conn.specs.AtOnce.{has_gap, is_urgent}
use Rattle.tcp_conn.specs.Judgement.{answer_of, judgement}
use Rattle.tcp_conn.specs.State.{State}
use Rattle.tcp_conn.specs.Taking.{brought_by, is_duplicate_by, takes_window_by}

-- THE BYTES THAT ARE READ: as they came, or, where a device has checked them, with the checksum that is right
abbrev pub bytes_read : Intake → List ℕ → List ℕ → List ℕ → List ℕ
bytes_read way src dst bytes = if way.is_vouched then with_right_sum src dst bytes else bytes

-- AN OLD ACKNOWLEDGEMENT: SEG.ACK lies before SND.UNA - reach (RFC 5961, 5.2), where a number is read as before SND.UNA if it
-- is up to 2^31 behind (RFC 9293, 3.4)
abbrev pub acks_behind : State → Content → ℕ
acks_behind s v = distance v.ack (number s.config.isn.0 s.sending.snd_una)

unfoldable pub is_old_ack : ℕ → State → Content → Bool
is_old_ack reach s v = nat_lt reach (acks_behind s v) && nat_le (acks_behind s v) (2 ^ 31)

-- FROM ELSEWHERE: SEG.SEQ is none of the `reach` numbers before RCV.NXT, nor of those from RCV.NXT on that the receive buffer may
-- have had a place for, with a FIN behind them
unfoldable pub is_elsewhere : ℕ → State → Content → Bool
is_elsewhere reach s v =
    nat_lt (s.config.recv_capacity + 1) (distance s.receiving.rcv_nxt v.seq) && nat_lt reach (distance v.seq s.receiving.rcv_nxt)

-- KEPT OUT: a segment that would be taken, for its acknowledgement; at a shut window, where the standard tests no sequence
-- number (RFC 9293, 3.10.7.4, first), for its sequence number, too
abbrev pub is_kept_out : ℕ → Judgement → State → Content → Bool
is_kept_out reach Taken s v = is_old_ack reach s v
is_kept_out reach TakenShut s v = is_old_ack reach s v || is_elsewhere reach s v
is_kept_out reach other s v = false

-- WHAT IS KEPT OUT counts as unacceptable: it is dropped, and answered by an acknowledgement
unfoldable pub guarded : Option ℕ → Judgement → State → Content → Judgement
guarded None rule s v = rule
guarded (Some reach) rule s v = if is_kept_out reach rule s v then Unacceptable else rule

-- THE RULE that applies to a segment that comes by this way
abbrev pub intake_judgement : Intake → State → List ℕ → List ℕ → Content → Judgement
intake_judgement way s src dst v = guarded way.guard (judgement s src dst v) s v

-- whether the guard keeps these bytes out
abbrev pub keeps_out_reading : ℕ → State → List ℕ → List ℕ → Result Content DecodeError → Bool
keeps_out_reading reach s src dst (Ok v) = is_kept_out reach (judgement s src dst v) s v
keeps_out_reading reach s src dst (Err fault) = false

unfoldable pub keeps_out : ℕ → State → List ℕ → List ℕ → List ℕ → Bool
keeps_out reach s src dst bytes = keeps_out_reading reach s src dst (decode_answer src dst bytes)

-- ---- ARRIVAL of any bytes by this way: as without a guard, but by that rule
abbrev pub reading_of : Intake → List ℕ → List ℕ → List ℕ → Result Content DecodeError
reading_of way src dst bytes = decode_answer src dst (bytes_read way src dst bytes)

abbrev pub answer_to_intake : Intake → State → List ℕ → List ℕ → Result Content DecodeError → Arrival
answer_to_intake way s src dst (Ok v) = answer_of (intake_judgement way s src dst v)
answer_to_intake way s src dst (Err fault) = Malformed fault

unfoldable pub intake_answer : Intake → State → List ℕ → List ℕ → List ℕ → Arrival
intake_answer way s src dst bytes = answer_to_intake way s src dst (reading_of way src dst bytes)

abbrev pub after_intake_of : Intake → State → List ℕ → List ℕ → Result Content DecodeError → State
after_intake_of way s src dst (Ok v) = after_judgement (intake_judgement way s src dst v) s src v
after_intake_of way s src dst (Err fault) = s

unfoldable pub after_intake : Intake → State → List ℕ → List ℕ → List ℕ → State
after_intake way s src dst bytes = after_intake_of way s src dst (reading_of way src dst bytes)

abbrev pub rule_of_intake : Intake → State → List ℕ → List ℕ → Result Content DecodeError → Option Judgement
rule_of_intake way s src dst (Ok v) = Some (intake_judgement way s src dst v)
rule_of_intake way s src dst (Err fault) = None

unfoldable pub intake_rule : Intake → State → List ℕ → List ℕ → List ℕ → Option Judgement
intake_rule way s src dst bytes = rule_of_intake way s src dst (reading_of way src dst bytes)

abbrev pub urgency_of_intake : Intake → State → List ℕ → List ℕ → Result Content DecodeError → Bool
urgency_of_intake way s src dst (Ok v) =
    is_urgent (intake_judgement way s src dst v) (has_gap s) (after_judgement (intake_judgement way s src dst v) s src v) v
urgency_of_intake way s src dst (Err fault) = false

unfoldable pub intake_at_once : Intake → State → List ℕ → List ℕ → List ℕ → Bool
intake_at_once way s src dst bytes = urgency_of_intake way s src dst (reading_of way src dst bytes)

abbrev pub duplicate_of_intake : Intake → State → List ℕ → List ℕ → Result Content DecodeError → Bool
duplicate_of_intake way s src dst (Ok v) = is_duplicate_by (intake_judgement way s src dst v) s v
duplicate_of_intake way s src dst (Err fault) = false

unfoldable pub intake_duplicate : Intake → State → List ℕ → List ℕ → List ℕ → Bool
intake_duplicate way s src dst bytes = duplicate_of_intake way s src dst (reading_of way src dst bytes)

abbrev pub window_of_intake : Intake → State → List ℕ → List ℕ → Result Content DecodeError → Bool
window_of_intake way s src dst (Ok v) = takes_window_by (intake_judgement way s src dst v) s v
window_of_intake way s src dst (Err fault) = false

unfoldable pub intake_window : Intake → State → List ℕ → List ℕ → List ℕ → Bool
intake_window way s src dst bytes = window_of_intake way s src dst (reading_of way src dst bytes)

abbrev pub brought_by_intake : Intake → State → List ℕ → List ℕ → Result Content DecodeError → Brought
brought_by_intake way s src dst (Ok v) = brought_by (intake_judgement way s src dst v) s v
brought_by_intake way s src dst (Err fault) = Nothing

unfoldable pub intake_brought : Intake → State → List ℕ → List ℕ → List ℕ → Brought
intake_brought way s src dst bytes = brought_by_intake way s src dst (reading_of way src dst bytes)
