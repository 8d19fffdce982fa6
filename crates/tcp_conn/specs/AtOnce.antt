-- Whether a segment that has arrived has to be answered at once, or may be answered together with the next one (RFC 5681,
-- 4.2; RFC 9293, 3.8.6.3).
use Rattle.std.specs.Prelude.{ℕ, Bool, false, true, ◌||◌, ◌&&◌, ◌==◌, not, nat_lt, List, length, is_some, Result, Ok, Err, ◌≡◌}
use Rattle.tcp_wire.specs.Decoded.{decode_answer}
use Rattle.tcp_wire.specs.Flags.{fin, has}
use Rattle.tcp_wire.specs.Wire.{Content}
use Rattle.tcp_wire.specs.declared.fault.DecodeError.{DecodeError}
use Rattle.tcp_reasm.specs.Reassembly.{runs}
use Rattle.tcp_conn.specs.declared.arrive.judgement.Judgement.{Judgement}
use Rattle.tcp_conn.specs.declared.arrive.judgement.Judgement.TheVariants.{Foreign, ResetIgnored, OpensNothing, PeerRefuses, PeerResets, NoAck, Taken, TakenShut}
use Rattle.tcp_conn.specs.Arrival.{after_arrival, after_judgement}
use Rattle.tcp_conn.specs.Due.{due_of}
use Rattle.tcp_conn.specs.Judgement.{judgement}
use Rattle.tcp_conn.specs.State.{State}

-- A GAP: a run is kept out of order, so something before it is missing
abbrev pub has_gap : State → Bool
has_gap s = nat_lt 0 (length (runs s.receiving.inbox.held))

-- A FIN; or text that came out of order, or filled all or part of a gap: there was a gap before it, or there is one in the
-- end `s` after it
abbrev pub breaks_order : Bool → State → Content → Bool
breaks_order had_gap s v = has fin v.flags || (not (length v.text == 0) && (had_gap || has_gap s))

-- BY THE RULE that applied to it, in the end `s` after it. Where a segment that wasn't taken is answered by a SYN, a reset or
-- an acknowledgement, that goes out at once. Text in order alone may wait
abbrev pub is_urgent : Judgement → Bool → State → Content → Bool
is_urgent Taken had_gap s v = s.pending.ack && breaks_order had_gap s v
is_urgent TakenShut had_gap s v = s.pending.ack
is_urgent Foreign had_gap s v = false
is_urgent ResetIgnored had_gap s v = false
is_urgent OpensNothing had_gap s v = false
is_urgent NoAck had_gap s v = false
is_urgent PeerRefuses had_gap s v = false
is_urgent PeerResets had_gap s v = false
is_urgent other had_gap s v = true

-- AN ARRIVAL of any bytes at the end `s`
abbrev pub is_urgent_reading : State → List ℕ → List ℕ → Result Content DecodeError → Bool
is_urgent_reading s src dst (Ok v) = is_urgent (judgement s src dst v) (has_gap s) (after_judgement (judgement s src dst v) s src v) v
is_urgent_reading s src dst (Err fault) = false

unfoldable pub answers_at_once : State → List ℕ → List ℕ → List ℕ → Bool
answers_at_once s src dst bytes = is_urgent_reading s src dst (decode_answer src dst bytes)

-- WHAT HAS TO BE ANSWERED AT ONCE has an answer: a segment is due then
abbrev pub UrgentIsDue : Type 0
UrgentIsDue =
    (s : State) (src dst bytes : List ℕ) → answers_at_once s src dst bytes ≡ true
    → is_some (due_of (after_arrival s src dst bytes)) ≡ true
