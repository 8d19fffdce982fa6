-- An end in TIME-WAIT and the TIME-WAIT record in its place can't be distinguished: what is observed at an event, and the
-- record after it, depend only on the record before it.
use Rattle.std.proofs.Common.{◌≡◌, ℕ, List, [], ◌∷◌, refl, sym, ap, subst, ◌∙◌, arith}
use Rattle.std.specs.Prelude.{Bool, true, false, if◌then◌else◌, max, drop, ◌++◌, Option, Some, None, option_map, Result, Ok, Err}
use Rattle.std.specs.Option.{option_or}
use Rattle.tcp_wire.specs.Decoded.{decode_answer}
use Rattle.tcp_wire.specs.Flags.{ack}
use Rattle.tcp_wire.specs.Position.{number}
use Rattle.tcp_wire.specs.Wire.{Content, encoded_bytes, wire_length}
use Rattle.tcp_reasm.specs.Reassembly.{blocks, runs_newest_first}
use Rattle.tcp_conn.specs.declared.emit.due.Due.{Due}
use Rattle.tcp_conn.specs.declared.emit.due.Due.TheVariants.{Reset, Acknowledgement}
use Rattle.tcp_halves.specs.declared.link.Peer.{Peer}
use Rattle.tcp_halves.specs.declared.link.WaitingReset.{WaitingReset}
use Rattle.tcp_conn.specs.declared.outcome.CallError.{CallError}
use Rattle.tcp_conn.specs.declared.outcome.CallError.TheVariants.{Ended}
use Rattle.tcp_conn.specs.declared.phase.Ending.{Ending}
use Rattle.tcp_conn.specs.declared.phase.Ending.TheVariants as endings
use Rattle.tcp_conn.specs.declared.phase.Phase.{Phase}
use Rattle.tcp_conn.specs.declared.phase.Phase.TheVariants as phases
use Rattle.tcp_conn.specs.declared.phase.Timer.{Timer}
use Rattle.tcp_conn.specs.declared.phase.Timer.TheVariants as timers
use Rattle.tcp_conn.specs.Arrival.{after_arrival, arrival_answer}
use Rattle.tcp_conn.specs.Blocks.{blocks_to_report}
use Rattle.tcp_conn.specs.Calls.{abort_answer, after_abort}
use Rattle.tcp_conn.specs.Due.{due_of, reset_due}
use Rattle.tcp_conn.specs.Emission.{after_due, after_emission, buffer_after, buffer_with, destination, pending_length}
use Rattle.tcp_conn.specs.Endings.{after_discarding, after_orderly_end}
use Rattle.tcp_conn.specs.Forms.{plain_segment, reset_from, segment_of, waiting_segment}
use Rattle.tcp_conn.specs.Phase.{is_ended, is_handshake, is_time_wait, sends_text}
use Rattle.tcp_conn.specs.TimeWait.{Answer, Arrived, Applied, Emitted, Aborted, Arrives, RunsOut, Emits, Aborts, Event, TimeWaitIsTheEnd, TimeWaitRecord, Seen, after_event, answer_to, as_state, time_wait_phase, time_wait_of, seen_at, seen_of_end, seen_of_time_wait}
use Rattle.tcp_conn.specs.State.{State}
use Rattle.tcp_conn.specs.Timers.{after_reorder, after_retransmit, after_time_wait, after_timer, timer_answer}
use Rattle.tcp_conn.specs.Windows.{window_field}
use Rattle.tcp_conn.specs.Writing.{bytes_of, destination_of, waiting_destination}
use Rattle.tcp_conn.proofs.TimeWaits.{if-same, or-false}
use Rattle.tcp_conn.proofs.InTimeWait.{Goes, IsInTimeWait, begins, ends, ends-orderly, in-time_wait, no-handshake, quiet, time_wait-again}
use Rattle.tcp_conn.proofs.TimeWaitArrival.{arrival-goes, arrival-is, reading-answer, reading-effect, stays}

-- A TIMER
abbrev applies : Timer → Ending → Bool
applies timers.TimeWait ending = is_time_wait (time_wait_phase ending)
applies other ending = false

abbrev timer-effect : Timer → TimeWaitRecord → TimeWaitRecord
timer-effect timers.TimeWait r = if is_time_wait (time_wait_phase r.ending) then record r { ending = endings.Orderly; ack = false } else r
timer-effect other r = r

no-text : (s : State) → IsInTimeWait s → sends_text s.phase ≡ false
no-text s h = ap sends_text h.phase ∙ quiet s.ending

no-syn : (s : State) → IsInTimeWait s → is_handshake s.phase ≡ false
no-syn s h = ap is_handshake h.phase ∙ no-handshake s.ending

timer-is : (s : State) (timer : Timer) → IsInTimeWait s → timer_answer s timer ≡ applies timer s.ending
timer-is s timers.Retransmit h = rw (no-syn s h, no-text s h) refl
timer-is s timers.Reorder h = rw (no-text s h) refl
timer-is s timers.TimeWait h = ap is_time_wait h.phase

retransmit-is : (s : State) → IsInTimeWait s → after_retransmit s ≡ s
unfolding after_retransmit
retransmit-is s h = rw (no-syn s h, no-text s h, or-false s.pending.syn, or-false s.pending.probe) refl

reorder-is : (s : State) → IsInTimeWait s → after_reorder s ≡ s
unfolding after_reorder
reorder-is s h = rw (no-text s h) refl

goes-if : (b : Bool) (x y : State) (r r' : TimeWaitRecord) → Goes x r → Goes y r' → Goes (if b then x else y) (if b then r else r')
goes-if true x y r r' hx hy = hx
goes-if false x y r r' hx hy = hy

timer-goes : (s : State) (timer : Timer) → IsInTimeWait s → Goes (after_timer s timer) (timer-effect timer (time_wait_of s))
unfolding after_time_wait
timer-goes s timers.Retransmit h = subst (λ s'. Goes s' (time_wait_of s)) (sym (retransmit-is s h)) (stays s h)
timer-goes s timers.Reorder h = subst (λ s'. Goes s' (time_wait_of s)) (sym (reorder-is s h)) (stays s h)
timer-goes s timers.TimeWait h =
    subst (λ phase. Goes (after_time_wait s) (if is_time_wait phase then record (time_wait_of s) { ending = endings.Orderly; ack = false } else time_wait_of s)) h.phase
    (goes-if (is_time_wait s.phase) (after_orderly_end s) s (record (time_wait_of s) { ending = endings.Orderly; ack = false }) (time_wait_of s) (ends-orderly s h) (stays s h))

-- AN EMISSION: a reset that waits, or an acknowledgement
due-in-time_wait : TimeWaitRecord → Option Due
due-in-time_wait r = option_or (reset_due r.reset) (if r.ack then Some Acknowledgement else None)

due-is : (s : State) → IsInTimeWait s → due_of s ≡ due-in-time_wait (time_wait_of s)
unfolding due_of due-in-time_wait
due-is s h = rw (h.no_syn, no-text s h) refl

ack-segment : TimeWaitRecord → Content
ack-segment r = record {
  src_port = r.port;
  dst_port = r.peer.port;
  seq = r.snd_nxt;
  ack = r.rcv_nxt;
  reserved = 0;
  flags = ack;
  window = window_field r.shift r.window;
  urgent = 0;
  options = [];
  pad = 0;
  text = [];
}

none-reported : (s : State) → IsInTimeWait s → blocks_to_report s ≡ []
unfolding blocks runs_newest_first
none-reported s h = rw h.none_held (if-same s.link.sack [])

ack-segment-is : (s : State) → IsInTimeWait s → plain_segment s Acknowledgement ≡ ack-segment (time_wait_of s)
unfolding ack-segment
ack-segment-is s h = rw (none-reported s h) refl

abbrev waiting-in-time_wait : TimeWaitRecord → Option WaitingReset → Content
waiting-in-time_wait r (Some reset) = reset_from r.port reset
waiting-in-time_wait r None = ack-segment r

abbrev segment-in-time_wait : TimeWaitRecord → Due → Content
segment-in-time_wait r Reset = waiting-in-time_wait r r.reset
segment-in-time_wait r other = ack-segment r

abbrev waiting-peer : TimeWaitRecord → Option WaitingReset → Peer
waiting-peer r (Some reset) = reset.to
waiting-peer r None = r.peer

abbrev peer-in-time_wait : TimeWaitRecord → Due → Peer
peer-in-time_wait r Reset = waiting-peer r r.reset
peer-in-time_wait r other = r.peer

abbrev buffer-in-time_wait : TimeWaitRecord → Option Due → List ℕ → List ℕ
buffer-in-time_wait r None out = out
buffer-in-time_wait r (Some due) out =
    encoded_bytes r.addr.0 (peer-in-time_wait r due).addr.0 (segment-in-time_wait r due) ++ drop (wire_length (segment-in-time_wait r due)) out

abbrev due-effect : TimeWaitRecord → Option Due → TimeWaitRecord
due-effect r None = r
due-effect r (Some Reset) = record r { reset = None }
due-effect r (Some other) = record r { ack = false }

-- each of the three that can be due
by-parts : (P : Option Due → Type 0) → P None → P (Some Reset) → P (Some Acknowledgement)
    → (reset : Option WaitingReset) (pending : Bool) → P (option_or (reset_due reset) (if pending then Some Acknowledgement else None))
by-parts P none reset acknowledgement (Some waiting) pending = reset
by-parts P none reset acknowledgement None true = acknowledgement
by-parts P none reset acknowledgement None false = none

by-due : (P : Option Due → Type 0) → P None → P (Some Reset) → P (Some Acknowledgement) → (r : TimeWaitRecord) → P (due-in-time_wait r)
unfolding due-in-time_wait
by-due P none reset acknowledgement r = by-parts P none reset acknowledgement r.reset r.ack

abbrev pending-in-time_wait : TimeWaitRecord → Option ℕ
pending-in-time_wait r = option_map (λ due. wire_length (segment-in-time_wait r due)) (due-in-time_wait r)

abbrev destination-in-time_wait : TimeWaitRecord → Option (List ℕ)
destination-in-time_wait r = option_map (λ due. (peer-in-time_wait r due).addr.0) (due-in-time_wait r)

waiting-is : (s : State) (reset : Option WaitingReset) → IsInTimeWait s → waiting_segment s reset ≡ waiting-in-time_wait (time_wait_of s) reset
waiting-is s (Some reset) h = refl
waiting-is s None h = ack-segment-is s h

waiting-goes-to : (s : State) (reset : Option WaitingReset) → waiting_destination s reset ≡ waiting-peer (time_wait_of s) reset
waiting-goes-to s (Some reset) = refl
waiting-goes-to s None = refl

pending-is : (s : State) → IsInTimeWait s → pending_length s ≡ pending-in-time_wait (time_wait_of s)
unfolding pending_length segment_of
pending-is s h =
    ap (option_map (λ due. wire_length (segment_of s due))) (due-is s h)
    ∙ by-due (λ d. option_map (λ due. wire_length (segment_of s due)) d ≡ option_map (λ due. wire_length (segment-in-time_wait (time_wait_of s) due)) d)
    refl (ap (λ v. Some (wire_length v)) (waiting-is s s.pending.reset h)) (ap (λ v. Some (wire_length v)) (ack-segment-is s h)) (time_wait_of s)

destination-is : (s : State) → IsInTimeWait s → destination s ≡ destination-in-time_wait (time_wait_of s)
unfolding destination
destination-is s h =
    ap (option_map (λ due. (destination_of s due).addr.0)) (due-is s h)
    ∙ by-due (λ d. option_map (λ due. (destination_of s due).addr.0) d ≡ option_map (λ due. (peer-in-time_wait (time_wait_of s) due).addr.0) d)
    refl (ap (λ (peer : Peer). Some peer.addr.0) (waiting-goes-to s s.pending.reset)) refl (time_wait_of s)

buffer-is : (s : State) (out : List ℕ) → IsInTimeWait s → buffer_after s out ≡ buffer-in-time_wait (time_wait_of s) (due-in-time_wait (time_wait_of s)) out
unfolding buffer_after bytes_of segment_of
buffer-is s out h =
    ap (λ d. buffer_with s d out) (due-is s h)
    ∙ by-due (λ d. buffer_with s d out ≡ buffer-in-time_wait (time_wait_of s) d out)
    refl
    (ap (λ (peer : Peer). encoded_bytes s.config.addr.0 peer.addr.0 (waiting_segment s s.pending.reset) ++ drop (wire_length (waiting_segment s s.pending.reset)) out)
    (waiting-goes-to s s.pending.reset)
    ∙ ap (λ v. encoded_bytes s.config.addr.0 (waiting-peer (time_wait_of s) s.pending.reset).addr.0 v ++ drop (wire_length v) out) (waiting-is s s.pending.reset h))
    (ap (λ v. encoded_bytes s.config.addr.0 s.peer.addr.0 v ++ drop (wire_length v) out) (ack-segment-is s h)) (time_wait_of s)

max-left : (n : ℕ) → max n 0 ≡ n
max-left n = omega arith

max-same : (n : ℕ) → max n n ≡ n
max-same n = omega arith

reset-goes : (s : State) → IsInTimeWait s → Goes (after_due s (Some Reset)) (record (time_wait_of s) { reset = None })
reset-goes s h = record {
  rests = ap (λ n. record (time_wait_of s) { snd_nxt = number s.config.isn.0 n; reset = None }) (max-left s.sending.snd_nxt);
  in_time_wait = record { isn = h.isn; phase = h.phase; acked = h.acked ∙ sym (max-left s.sending.snd_nxt); read = h.read; none_held = h.none_held; no_syn = h.no_syn };
}

acknowledgement-goes : (s : State) → IsInTimeWait s → Goes (after_due s (Some Acknowledgement)) (record (time_wait_of s) { ack = false })
acknowledgement-goes s h = record {
  rests = ap (λ n. record (time_wait_of s) { snd_nxt = number s.config.isn.0 n; ack = false }) (max-same s.sending.snd_nxt);
  in_time_wait = record { isn = h.isn; phase = h.phase; acked = h.acked ∙ sym (max-same s.sending.snd_nxt); read = h.read; none_held = h.none_held; no_syn = h.no_syn };
}

emission-goes : (s : State) → IsInTimeWait s → Goes (after_emission s) (due-effect (time_wait_of s) (due-in-time_wait (time_wait_of s)))
unfolding after_emission
emission-goes s h =
    subst (λ d. Goes (after_due s d) (due-effect (time_wait_of s) (due-in-time_wait (time_wait_of s)))) (sym (due-is s h))
    (by-due (λ d. Goes (after_due s d) (due-effect (time_wait_of s) d)) (stays s h) (reset-goes s h) (acknowledgement-goes s h) (time_wait_of s))

-- AN ABORT
abbrev abort-in-time_wait : Ending → Result (Unit {0}) CallError
abort-in-time_wait endings.NotEnded = Ok tt
abort-in-time_wait ending = Err (Ended ending)

abbrev abort-effect : Ending → TimeWaitRecord → TimeWaitRecord
abort-effect endings.NotEnded r = record r { ending = endings.Aborted; ack = false }
abort-effect other r = r

abort-is : (s : State) (ending : Ending) → s.ending ≡ ending → s.phase ≡ time_wait_phase ending → abort_answer s ≡ abort-in-time_wait ending
abort-is s endings.NotEnded e p = rw (e, p) refl
abort-is s endings.Orderly e p = rw e refl
abort-is s endings.Reset e p = rw e refl
abort-is s endings.Aborted e p = rw e refl

discards-all : (s : State) → s.ending ≡ endings.NotEnded → s.phase ≡ phases.TimeWait → after_abort s ≡ after_discarding s endings.Aborted
unfolding after_abort
discards-all s e p = rw (e, p) refl

refused : (s : State) → is_ended s.ending ≡ true → after_abort s ≡ s
unfolding after_abort
refused s e = rw e refl

abort-goes : (s : State) (ending : Ending) → s.ending ≡ ending → s.phase ≡ time_wait_phase ending → IsInTimeWait s → Goes (after_abort s) (abort-effect ending (time_wait_of s))
abort-goes s endings.NotEnded e p h = subst (λ s'. Goes s' (record (time_wait_of s) { ending = endings.Aborted; ack = false })) (sym (discards-all s e p)) (ends s endings.Aborted h refl)
abort-goes s endings.Orderly e p h = subst (λ s'. Goes s' (time_wait_of s)) (sym (refused s (ap is_ended e))) (stays s h)
abort-goes s endings.Reset e p h = subst (λ s'. Goes s' (time_wait_of s)) (sym (refused s (ap is_ended e))) (stays s h)
abort-goes s endings.Aborted e p h = subst (λ s'. Goes s' (time_wait_of s)) (sym (refused s (ap is_ended e))) (stays s h)

-- ANY EVENT
abbrev answer-in-time_wait : TimeWaitRecord → Event → Answer
answer-in-time_wait r (Arrives src dst bytes) = Arrived (reading-answer r src dst (decode_answer src dst bytes))
answer-in-time_wait r (RunsOut timer) = Applied (applies timer r.ending)
answer-in-time_wait r (Emits out) = Emitted (destination-in-time_wait r) (buffer-in-time_wait r (due-in-time_wait r) out)
answer-in-time_wait r Aborts = Aborted (abort-in-time_wait r.ending)

abbrev event-effect : TimeWaitRecord → Event → TimeWaitRecord
event-effect r (Arrives src dst bytes) = reading-effect r src dst (decode_answer src dst bytes)
event-effect r (RunsOut timer) = timer-effect timer r
event-effect r (Emits out) = due-effect r (due-in-time_wait r)
event-effect r Aborts = abort-effect r.ending r

answer-is : (s : State) (event : Event) → IsInTimeWait s → answer_to s event ≡ answer-in-time_wait (time_wait_of s) event
unfolding arrival_answer
answer-is s (Arrives src dst bytes) h = ap Arrived (arrival-is s src dst (decode_answer src dst bytes) h)
answer-is s (RunsOut timer) h = ap Applied (timer-is s timer h)
answer-is s (Emits out) h = ap (λ to. Emitted to (buffer_after s out)) (destination-is s h) ∙ ap (Emitted (destination-in-time_wait (time_wait_of s))) (buffer-is s out h)
answer-is s Aborts h = ap Aborted (abort-is s s.ending refl h.phase)

event-goes : (s : State) (event : Event) → IsInTimeWait s → Goes (after_event s event) (event-effect (time_wait_of s) event)
unfolding after_arrival
event-goes s (Arrives src dst bytes) h = arrival-goes s src dst (decode_answer src dst bytes) h
event-goes s (RunsOut timer) h = timer-goes s timer h
event-goes s (Emits out) h = emission-goes s h
event-goes s Aborts h = abort-goes s s.ending refl h.phase h

abbrev seen-as : Phase → Ending → Option ℕ → Answer → Seen
seen-as phase ending pending answer = record { phase = phase; ending = ending; pending = pending; answer = answer }

abbrev seen-in-time_wait : TimeWaitRecord → Event → Seen
seen-in-time_wait r event =
    seen-as (time_wait_phase r.ending) r.ending (pending-in-time_wait r) (answer-in-time_wait r event)

seen-is : (s : State) (event : Event) → IsInTimeWait s → seen_at s event ≡ seen-in-time_wait (time_wait_of s) event
seen-is s event h =
    ap (λ phase. seen-as phase s.ending (pending_length s) (answer_to s event)) h.phase
    ∙ ap (λ pending. seen-as (time_wait_phase s.ending) s.ending pending (answer_to s event)) (pending-is s h)
    ∙ ap (λ answer. seen-as (time_wait_phase s.ending) s.ending (pending-in-time_wait (time_wait_of s)) answer) (answer-is s event h)

-- ANY NUMBER OF EVENTS
alike : (s : State) (events : List Event) → IsInTimeWait s → seen_of_time_wait (time_wait_of s) events ≡ seen_of_end s events
alike s [] h = refl
alike s (event ∷ events) h =
    let t : State = as_state (time_wait_of s) in
    let seen : seen_at t event ≡ seen_at s event =
    seen-is t event (in-time_wait s) ∙ ap (λ r. seen-in-time_wait r event) (time_wait-again s) ∙ sym (seen-is s event h) in
    let rests : time_wait_of (after_event t event) ≡ time_wait_of (after_event s event) =
    (event-goes t event (in-time_wait s)).rests ∙ ap (λ r. event-effect r event) (time_wait-again s) ∙ sym (event-goes s event h).rests in
    ap (λ one. one ∷ seen_of_time_wait (time_wait_of (after_event t event)) events) seen
    ∙ ap (λ r. seen_at s event ∷ seen_of_time_wait r events) rests
    ∙ ap (λ others. seen_at s event ∷ others) (alike (after_event s event) events (event-goes s event h).in_time_wait)

pub time_wait_lem : TimeWaitIsTheEnd
time_wait_lem s events fits e = alike s events (begins s fits e)
