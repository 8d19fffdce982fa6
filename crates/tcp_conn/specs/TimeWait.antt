-- A TIME-WAIT RECORD (RFC 9293, 3.3.2 and 3.10.7.4): what is kept of an end that only answers late segments, without the end
-- and its buffers.
use Rattle.std.specs.Prelude.{ℕ, ◌≡◌, ◌<◌, ◌^◌, Bool, true, false, not, ◌&&◌, ◌==◌, nat_le, List, [], ◌∷◌, length, Option, Some, Result}
use Rattle.tcp_wire.specs.Position.{number}
use Rattle.tcp_numbers.specs.declared.addr.Addr.{Addr}
use Rattle.tcp_reasm.specs.Reassembly.{max_capacity, window}
use Rattle.tcp_halves.specs.declared.link.Peer.{Peer}
use Rattle.tcp_halves.specs.declared.link.WaitingReset.{WaitingReset}
use Rattle.tcp_wire.specs.Wire.{Content}
use Rattle.tcp_conn.specs.declared.arrive.judgement.Judgement.{Judgement}
use Rattle.tcp_conn.specs.declared.arrive.judgement.Judgement.TheVariants as judgements
use Rattle.tcp_conn.specs.declared.outcome.Arrival.{Arrival}
use Rattle.tcp_conn.specs.declared.outcome.CallError.{CallError}
use Rattle.tcp_conn.specs.declared.phase.Ending.{Ending}
use Rattle.tcp_conn.specs.declared.phase.Ending.TheVariants.{NotEnded, Reset}
use Rattle.tcp_conn.specs.declared.phase.Phase.{Phase}
use Rattle.tcp_conn.specs.declared.phase.Phase.TheVariants.{Closed, TimeWait}
use Rattle.tcp_conn.specs.declared.phase.Timer.{Timer}
use Rattle.tcp_conn.specs.Arrival.{arrival_answer, after_arrival, first_reset, reset_of_stray}
use Rattle.tcp_conn.specs.AtOnce.{has_gap}
use Rattle.tcp_conn.specs.Calls.{abort_answer, after_abort}
use Rattle.tcp_halves.specs.Config.{default_config, max_shift}
use Rattle.tcp_conn.specs.Emission.{after_emission, buffer_after, destination, pending_length}
use Rattle.tcp_halves.specs.Link.{new_link}
use Rattle.tcp_conn.specs.Pending.{nothing_pending}
use Rattle.tcp_conn.specs.Phase.{is_ended, is_time_wait}
use Rattle.tcp_halves.specs.Receiver.{new_receiving}
use Rattle.tcp_halves.specs.Sender.{new_sending}
use Rattle.tcp_conn.specs.State.{State}
use Rattle.tcp_conn.specs.Timers.{timer_answer, after_timer}
use Rattle.tcp_conn.specs.Windows.{own_shift}
use Rattle.tcp_conn.specs.declared.time_wait.fields.TimeWaitFields.{TimeWaitFields}

-- the record
pub record TimeWaitRecord : Type 0 where
  pub addr : Addr
  pub port : ℕ
  pub peer : Peer
  -- SND.NXT and RCV.NXT, as numbers
  pub snd_nxt : ℕ
  pub rcv_nxt : ℕ
  -- RCV.WND, and the shift by which it is advertised
  pub window : ℕ
  pub shift : ℕ
  -- what is pending
  pub ack : Bool
  pub reset : Option WaitingReset
  pub ending : Ending

-- TIME-WAIT, and CLOSED once the connection has ended
abbrev pub time_wait_phase : Ending → Phase
time_wait_phase NotEnded = TimeWait
time_wait_phase other = Closed

-- A RECORD CAN TAKE THE PLACE of an end in TIME-WAIT where nothing is unread or kept out of order, and all that was sent is
-- acknowledged
abbrev pub has_time_wait : State → Bool
has_time_wait s =
    (is_time_wait s.phase && not (is_ended s.ending)) && ((length s.receiving.inbox.unread == 0) && not (has_gap s))
    && ((s.sending.snd_una == s.sending.snd_nxt) && not s.pending.syn)

abbrev pub time_wait_of : State → TimeWaitRecord
time_wait_of s = record {
  addr = s.config.addr;
  port = s.config.port;
  peer = s.peer;
  snd_nxt = number s.config.isn.0 s.sending.snd_nxt;
  rcv_nxt = s.receiving.rcv_nxt;
  window = window s.receiving.inbox;
  shift = own_shift s.config s.link;
  ack = s.pending.ack;
  reset = s.pending.reset;
  ending = s.ending;
}

-- THE RECORD FIELD BY FIELD, each of any value: which fields make a record, with a window and a shift that an end may have
-- (RFC 7323, 2.3), and the record then
abbrev pub can_be_kept : TimeWaitFields → Bool
can_be_kept f = nat_le f.window max_capacity && nat_le f.shift max_shift

abbrev pub kept_of : TimeWaitFields → TimeWaitRecord
kept_of f = record {
  addr = f.addr;
  port = f.port;
  peer = f.peer;
  snd_nxt = f.snd_nxt.0;
  rcv_nxt = f.rcv_nxt.0;
  window = f.window;
  shift = f.shift;
  ack = f.ack;
  reset = f.reset;
  ending = f.ending;
}

-- THE END OF A RECORD: nothing queued, in flight, unread or out of order, this end's positions counted from SND.NXT
abbrev pub as_state : TimeWaitRecord → State
as_state r = record {
  config = record (default_config r.addr r.port (record { 0 = r.snd_nxt })) { window_shift = Some r.shift };
  phase = time_wait_phase r.ending;
  ending = r.ending;
  closing = true;
  peer = r.peer;
  link = record new_link { scaling = true };
  sending = new_sending 0;
  receiving = record (new_receiving r.window) { opened = true; rcv_nxt = r.rcv_nxt; finished = true };
  pending = record nothing_pending { ack = r.ack; reset = r.reset };
}

-- THE EFFECT OF A JUDGEMENT on the record: an end in TIME-WAIT meets no other that has one
abbrev pub time_wait_after_judgement : Judgement → TimeWaitRecord → List ℕ → Content → TimeWaitRecord
time_wait_after_judgement judgements.Stray r src v = record r { reset = first_reset r.reset (reset_of_stray src v) }
time_wait_after_judgement judgements.PeerResets r src v = record r { ending = Reset; ack = false }
time_wait_after_judgement judgements.Unacceptable r src v = record r { ack = true }
time_wait_after_judgement judgements.ResetElsewhere r src v = record r { ack = true }
time_wait_after_judgement judgements.SynInWindow r src v = record r { ack = true }
time_wait_after_judgement judgements.AcksUnsent r src v = record r { ack = true }
time_wait_after_judgement judgements.TakenShut r src v = record r { ack = true }
time_wait_after_judgement other r src v = r

-- AN EVENT of an end in TIME-WAIT: bytes arrive from an address at another, a timer expires, what is due is written into a
-- buffer, the user aborts
pub data Event : Type 0 where
  Arrives : List ℕ → List ℕ → List ℕ → Event
  RunsOut : Timer → Event
  Emits : List ℕ → Event
  Aborts : Event

abbrev pub after_event : State → Event → State
after_event s (Arrives src dst bytes) = after_arrival s src dst bytes
after_event s (RunsOut timer) = after_timer s timer
after_event s (Emits out) = after_emission s
after_event s Aborts = after_abort s

-- the answer to an event; of an emission, whom it goes to and what the buffer contains then
pub data Answer : Type 0 where
  Arrived : Arrival → Answer
  Applied : Bool → Answer
  Emitted : Option (List ℕ) → List ℕ → Answer
  Aborted : Result (Unit {0}) CallError → Answer

abbrev pub answer_to : State → Event → Answer
answer_to s (Arrives src dst bytes) = Arrived (arrival_answer s src dst bytes)
answer_to s (RunsOut timer) = Applied (timer_answer s timer)
answer_to s (Emits out) = Emitted (destination s) (buffer_after s out)
answer_to s Aborts = Aborted (abort_answer s)

-- what is observed of an end at an event
pub record Seen : Type 0 where
  pub phase : Phase
  pub ending : Ending
  pub pending : Option ℕ
  pub answer : Answer

abbrev pub seen_at : State → Event → Seen
seen_at s event = record { phase = s.phase; ending = s.ending; pending = pending_length s; answer = answer_to s event }

-- of an end, and of the record in its place, which behaves as the end of that record
abbrev pub seen_of_end : State → List Event → List Seen
seen_of_end s [] = []
seen_of_end s (event ∷ events) = seen_at s event ∷ seen_of_end (after_event s event) events

abbrev pub seen_of_time_wait : TimeWaitRecord → List Event → List Seen
seen_of_time_wait r [] = []
seen_of_time_wait r (event ∷ events) = seen_at (as_state r) event ∷ seen_of_time_wait (time_wait_of (after_event (as_state r) event)) events

-- NO DIFFERENCE IS OBSERVED between the two, whatever happens and however often
abbrev pub TimeWaitIsTheEnd : Type 0
TimeWaitIsTheEnd =
    (s : State) (events : List Event) → s.config.isn.0 < 2 ^ 32 → has_time_wait s ≡ true
    → seen_of_time_wait (time_wait_of s) events ≡ seen_of_end s events
