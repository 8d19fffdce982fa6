-- TWO ENDS WITH THEIR TIMES, and what each call of theirs does (RFC 9293, 3.10): each clause of a driver's contract, for both.
use Rattle.std.specs.Prelude.{◌≡◌, ℕ, ◌<◌, ◌≤◌, Bool, false, ◌||◌, is_ok, List, [], ◌∷◌, ◌++◌, length, take, Option, Some, None, IfSome, option_to_list, option_map, Result, Ok}
use Rattle.tcp_wire.specs.Checksum.{AreBytes}
use Rattle.tcp_timing.specs.declared.rules.Rules.{Rules}
use Rattle.tcp_driver.specs.declared.limits.Limits.{Limits}
use Rattle.tcp_driver.specs.declared.machine.Sent.{Sent}
use Rattle.tcp_driver.specs.Driver.{Driving, sent_of, written_of}
use Rattle.tcp_driver.specs.Calls as calls
use Rattle.tcp_driver.specs.Calls.{Call, after_call}
use Rattle.tcp_halves.specs.declared.config.Config.{Config}
use Rattle.tcp_halves.specs.declared.link.Peer.{Peer}
use Rattle.tcp_conn.specs.declared.outcome.CallError.{CallError}
use Rattle.tcp_conn.specs.declared.outcome.Received.{Received}
use Rattle.tcp_conn.specs.declared.outcome.Received.TheVariants.{Bytes}
use Rattle.tcp_conn.specs.Calls.{close_answer, receive_answer, send_answer}
use Rattle.tcp_reasm.specs.Reassembly.{default_runs}
use Rattle.tcp_conn.specs.NewEnd.{end_with_runs}
use Rattle.tcp_conn.specs.State.{State}
use Rattle.tcp_end.specs.declared.wired.Wired.{Wired}
use Rattle.tcp_end.specs.Wired.{connected, listening, machine}
use Rattle.tcp_replay.specs.declared.event.Side.{Side}
use Rattle.tcp_replay.specs.declared.event.Side.TheVariants.{A, B}
use Rattle.tcp_replay.specs.declared.outcome.StepError.{StepError}
use Rattle.tcp_progress.specs.Settled.{least_life}
use Rattle.tcp_replay.specs.World.{PartyState, SentSegment, WorldState, both, bytes_with_damage, damage_refusal, delivery_refusal, front_taken, is_end_of_stream, other, segment_at, sent_by}

-- one end with its times, what its user did and got, and every segment that it emitted
pub record Member (H : Type 0) : Type 0 where
  pub driving : Driving (Wired H)
  pub sent : List SentSegment
  pub accepted : List ℕ
  pub delivered : List ℕ
  pub closed : Bool
  pub ended : Bool

-- two of them, and how long segments live, in positions
pub record Pair (H : Type 0) : Type 0 where
  pub life : ℕ
  pub a : Member H
  pub b : Member H

abbrev pub pair_of : {H : Type 0} → ℕ → Member H → Member H → Pair H
pair_of life a b = record { life = life; a = a; b = b }

-- THE END INSIDE, and the world of both ends inside
abbrev pub end_of : {H : Type 0} → Member H → State
end_of m = m.driving.core.end

abbrev pub party_in : {H : Type 0} → Member H → PartyState
party_in m = record { endpoint = end_of m; sent = m.sent; accepted = m.accepted; delivered = m.delivered; closed = m.closed; ended = m.ended }

abbrev pub world_in : {H : Type 0} → Pair H → WorldState
world_in p = both p.life (party_in p.a) (party_in p.b)

-- ---- THE CALLS, each at a time; an arrival names the side that emitted the segment, and which one it was
pub data PairCall : Type 0 where
  Arrives : Side → ℕ → ℕ → PairCall
  ArrivesDamaged : Side → ℕ → ℕ → ℕ → ℕ → PairCall
  Emits : Side → ℕ → ℕ → List ℕ → PairCall
  Expires : Side → ℕ → PairCall
  Sends : Side → ℕ → List ℕ → PairCall
  Receives : Side → ℕ → List ℕ → PairCall
  Acknowledges : Side → ℕ → PairCall
  Closes : Side → ℕ → PairCall
  Aborts : Side → ℕ → PairCall
  ResendsFirst : Side → ℕ → PairCall
  Resends : Side → ℕ → ℕ → ℕ → PairCall
  SetsUserTimeout : Side → Option ℕ → PairCall
  SetsPatience : Side → Bool → PairCall

-- what is sent, and what a byte is changed by, are bytes
abbrev pub CallHasBytes : PairCall → Type 0
CallHasBytes (Sends side now text) = AreBytes text
CallHasBytes (ArrivesDamaged from k place value now) = value < 256
CallHasBytes other = Unit {0}

-- ---- WHAT A CALL DOES to one of them: what the driver's contract says of it
abbrev pub drives : {H : Type 0} → Member H → Call (Wired H) → Driving (Wired H)
drives m call = after_call machine m.driving call

-- AN ARRIVAL, with the true addresses, past the guard
abbrev pub member_after_arrival : {H : Type 0} → Member H → Member H → ℕ → List ℕ → Member H
member_after_arrival m from now bytes = record m {
  driving = drives m (calls.Arrives now (end_of from).config.addr.0 (end_of m).config.addr.0 bytes false);
}

-- AN EMISSION into a buffer: the segment is what the buffer begins with, as long as is reported
abbrev pub segment_out : {H : Type 0} → Member H → ℕ → List ℕ → Sent → SentSegment
segment_out m window out sent = sent_by (end_of m) (take sent.len (written_of machine m.driving.core window out))

unfoldable pub member_after_emission : {H : Type 0} → Member H → ℕ → ℕ → List ℕ → Member H
member_after_emission m now window out = record m {
  driving = drives m (calls.Emits now window);
  sent = m.sent ++ option_to_list (option_map (segment_out m window out) (sent_of machine m.driving.core window));
}

abbrev pub member_after_time : {H : Type 0} → Member H → ℕ → Member H
member_after_time m now = record m { driving = drives m (calls.Expires now) }

abbrev pub member_after_send : {H : Type 0} → Member H → ℕ → List ℕ → Member H
member_after_send {H = H} m now text = record m {
  driving = drives m (calls.Uses now (λ w. (machine {A = H}).sent w text));
  accepted = m.accepted ++ front_taken (send_answer (end_of m) text) text;
}

-- A READ into a buffer: what is delivered is what the buffer begins with, as much as is answered
abbrev pub count_delivered : Result Received CallError → ℕ
count_delivered (Ok (Bytes count)) = count
count_delivered other = 0

abbrev pub member_after_receive : {H : Type 0} → Member H → ℕ → List ℕ → Member H
member_after_receive {H = H} m now out = record m {
  driving = drives m (calls.Uses now (λ w. (machine {A = H}).received w (length out)));
  delivered = m.delivered ++ take (count_delivered (receive_answer (end_of m) (length out))) ((machine {A = H}).read m.driving.core out);
  ended = m.ended || is_end_of_stream (receive_answer (end_of m) (length out));
}

abbrev pub member_after_acknowledge : {H : Type 0} → Member H → ℕ → Member H
member_after_acknowledge {H = H} m now = record m { driving = drives m (calls.Uses now (λ w. (machine {A = H}).acknowledged w)) }

abbrev pub member_after_close : {H : Type 0} → Member H → ℕ → Member H
member_after_close {H = H} m now = record m {
  driving = drives m (calls.Uses now (λ w. (machine {A = H}).closed w));
  closed = m.closed || is_ok (close_answer (end_of m));
}

abbrev pub member_after_abort : {H : Type 0} → Member H → ℕ → Member H
member_after_abort {H = H} m now = record m { driving = drives m (calls.Uses now (λ w. (machine {A = H}).aborted w)) }

abbrev pub member_after_resend_first : {H : Type 0} → Member H → ℕ → Member H
member_after_resend_first {H = H} m now = record m { driving = drives m (calls.Uses now (λ w. (machine {A = H}).first_resent w)) }

abbrev pub member_after_resend : {H : Type 0} → Member H → ℕ → ℕ → ℕ → Member H
member_after_resend {H = H} m now from to = record m { driving = drives m (calls.Uses now (λ w. (machine {A = H}).resent w from to)) }

abbrev pub member_after_user_timeout : {H : Type 0} → Member H → Option ℕ → Member H
member_after_user_timeout m limit = record m { driving = drives m (calls.SetsUserTimeout limit) }

abbrev pub member_after_patience : {H : Type 0} → Member H → Bool → Member H
member_after_patience m patient = record m { driving = drives m (calls.SetsPatience patient) }

-- ---- WHAT IT DOES to both
abbrev pub member_of : {H : Type 0} → Pair H → Side → Member H
member_of p A = p.a
member_of p B = p.b

-- one of them is different
abbrev pub with_member : {H : Type 0} → Pair H → Side → Member H → Pair H
with_member p A m = pair_of p.life m p.b
with_member p B m = pair_of p.life p.a m

-- THE NETWORK brings what was emitted and hasn't outlived its lifetime, as in a world
abbrev pub unless_refused : {H : Type 0} → Option StepError → Pair H → Pair H → Pair H
unless_refused (Some error) here there = here
unless_refused None here there = there

-- bytes come from one side, at a time, unless the network refuses
abbrev pub pair_after_arrival : {H : Type 0} → Pair H → Side → ℕ → List ℕ → Option StepError → Pair H
pair_after_arrival p from now bytes refusal =
    unless_refused refusal p (with_member p (other from) (member_after_arrival (member_of p (other from)) (member_of p from) now bytes))

abbrev pub segment_in : {H : Type 0} → Pair H → Side → ℕ → List ℕ
segment_in p from k = segment_at (party_in (member_of p from)) k

abbrev pub refusal_in : {H : Type 0} → Pair H → Side → ℕ → Option StepError
refusal_in p from k = delivery_refusal p.life (party_in (member_of p from)) (party_in (member_of p (other from))) k

abbrev pub damage_refusal_in : {H : Type 0} → Pair H → Side → ℕ → ℕ → ℕ → Option StepError
damage_refusal_in p from k place value = damage_refusal p.life (party_in (member_of p from)) (party_in (member_of p (other from))) k place value

unfoldable pub pair_after : {H : Type 0} → Pair H → PairCall → Pair H
pair_after p (Arrives from k now) = pair_after_arrival p from now (segment_in p from k) (refusal_in p from k)
pair_after p (ArrivesDamaged from k place value now) =
    pair_after_arrival p from now (bytes_with_damage (segment_in p from k) place value) (damage_refusal_in p from k place value)
pair_after p (Emits side now window out) = with_member p side (member_after_emission (member_of p side) now window out)
pair_after p (Expires side now) = with_member p side (member_after_time (member_of p side) now)
pair_after p (Sends side now text) = with_member p side (member_after_send (member_of p side) now text)
pair_after p (Receives side now out) = with_member p side (member_after_receive (member_of p side) now out)
pair_after p (Acknowledges side now) = with_member p side (member_after_acknowledge (member_of p side) now)
pair_after p (Closes side now) = with_member p side (member_after_close (member_of p side) now)
pair_after p (Aborts side now) = with_member p side (member_after_abort (member_of p side) now)
pair_after p (ResendsFirst side now) = with_member p side (member_after_resend_first (member_of p side) now)
pair_after p (Resends side now from to) = with_member p side (member_after_resend (member_of p side) now from to)
pair_after p (SetsUserTimeout side limit) = with_member p side (member_after_user_timeout (member_of p side) limit)
pair_after p (SetsPatience side patient) = with_member p side (member_after_patience (member_of p side) patient)

unfoldable pub pair_after_all : {H : Type 0} → Pair H → List PairCall → Pair H
pair_after_all p [] = p
pair_after_all p (call ∷ list) = pair_after_all (pair_after p call) list

-- ---- HOW BOTH BEGIN: each end was opened, at a time of its own, and nothing has happened since
abbrev pub peer_at : Config → Peer
peer_at c = record { addr = c.addr; port = c.port }

abbrev pub new_member : {H : Type 0} → Driving (Wired H) → Member H
new_member d = record { driving = d; sent = []; accepted = []; delivered = []; closed = false; ended = false }

pub data Opening : Type 0 where
  Connects : Rules → Limits → ℕ → Opening
  Listens : Rules → Limits → ℕ → Opening

-- an end that keeps at most this many runs out of order, and remembers as many of its peer's
abbrev pub opened_with_runs : {H : Type 0} → Config → ℕ → Peer → Opening → Result (Driving (Wired H)) CallError
opened_with_runs c runs peer (Connects rules limits now) = connected (end_with_runs c runs) peer rules limits now
opened_with_runs c runs peer (Listens rules limits now) = listening (end_with_runs c runs) rules limits now

abbrev pub opened : {H : Type 0} → Config → Peer → Opening → Result (Driving (Wired H)) CallError
opened c peer opening = opened_with_runs c default_runs peer opening

-- ---- A GUARD LETS IN WHAT LIVES (RFC 5961, 5.2) that reaches as far as segments live, for `least_life` positions or longer; and so
-- does none
abbrev pub LetsLive : ℕ → Option ℕ → Type 0
LetsLive life guard = IfSome guard (λ reach. (least_life ≤ life) × (life ≤ reach))

-- how far the guard of an end reaches, and of one that is opened
abbrev pub guard_of : {H : Type 0} → Member H → Option ℕ
guard_of m = m.driving.times.limits.guard

abbrev pub guard_in : Opening → Option ℕ
guard_in (Connects rules limits now) = limits.guard
guard_in (Listens rules limits now) = limits.guard

-- neither has one
abbrev pub HasNoGuards : {H : Type 0} → Pair H → Type 0
HasNoGuards p = (side : Side) → guard_of (member_of p side) ≡ None
