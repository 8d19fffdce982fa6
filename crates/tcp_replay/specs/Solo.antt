-- One end, what its user did and got, and the outcome of each event: the fold of calls, timers, emissions and arrivals (RFC
-- 9293, 3.10), whoever its peer is.
use Rattle.std.specs.Prelude.{ℕ, Bool, false, ◌||◌, is_ok, List, [], ◌∷◌, ◌++◌, length, map, Vec, Option, None, Ok, option_to_list, option_map, ◌≡◌, ◌<◌}
use Rattle.tcp_numbers.specs.declared.addr.Addr.{Addr}
use Rattle.tcp_halves.specs.declared.config.Config.{Config}
use Rattle.tcp_halves.specs.Config.{IsGoodConfig}
use Rattle.tcp_conn.specs.State.{State}
use Rattle.tcp_conn.specs.NewEnd.{end_with_runs}
use Rattle.tcp_reasm.specs.Reassembly.{default_runs}
use Rattle.tcp_conn.specs.Calls.{opening_answer, after_connect, after_listen, send_answer, after_send, receive_answer, after_receive, received_bytes, close_answer, after_close, abort_answer, after_abort, after_acknowledge}
use Rattle.tcp_conn.specs.Timers.{timer_answer, after_timer, sends_again, resends_between, after_resend_first, after_resend}
use Rattle.tcp_conn.specs.Due.{due_of, ack_alone}
use Rattle.tcp_conn.specs.Emission.{after_emission, after_ack_alone}
use Rattle.tcp_conn.specs.Arrival.{arrival_answer, after_arrival}
use Rattle.tcp_replay.specs.declared.outcome.Outcome.{Outcome}
use Rattle.tcp_replay.specs.declared.outcome.Outcome.TheVariants as outcomes
use Rattle.tcp_replay.specs.declared.outcome.SoloError.{SoloError}
use Rattle.tcp_replay.specs.declared.outcome.SoloError.TheVariants as solos
use Rattle.tcp_replay.specs.declared.outcome.StepError.TheVariants.{NoMemory}
use Rattle.tcp_replay.specs.declared.solo_log.SoloLog.{SoloLog}
use Rattle.tcp_replay.specs.SoloEvents.{SoloContent, Connect, Listen, Send, Receive, Close, Abort, Acknowledge, Timer, Emit, EmitAcknowledgement, ResendFirst, Resend, Arrive}
use Rattle.tcp_replay.specs.Emissions.{segment_as}
use Rattle.tcp_replay.specs.World.{front_taken, is_end_of_stream}

pub record SoloState : Type 0 where
  pub endpoint : State
  -- what `send` accepted, and what `receive` delivered
  pub accepted : List ℕ
  pub delivered : List ℕ
  -- a `close` was accepted; the end of the stream was delivered
  pub closed : Bool
  pub ended : Bool
  -- the address that each emitted segment goes to, and its bytes
  pub emitted : List (List ℕ × List ℕ)
  -- the outcome of each event
  pub outcomes : List Outcome

-- a new end that keeps at most this many runs out of order, and remembers as many of its peer's (RFC 2018, 5)
abbrev pub solo_with_runs : Config → ℕ → SoloState
solo_with_runs c runs = record { endpoint = end_with_runs c runs; accepted = []; delivered = []; closed = false; ended = false; emitted = []; outcomes = [] }

abbrev pub solo_start : Config → SoloState
solo_start c = solo_with_runs c default_runs

-- THE END after an event
abbrev pub end_after : State → SoloContent → State
end_after s (Connect addr port) = after_connect s (record { addr = record { 0 = addr }; port = port })
end_after s Listen = after_listen s
end_after s (Send text) = after_send s text
end_after s (Receive room) = after_receive s room
end_after s Close = after_close s
end_after s Abort = after_abort s
end_after s Acknowledge = after_acknowledge s
end_after s (Timer which) = after_timer s which
end_after s Emit = after_emission s
end_after s EmitAcknowledgement = after_ack_alone s
end_after s ResendFirst = after_resend_first s
end_after s (Resend from to) = after_resend s from to
end_after s (Arrive src dst bytes) = after_arrival s src dst bytes

-- the bytes that an event's `send` accepts, and that its `receive` delivers
abbrev pub bytes_taken : State → SoloContent → List ℕ
bytes_taken s (Send text) = front_taken (send_answer s text) text
bytes_taken s other = []

abbrev pub bytes_put_out : State → SoloContent → List ℕ
bytes_put_out s (Receive room) = received_bytes s room
bytes_put_out s other = []

-- it is a `close` that is accepted; a `receive` that delivers the end of the stream
abbrev pub is_close : State → SoloContent → Bool
is_close s Close = is_ok (close_answer s)
is_close s other = false

abbrev pub delivers_end : State → SoloContent → Bool
delivers_end s (Receive room) = is_end_of_stream (receive_answer s room)
delivers_end s other = false

-- the segment that is due: its destination, and its bytes
unfoldable pub segment_due : State → Option (List ℕ × List ℕ)
segment_due s = segment_as s (due_of s)

-- that of the acknowledgement alone
unfoldable pub segment_alone : State → Option (List ℕ × List ℕ)
segment_alone s = segment_as s (ack_alone s)

abbrev pub segment_emitted : State → SoloContent → Option (List ℕ × List ℕ)
segment_emitted s Emit = segment_due s
segment_emitted s EmitAcknowledgement = segment_alone s
segment_emitted s other = None

-- the outcome of an event where this many segments were emitted before
abbrev pub solo_outcome : State → ℕ → SoloContent → Outcome
solo_outcome s count (Connect addr port) = outcomes.Call (opening_answer s)
solo_outcome s count Listen = outcomes.Call (opening_answer s)
solo_outcome s count (Send text) = outcomes.Sent (send_answer s text)
solo_outcome s count (Receive room) = outcomes.Got (receive_answer s room)
solo_outcome s count Close = outcomes.Call (close_answer s)
solo_outcome s count Abort = outcomes.Call (abort_answer s)
solo_outcome s count Acknowledge = outcomes.Call (Ok tt)
solo_outcome s count (Timer which) = outcomes.Timer (timer_answer s which)
solo_outcome s count Emit = outcomes.Emitted (option_map (λ _. count) (segment_due s))
solo_outcome s count EmitAcknowledgement = outcomes.Emitted (option_map (λ _. count) (segment_alone s))
solo_outcome s count ResendFirst = outcomes.Timer (sends_again s)
solo_outcome s count (Resend from to) = outcomes.Timer (resends_between s from to)
solo_outcome s count (Arrive src dst bytes) = outcomes.Arrived (arrival_answer s src dst bytes)

-- ONE EVENT, whether its call is refused or not
abbrev pub after_solo : SoloState → SoloContent → SoloState
after_solo x e = record {
  endpoint = end_after x.endpoint e;
  accepted = x.accepted ++ bytes_taken x.endpoint e;
  delivered = x.delivered ++ bytes_put_out x.endpoint e;
  closed = x.closed || is_close x.endpoint e;
  ended = x.ended || delivers_end x.endpoint e;
  emitted = x.emitted ++ option_to_list (segment_emitted x.endpoint e);
  outcomes = x.outcomes ++ solo_outcome x.endpoint (length x.emitted) e ∷ [];
}

-- ALL EVENTS of a list, in order
unfoldable pub solo_run : SoloState → List SoloContent → SoloState
solo_run x [] = x
solo_run x (event ∷ events) = solo_run (after_solo x event) events

-- one end from its Config on, and the number of runs that it keeps
abbrev pub alone_with_runs : Config → ℕ → List SoloContent → SoloState
alone_with_runs c runs list = solo_run (solo_with_runs c runs) list

abbrev pub run_alone : Config → List SoloContent → SoloState
run_alone c list = alone_with_runs c default_runs list

-- ---- what the code returns

-- addresses and bytes of the segments in a list of the code
abbrev pub segments : {A : Type 0} → List (Addr × Vec ℕ A) → List (List ℕ × List ℕ)
segments sent = map (λ segment. (segment.0.0, segment.1.items)) sent

-- THE LOG of a run
pub record IsLogOf {A : Type 0} (log : SoloLog A) (x : SoloState) : Type 0 where
  pub accepted : log.accepted.items ≡ x.accepted
  pub delivered : log.delivered.items ≡ x.delivered
  pub emitted : segments log.emitted.items ≡ x.emitted
  pub outcomes : log.outcomes.items ≡ x.outcomes
  pub ended : log.ended ≡ x.ended
  pub endpoint : log.endpoint ≡ x.endpoint

-- A FAULT is of the Config, or names an event of the list for which there was no memory: each event makes the log grow, by
-- its outcome
abbrev pub IsWantOfMemory : Config → ℕ → SoloError → Type 0
IsWantOfMemory c count (solos.Config fault) = Unit {0}
IsWantOfMemory c count (solos.At index error) = IsGoodConfig c × (index < count) × (error ≡ NoMemory)
