-- The outcome of an event.
use Rattle.std.specs.Prelude.{ℕ, Bool, true, false, List, ◌++◌, drop, codes, decimal, Option, Some, None, Result, Ok, Err}
use Rattle.tcp_wire.specs.declared.fault.DecodeError.{DecodeError}
use Rattle.tcp_wire.specs.Wire.{Content}
use Rattle.tcp_wire.specs.Decoded.{decode_answer}
use Rattle.tcp_conn.specs.declared.outcome.CallError.{CallError}
use Rattle.tcp_conn.specs.declared.phase.Phase.{Phase}
use Rattle.tcp_conn.specs.Outcome.{call_error_number}
use Rattle.tcp_replay.specs.declared.event.Side.{Side}
use Rattle.tcp_replay.specs.declared.outcome.Outcome.{Outcome}
use Rattle.tcp_replay.specs.declared.outcome.Outcome.TheVariants as outcomes
use Rattle.tcp_replay.specs.declared.outcome.StepError.{StepError}
use Rattle.tcp_replay.specs.Refusals.{step_error_number}
use Rattle.tcp_replay.specs.World.{WorldState, party_of, other, segment_at}
use Rattle.tcp_conn.specs.Names.{phase_name}
use Rattle.kit_report.specs.Answers.{refused_text, send_text, receive_text, segment_text, arrival_text}
use Rattle.kit_report.specs.Names.{yes_or_no}

-- CALLS: with the phase that the side is in then
abbrev pub call_text : Result (Unit {0}) CallError → Phase → List ℕ
call_text (Ok done) phase = codes "ok " ++ phase_name phase
call_text (Err e) phase = refused_text (call_error_number e)

-- EMISSIONS: segment k of a side, between the true addresses
abbrev pub address_of_side : WorldState → Side → List ℕ
address_of_side w side = (party_of w side).endpoint.config.addr.0

abbrev pub meaning_of_segment : WorldState → Side → ℕ → Result Content DecodeError
meaning_of_segment w side k = decode_answer (address_of_side w side) (address_of_side w (other side)) (segment_at (party_of w side) k)

abbrev pub emission_text : WorldState → Side → Option ℕ → List ℕ
emission_text w side None = codes "none"
emission_text w side (Some k) = decimal k ++ (codes " " ++ segment_text (meaning_of_segment w side k))

-- AN OUTCOME, by the world after the event, the side that the event names, and how many bytes were delivered to that side
-- before it
unfoldable pub outcome_text : WorldState → Side → ℕ → Outcome → List ℕ
outcome_text w side had (outcomes.Call answer) = call_text answer (party_of w side).endpoint.phase
outcome_text w side had (outcomes.Sent answer) = send_text answer
outcome_text w side had (outcomes.Got answer) = receive_text answer (drop had (party_of w side).delivered)
outcome_text w side had (outcomes.Timer applied) = yes_or_no applied
outcome_text w side had (outcomes.Emitted k) = emission_text w side k
outcome_text w side had (outcomes.Arrived arrival) =
    arrival_text arrival ++ (codes " " ++ phase_name (party_of w (other side)).endpoint.phase)

abbrev pub answer_text : WorldState → Side → ℕ → Result Outcome StepError → List ℕ
answer_text w side had (Ok outcome) = outcome_text w side had outcome
answer_text w side had (Err e) = refused_text (step_error_number e)

-- whether a call or a step was refused
abbrev pub is_refused : Result Outcome StepError → Bool
is_refused (Ok (outcomes.Call (Err e))) = true
is_refused (Ok (outcomes.Sent (Err e))) = true
is_refused (Ok (outcomes.Got (Err e))) = true
is_refused (Ok outcome) = false
is_refused (Err e) = true
