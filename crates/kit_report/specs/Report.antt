-- The content of a report: a function from a script.
use Rattle.std.specs.Prelude.{ℕ, zero, suc, ◌+◌, ◌-◌, ◌^◌, ◌==◌, ◌&&◌, min, Bool, true, if◌then◌else◌, Option, Some, None, List, [], ◌∷◌, ◌++◌, length, codes, decimal}
use Rattle.tcp_replay.specs.declared.event.Side.{Side}
use Rattle.tcp_replay.specs.declared.event.Side.TheVariants.{A, B}
use Rattle.tcp_replay.specs.Events.{EventContent, Send, Deliver, Damage, side_of}
use Rattle.tcp_replay.specs.World.{PartyState, WorldState, world_with_runs, party_of, step_answer, world_after, world_after_all}
use Rattle.tcp_replay.specs.Names.{side_name}
use Rattle.kit_script.specs.Script.{TurnContent, ScriptContent}
use Rattle.tcp_conn.specs.Names.{phase_name, ending_name}
use Rattle.kit_report.specs.Names.{yes_or_no}
use Rattle.kit_report.specs.Events.{event_text}
use Rattle.kit_report.specs.Outcomes.{answer_text, is_refused}

-- ONE EVENT, with its number: the event, and its outcome
abbrev pub outcome_text_at : WorldState → EventContent → List ℕ
outcome_text_at w e =
    answer_text (world_after w e) (side_of e) (length (party_of w (side_of e)).delivered) (step_answer w e)

unfoldable pub event_line : ℕ → WorldState → EventContent → List ℕ
event_line n w e = decimal n ++ (codes " " ++ (event_text e ++ (codes " " ++ (outcome_text_at w e ++ (10 ∷ [])))))

-- THE TURNS of an event that is repeated: the number of a segment that it names grows by 1 each turn, up to the greatest
-- number of 64 bits
abbrev pub number_in_turn : ℕ → ℕ → ℕ
number_in_turn k i = min (k + i) (2 ^ 64 - 1)

abbrev pub event_in_turn : EventContent → ℕ → EventContent
event_in_turn (Deliver from k) i = Deliver from (number_in_turn k i)
event_in_turn (Damage from k place value) i = Damage from (number_in_turn k i) place value
event_in_turn other i = other

-- this many turns, the first of them this one
unfoldable pub turns_from : EventContent → ℕ → ℕ → List EventContent
turns_from e i zero = []
turns_from e i (suc n) = event_in_turn e i ∷ turns_from e (i + 1) n

abbrev pub events_in_turns : EventContent → Option ℕ → List EventContent
events_in_turns e None = e ∷ []
events_in_turns e (Some times) = turns_from e 0 times

abbrev pub events_of : TurnContent → List EventContent
events_of t = events_in_turns t.event t.times

-- how many of them are refused; those after a refused one are applied too
unfoldable pub refusals : WorldState → List EventContent → ℕ
refusals w [] = 0
refusals w (e ∷ es) = (if is_refused (step_answer w e) then 1 else 0) + refusals (world_after w e) es

-- A REPEAT in one line: how many bytes `send` accepted in all its turns, or how many turns weren't refused; and how many were
abbrev pub count_text : ℕ → WorldState → EventContent → ℕ → ℕ → List ℕ
count_text accepted w (Send side bytes) times refused = codes "took " ++ decimal (length (party_of w side).accepted - accepted)
count_text accepted w other times refused = codes "done " ++ decimal (times - refused)

unfoldable pub repeat_text : WorldState → ℕ → EventContent → List ℕ
repeat_text w times e =
    codes "repeat " ++ (decimal times ++ (codes " " ++ (event_text e ++ (codes " "
    ++ (count_text (length (party_of w (side_of e)).accepted) (world_after_all w (turns_from e 0 times)) e times (refusals w (turns_from e 0 times))
    ++ (codes " refused " ++ decimal (refusals w (turns_from e 0 times))))))))

unfoldable pub repeat_line : ℕ → WorldState → ℕ → EventContent → List ℕ
repeat_line n w times e = decimal n ++ (codes " " ++ (repeat_text w times e ++ (10 ∷ [])))

-- an event with the script's number of turns
abbrev pub turn_line_by : ℕ → WorldState → EventContent → Option ℕ → List ℕ
turn_line_by n w e None = event_line n w e
turn_line_by n w e (Some times) = repeat_line n w times e

abbrev pub turn_line : ℕ → WorldState → TurnContent → List ℕ
turn_line n w t = turn_line_by n w t.event t.times

abbrev pub world_after_turn : WorldState → TurnContent → WorldState
world_after_turn w t = world_after_all w (events_of t)

unfoldable pub world_after_turns : WorldState → List TurnContent → WorldState
world_after_turns w [] = w
world_after_turns w (t ∷ ts) = world_after_turns (world_after_turn w t) ts

-- ALL EVENTS in order, refused ones too: their lines, the first with this number; whether no turn was refused
unfoldable pub event_lines : ℕ → WorldState → List TurnContent → List ℕ
event_lines n w [] = []
event_lines n w (t ∷ ts) = turn_line n w t ++ event_lines (n + 1) (world_after_turn w t) ts

unfoldable pub is_well : WorldState → List TurnContent → Bool
is_well w [] = true
is_well w (t ∷ ts) = refusals w (events_of t) == 0 && is_well (world_after_turn w t) ts

-- THE LAST LINES, one for each side
unfoldable pub counts_text : PartyState → List ℕ
counts_text p =
    codes " accepted " ++ (decimal (length p.accepted) ++ (codes " delivered " ++ (decimal (length p.delivered)
    ++ (codes " released " ++ (decimal p.endpoint.sending.released
    ++ (codes " ordered " ++ (decimal p.endpoint.receiving.ordered
    ++ (codes " sent " ++ (decimal (length p.sent) ++ (codes " ended " ++ yes_or_no p.ended))))))))))

unfoldable pub end_line : Side → PartyState → List ℕ
end_line side p =
    codes "end " ++ (side_name side ++ (codes " " ++ (phase_name p.endpoint.phase
    ++ (codes " " ++ (ending_name p.endpoint.ending ++ (counts_text p ++ (10 ∷ [])))))))

abbrev pub end_lines : WorldState → List ℕ
end_lines w = end_line A w.a ++ end_line B w.b

-- THE REPORT
abbrev pub first_world : ScriptContent → WorldState
first_world s = world_with_runs s.life s.a s.b s.runs_a s.runs_b

unfoldable pub report_text : ScriptContent → List ℕ
report_text s = event_lines 1 (first_world s) s.events ++ end_lines (world_after_turns (first_world s) s.events)

-- and whether nothing was refused
unfoldable pub report_is_well : ScriptContent → Bool
report_is_well s = is_well (first_world s) s.events
