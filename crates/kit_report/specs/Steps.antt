-- The states of both ends after each event, and the meaning of a segment of a run.
use Rattle.std.specs.Prelude.{ℕ, zero, suc, ◌+◌, List, [], ◌∷◌, ◌++◌, length, slice_get, codes, decimal, Option, option_map}
use Rattle.std.specs.Option.{option_map_or}
use Rattle.tcp_sendq.specs.SendQueue.{Queue, next_unmarked}
use Rattle.tcp_reasm.specs.Reassembly.{blocks, window}
use Rattle.tcp_wire.specs.Decoded.{decode_answer}
use Rattle.tcp_conn.specs.State.{State}
use Rattle.tcp_conn.specs.Status.{queued_of, in_flight_of}
use Rattle.tcp_conn.specs.Names.{phase_name, ending_name}
use Rattle.tcp_replay.specs.declared.event.Side.{Side}
use Rattle.tcp_replay.specs.declared.event.Side.TheVariants.{A, B}
use Rattle.tcp_replay.specs.Names.{side_name}
use Rattle.tcp_replay.specs.World.{PartyState, WorldState, party_of, other}
use Rattle.kit_text.specs.Texts.{blocks_text}
use Rattle.kit_text.specs.Segments.{meaning_text}
use Rattle.kit_script.specs.Script.{TurnContent, ScriptContent}
use Rattle.kit_report.specs.Outcomes.{address_of_side}
use Rattle.kit_report.specs.Report.{turn_line, world_after_turn, world_after_turns, counts_text, first_world}

-- THE UNMARKED RUNS of a queue from an offset on, at most this many: the bytes that the peer hasn't reported as received (RFC
-- 2018, 5)
unfoldable pub unmarked_runs : ℕ → Queue → ℕ → List (ℕ × ℕ)
unmarked_runs zero q at = []
unmarked_runs (suc n) q at = option_map_or (λ run. run ∷ unmarked_runs n q run.1) (next_unmarked q at) []

-- between the marked runs, at most 4,096, and around them
abbrev pub max_unmarked_runs : ℕ
max_unmarked_runs = 4097

-- THE BUFFERS. The send queue: its bytes, how many of them were sent, and which the peer hasn't reported as received
unfoldable pub queue_text : State → List ℕ
queue_text s =
    codes " queued " ++ (decimal (queued_of s) ++ (codes " flight " ++ (decimal (in_flight_of s)
    ++ (codes " unmarked " ++ blocks_text (unmarked_runs max_unmarked_runs s.sending.queue 0)))))

-- the receive buffer: the bytes in order, RCV.WND, what is out of order (RFC 2018, 4), counted from RCV.NXT; and SND.WND
unfoldable pub inbox_text : State → List ℕ
inbox_text s =
    codes " unread " ++ (decimal (length s.receiving.inbox.unread) ++ (codes " window " ++ (decimal (window s.receiving.inbox)
    ++ (codes " held " ++ (blocks_text (blocks s.receiving.inbox) ++ (codes " peer " ++ decimal s.sending.snd_wnd))))))

-- A STATE LINE: what the last line of the side would report now, and the content of its buffers
unfoldable pub state_line : Side → PartyState → List ℕ
state_line side p =
    codes "state " ++ (side_name side ++ (codes " " ++ (phase_name p.endpoint.phase ++ (codes " " ++ (ending_name p.endpoint.ending
    ++ (counts_text p ++ (queue_text p.endpoint ++ (inbox_text p.endpoint ++ (10 ∷ [])))))))))

abbrev pub state_lines : WorldState → List ℕ
state_lines w = state_line A w.a ++ state_line B w.b

-- ALL EVENTS in order, refused ones too: the line of each, the first with this number, and the states of both ends after it
unfoldable pub step_lines : ℕ → WorldState → List TurnContent → List ℕ
step_lines n w [] = []
step_lines n w (t ∷ ts) = turn_line n w t ++ (state_lines (world_after_turn w t) ++ step_lines (n + 1) (world_after_turn w t) ts)

-- THE STEPS of a script: the states of both ends before its events, and after each
unfoldable pub steps_text : ScriptContent → List ℕ
steps_text s = state_lines (first_world s) ++ step_lines 1 (first_world s) s.events

-- A SEGMENT that this side emitted: the meaning of its bytes between the true addresses
abbrev pub segment_text_of : WorldState → Side → List ℕ → List ℕ
segment_text_of w side bytes = meaning_text (decode_answer (address_of_side w side) (address_of_side w (other side)) bytes)

abbrev pub segment_text_at : WorldState → Side → ℕ → Option (List ℕ)
segment_text_at w side k = option_map (λ g. segment_text_of w side g.bytes) (slice_get (party_of w side).sent k)

-- segment k, from 0, that this side emits in the run of a script
unfoldable pub shown_segment : ScriptContent → Side → ℕ → Option (List ℕ)
shown_segment s side k = segment_text_at (world_after_turns (first_world s) s.events) side k
