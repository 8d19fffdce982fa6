-- The numbers and timers of both ends at a moment of a run, and the segments that they emitted.
use Rattle.std.specs.Prelude.{ℕ, List, [], ◌∷◌, ◌++◌, take, codes, decimal, nat_lt, if◌then◌else◌}
use Rattle.tcp_wire.specs.Position.{number}
use Rattle.tcp_wire.specs.Texts.{addr_text}
use Rattle.tcp_reasm.specs.Reassembly.{window}
use Rattle.tcp_halves.specs.Receiver.{rcv_position}
use Rattle.tcp_conn.specs.State.{State}
use Rattle.tcp_conn.specs.Timers.{timer_answer}
use Rattle.tcp_conn.specs.declared.phase.Timer.TheVariants.{Retransmit, Reorder, TimeWait}
use Rattle.tcp_replay.specs.declared.event.Side.{Side}
use Rattle.tcp_replay.specs.declared.event.Side.TheVariants.{A, B}
use Rattle.tcp_replay.specs.Names.{side_name}
use Rattle.tcp_replay.specs.World.{WorldState, SentSegment, party_of, other}
use Rattle.kit_text.specs.Texts.{bytes_text}
use Rattle.kit_script.specs.Script.{ScriptContent}
use Rattle.kit_report.specs.Names.{yes_or_no}
use Rattle.kit_report.specs.Outcomes.{address_of_side}
use Rattle.kit_report.specs.Report.{first_world, world_after_turns}

-- THE SEND SPACE (RFC 9293, 3.3.1): SND.UNA, SND.NXT and SND.UNA + SND.WND, as sequence numbers; none before the SYN is sent
abbrev pub send_space : State → List ℕ
send_space s =
    codes " una " ++ (decimal (number s.config.isn.0 s.sending.snd_una) ++ (codes " nxt " ++ (decimal (number s.config.isn.0 s.sending.snd_nxt)
    ++ (codes " edge " ++ decimal (number (number s.config.isn.0 s.sending.snd_una) s.sending.snd_wnd)))))

unfoldable pub send_text : State → List ℕ
send_text s = if nat_lt 0 s.sending.snd_nxt then send_space s else codes " una - nxt - edge -"

-- THE RECEIVE SPACE (RFC 9293, 3.3.1) under the peer's initial number: RCV.NXT and RCV.NXT + RCV.WND; none before the peer's
-- SYN is taken
abbrev pub receive_space : ℕ → State → List ℕ
receive_space initial s =
    codes " next " ++ (decimal (number initial (rcv_position s.receiving))
    ++ (codes " limit " ++ decimal (number (number initial (rcv_position s.receiving)) (window s.receiving.inbox))))

unfoldable pub receive_text : ℕ → State → List ℕ
receive_text initial s = if s.receiving.opened then receive_space initial s else codes " next - limit -"

-- THE TIMERS that have to run (RFC 9293, 3.10.8): whether each would have its effect now
unfoldable pub timers_text : State → List ℕ
timers_text s =
    codes " retransmit " ++ (yes_or_no (timer_answer s Retransmit) ++ (codes " reorder " ++ (yes_or_no (timer_answer s Reorder)
    ++ (codes " timewait " ++ yes_or_no (timer_answer s TimeWait)))))

-- AN END in a line. The peer's initial number is that of the other end
unfoldable pub numbers_line : WorldState → Side → List ℕ
numbers_line w side =
    codes "numbers " ++ (side_name side ++ (send_text (party_of w side).endpoint
    ++ (receive_text (party_of w (other side)).endpoint.config.isn.0 (party_of w side).endpoint
    ++ (timers_text (party_of w side).endpoint ++ (10 ∷ [])))))

abbrev pub numbers_lines : WorldState → List ℕ
numbers_lines w = numbers_line w A ++ numbers_line w B

-- both ends after the first n events of a script
unfoldable pub numbers_text : ScriptContent → ℕ → List ℕ
numbers_text s n = numbers_lines (world_after_turns (first_world s) (take n s.events))

-- A SEGMENT as a line of a list: both addresses, and its bytes
unfoldable pub sent_line : WorldState → Side → List ℕ → List ℕ
sent_line w side bytes =
    addr_text (address_of_side w side) ++ (codes " " ++ (addr_text (address_of_side w (other side)) ++ (codes " " ++ (bytes_text bytes ++ (10 ∷ [])))))

-- segments of a side, each as a line
unfoldable pub lines_of : WorldState → Side → List SentSegment → List ℕ
lines_of w side [] = []
lines_of w side (segment ∷ segments) = sent_line w side segment.bytes ++ lines_of w side segments

abbrev pub sent_lines : WorldState → Side → List ℕ
sent_lines w side = lines_of w side (party_of w side).sent

-- ALL SEGMENTS that the run of a script emits: those of A in order, and then those of B
unfoldable pub sent_text : ScriptContent → List ℕ
sent_text s = sent_lines (world_after_turns (first_world s) s.events) A ++ sent_lines (world_after_turns (first_world s) s.events) B
