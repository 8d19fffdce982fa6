-- The rule that applies to an arrival of a script (RFC 9293, 3.10.7).
use Rattle.std.specs.Prelude.{ℕ, List, slice_get, take, codes, Option, Some, None, option_map, option_and_then}
use Rattle.tcp_conn.specs.declared.arrive.judgement.Judgement.{Judgement}
use Rattle.tcp_conn.specs.declared.arrive.judgement.Judgement.TheVariants.{Foreign, ResetIgnored, Stray, AckOfListen, OpensNothing, PeerOpens, AckOfNoSyn, PeerRefuses, PeerAccepts, Unacceptable, PeerResets, ResetElsewhere, SynInWindow, NoAck, AcksUnsent, HandshakeRefused, HandshakeRefusedShut, Taken, TakenShut}
use Rattle.tcp_conn.specs.Taking.{rule_of}
use Rattle.tcp_replay.specs.declared.event.Side.{Side}
use Rattle.tcp_replay.specs.Events.{EventContent, Deliver}
use Rattle.tcp_replay.specs.World.{WorldState, party_of, other}
use Rattle.kit_script.specs.Script.{TurnContent, ScriptContent}
use Rattle.kit_report.specs.Outcomes.{address_of_side}
use Rattle.kit_report.specs.Report.{world_after_turns, first_world}

-- A RULE in words: its name, and its section of RFC 9293
abbrev pub rule_text : Judgement → List ℕ
rule_text Foreign = codes "foreign 3.10.7"
rule_text ResetIgnored = codes "reset-ignored 3.10.7.1 to 3.10.7.4"
rule_text Stray = codes "stray 3.10.7.1"
rule_text AckOfListen = codes "ack-of-listen 3.10.7.2, second"
rule_text OpensNothing = codes "opens-nothing 3.10.7.2, fourth, or 3.10.7.3, fifth"
rule_text PeerOpens = codes "peer-opens 3.10.7.2, third"
rule_text AckOfNoSyn = codes "ack-of-no-syn 3.10.7.3, first"
rule_text PeerRefuses = codes "peer-refuses 3.10.7.3, second"
rule_text PeerAccepts = codes "peer-accepts 3.10.7.3, fourth"
rule_text Unacceptable = codes "unacceptable 3.10.7.4, first"
rule_text PeerResets = codes "peer-resets 3.10.7.4, second"
rule_text ResetElsewhere = codes "reset-elsewhere 3.10.7.4, second"
rule_text SynInWindow = codes "syn-in-window 3.10.7.4, fourth"
rule_text NoAck = codes "no-ack 3.10.7.4, fifth"
rule_text AcksUnsent = codes "acks-unsent 3.10.7.4, fifth"
rule_text HandshakeRefused = codes "handshake-refused 3.10.7.4, fifth"
rule_text HandshakeRefusedShut = codes "handshake-refused-shut 3.10.7.4, fifth"
rule_text Taken = codes "taken 3.10.7.4, fifth to eighth"
rule_text TakenShut = codes "taken-shut 3.10.7.4, first"

-- THE RULE THAT APPLIES to bytes of this side that arrive at the other one now
abbrev pub rule_at : WorldState → Side → List ℕ → Option Judgement
rule_at w side bytes = rule_of (party_of w (other side)).endpoint (address_of_side w side) (address_of_side w (other side)) bytes

-- and to a segment that an event delivers; other events deliver none
abbrev pub event_rule : WorldState → EventContent → Option Judgement
event_rule w (Deliver side k) = option_and_then (λ g. rule_at w side g.bytes) (slice_get (party_of w side).sent k)
event_rule w other = None

abbrev pub rule_in : WorldState → Option TurnContent → Option (List ℕ)
rule_in w None = None
rule_in w (Some t) = option_map rule_text (event_rule w t.event)

-- THE RULE of event n, from 0, of a script: for a repeated one, that of its first turn
unfoldable pub shown_rule : ScriptContent → ℕ → Option (List ℕ)
shown_rule s n = rule_in (world_after_turns (first_world s) (take n s.events)) (slice_get s.events n)
