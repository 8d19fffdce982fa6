-- The whole script, or its first bad line: a function from its text, by its version.
use Rattle.std.specs.Prelude.{◌≡◌, ℕ, ◌==◌, ◌≤◌, ◌^◌, true, false, Bool, if◌then◌else◌, List, [], ◌∷◌, ◌++◌, length, drop, map, bytes_eq, codes, Option, Some, None, Result, Ok, Err}
use Rattle.std.specs.Option.{option_and_then, option_map_or}
use Rattle.tcp_halves.specs.Config.{default_limit, stream_limit}
use Rattle.tcp_halves.specs.declared.config.Config.{Config}
use Rattle.tcp_reasm.specs.Reassembly.{default_runs, greatest_runs}
use Rattle.tcp_replay.specs.World.{max_life}
use Rattle.tcp_replay.specs.declared.event.Side.{Side}
use Rattle.tcp_replay.specs.declared.event.Side.TheVariants.{A, B}
use Rattle.tcp_replay.specs.Events.{EventContent, event_content}
use Rattle.kit_text.specs.declared.line.LineError.{LineError}
use Rattle.kit_text.specs.declared.line.LineError.TheVariants as lines
use Rattle.kit_text.specs.Lines.{lines_of, ascii_lines}
use Rattle.kit_script.specs.declared.settings.Setting.{Setting}
use Rattle.kit_script.specs.declared.error.ScriptError.{ScriptError}
use Rattle.kit_script.specs.declared.error.ScriptError.TheVariants.{BadLine, NoMemory}
use Rattle.kit_script.specs.declared.script.Script.{Script}
use Rattle.kit_script.specs.declared.script.Turn.{Turn}
use Rattle.kit_script.specs.Settings.{default_a, default_b, with_setting}
use Rattle.kit_script.specs.Statements.{setting, event}
use Rattle.kit_script.specs.Version1.{EventScript, event_script_of}
use Rattle.kit_script.specs.Added.{LineContent, statement, life, limit, runs, repeat, line_of}

-- an event, and its number of turns, where it is repeated
pub record TurnContent : Type 0 where
  pub times : Option ℕ
  pub event : EventContent

-- its version, how many positions a segment lives (RFC 9293, 3.4), the Configs of the two ends and the number of runs that each
-- keeps (RFC 2018, 5), and their events in order
pub record ScriptContent : Type 0 where
  pub version : ℕ
  pub life : ℕ
  pub a : Config
  pub b : Config
  pub runs_a : ℕ
  pub runs_b : ℕ
  pub events : List TurnContent

-- the content of a script in the code
abbrev pub turn_content : {A : Type 0} → Turn A → TurnContent
turn_content t = record { times = t.times; event = event_content t.event }

abbrev pub script_content : {A : Type 0} → Script A → ScriptContent
script_content s = record { version = s.version; life = s.life; a = s.a; b = s.b; runs_a = s.runs_a; runs_b = s.runs_b; events = map turn_content s.events.items }

-- DEFAULTS
abbrev pub script_without_lines : ℕ → ℕ → ScriptContent
script_without_lines version bytes = record {
  version = version;
  life = max_life;
  a = record default_a { limit = bytes };
  b = record default_b { limit = bytes };
  runs_a = default_runs;
  runs_b = default_runs;
  events = [];
}

abbrev pub default_script : ScriptContent
default_script = script_without_lines 1 default_limit

abbrev pub default_script_2 : ScriptContent
default_script_2 = script_without_lines 2 stream_limit

abbrev pub default_script_3 : ScriptContent
default_script_3 = script_without_lines 3 stream_limit

-- ONE MORE LINE. A setting has no form after an event; a later one of the same key takes precedence
abbrev pub with_side_setting : ScriptContent → Side → Setting → ScriptContent
with_side_setting s A x = record s { a = with_setting s.a x }
with_side_setting s B x = record s { b = with_setting s.b x }

abbrev pub with_limit : ScriptContent → Side → ℕ → ScriptContent
with_limit s A bytes = record s { a = record s.a { limit = bytes } }
with_limit s B bytes = record s { b = record s.b { limit = bytes } }

abbrev pub with_runs : ScriptContent → Side → ℕ → ScriptContent
with_runs s A number = record s { runs_a = number }
with_runs s B number = record s { runs_b = number }

abbrev pub with_turn : ScriptContent → Option ℕ → EventContent → ScriptContent
with_turn s times e = record s { events = s.events ++ record { times = times; event = e } ∷ [] }

abbrev pub before_events : ScriptContent → ScriptContent → Option ScriptContent
before_events s new = if length s.events == 0 then Some new else None

abbrev pub with_line_content : ScriptContent → LineContent → Option ScriptContent
with_line_content s (statement (setting side x)) = before_events s (with_side_setting s side x)
with_line_content s (statement (event e)) = Some (with_turn s None e)
with_line_content s (life positions) = before_events s (record s { life = positions })
with_line_content s (limit side bytes) = before_events s (with_limit s side bytes)
with_line_content s (runs side number) = before_events s (with_runs s side number)
with_line_content s (repeat times e) = Some (with_turn s (Some times) e)

abbrev pub with_line : ScriptContent → List ℕ → Option ScriptContent
with_line s line = option_and_then (with_line_content s) (line_of s.version line)

-- ALL LINES in order: the script, or the number of the first bad one
unfoldable pub script_from : ScriptContent → List (ℕ × List ℕ) → Result ScriptContent ℕ
script_from s [] = Ok s
script_from s (line ∷ lines) = option_map_or (λ s'. script_from s' lines) (with_line s line.1) (Err line.0)

-- THE VERSION is 2 or 3 where the first line of the text says so, else 1
abbrev pub is_first_line : List ℕ → List (List ℕ) → Bool
is_first_line words [] = false
is_first_line words (line ∷ lines) = bytes_eq line words

abbrev pub is_version_2 : List ℕ → Bool
is_version_2 text = is_first_line (codes "tcpkit 2") (lines_of text)

abbrev pub is_version_3 : List ℕ → Bool
is_version_3 text = is_first_line (codes "tcpkit 3") (lines_of text)

-- the version line has nothing else
abbrev pub script_of_lines : Bool → Bool → Result (List (ℕ × List ℕ)) ℕ → Result ScriptContent ℕ
script_of_lines second third (Ok lines) =
    if third then script_from default_script_3 (drop 1 lines)
    else (if second then script_from default_script_2 (drop 1 lines)
    else script_from default_script lines)
script_of_lines second third (Err line) = Err line

-- of a whole text
unfoldable pub script_of : List ℕ → Result ScriptContent ℕ
script_of text = script_of_lines (is_version_2 text) (is_version_3 text) (ascii_lines text)

-- A SCRIPT OF VERSION 1 as one of any version: each event happens once, and segments live as long as they can
abbrev pub once : EventContent → TurnContent
once e = record { times = None; event = e }

abbrev pub of_events : EventScript → ScriptContent
of_events s = record { version = 1; life = max_life; a = s.a; b = s.b; runs_a = default_runs; runs_b = default_runs; events = map once s.events }

abbrev pub of_event_answer : Result EventScript ℕ → Result ScriptContent ℕ
of_event_answer (Ok s) = Ok (of_events s)
of_event_answer (Err line) = Err line

-- a text of version 1 has the meaning of that version
abbrev pub SaysVersion1 : List ℕ → Type 0
SaysVersion1 text = is_version_2 text ≡ false → is_version_3 text ≡ false → script_of text ≡ of_event_answer (event_script_of text)

-- TWO ENDS CAN BEGIN with it: its lifetime is one that they can have, and so is each number of runs
pub record CanBegin {A : Type 0} (s : Script A) : Type 0 where
  pub least_life : 2 ≤ s.life
  pub most_life : s.life ≤ max_life
  pub least_a : 1 ≤ s.runs_a
  pub most_a : s.runs_a ≤ greatest_runs
  pub least_b : 1 ≤ s.runs_b
  pub most_b : s.runs_b ≤ greatest_runs

-- what reading one more line returns, where there is memory
abbrev pub GoesOn : {X : Type 0} → Result (Unit {0}) LineError → Option X → X → Type 0
GoesOn (Ok done) meaning new = meaning ≡ Some new
GoesOn (Err lines.BadForm) meaning new = meaning ≡ None
GoesOn (Err lines.NoMemory) meaning new = Unit {0}

-- what reading all lines returns, where there is memory
abbrev pub GoesOnToEnd : {X : Type 0} → Result (Unit {0}) ScriptError → Result X ℕ → X → Type 0
GoesOnToEnd (Ok done) meaning new = meaning ≡ Ok new
GoesOnToEnd (Err (BadLine line)) meaning new = meaning ≡ Err line
GoesOnToEnd (Err NoMemory) meaning new = Unit {0}

-- what reading a script returns, where there is memory
abbrev pub ReadsScript : {A : Type 0} → Result (Script A) ScriptError → Result ScriptContent ℕ → Type 0
ReadsScript (Ok s) meaning = meaning ≡ Ok (script_content s)
ReadsScript (Err (BadLine line)) meaning = meaning ≡ Err line
ReadsScript (Err NoMemory) meaning = Unit {0}
