-- The whole script of version 1, or its first bad line: a function from its text.
use Rattle.std.specs.Prelude.{ℕ, ◌==◌, if◌then◌else◌, List, [], ◌∷◌, ◌++◌, length, Option, Some, None, Result, Ok, Err}
use Rattle.std.specs.Option.{option_and_then, option_map_or}
use Rattle.tcp_halves.specs.declared.config.Config.{Config}
use Rattle.tcp_replay.specs.declared.event.Side.{Side}
use Rattle.tcp_replay.specs.declared.event.Side.TheVariants.{A, B}
use Rattle.tcp_replay.specs.Events.{EventContent}
use Rattle.kit_text.specs.Lines.{ascii_lines}
use Rattle.kit_script.specs.declared.settings.Setting.{Setting}
use Rattle.kit_script.specs.Settings.{default_a, default_b, with_setting}
use Rattle.kit_script.specs.Statements.{StatementContent, setting, event, statement_of}

-- the Configs of the two ends, and their events in order
pub record EventScript : Type 0 where
  pub a : Config
  pub b : Config
  pub events : List EventContent

-- the defaults
abbrev pub default_event_script : EventScript
default_event_script = record { a = default_a; b = default_b; events = [] }

abbrev pub event_script_with_setting : EventScript → Side → Setting → EventScript
event_script_with_setting s A x = record s { a = with_setting s.a x }
event_script_with_setting s B x = record s { b = with_setting s.b x }

-- ONE MORE LINE. A setting after an event has no form; a later one of the same key takes precedence
abbrev pub event_script_with : EventScript → StatementContent → Option EventScript
event_script_with s (setting side x) = if length s.events == 0 then Some (event_script_with_setting s side x) else None
event_script_with s (event e) = Some (record s { events = s.events ++ e ∷ [] })

abbrev pub event_script_with_line : EventScript → List ℕ → Option EventScript
event_script_with_line s line = option_and_then (event_script_with s) (statement_of line)

-- ALL LINES in order: the script, or the number of the first bad one
unfoldable pub event_script_from : EventScript → List (ℕ × List ℕ) → Result EventScript ℕ
event_script_from s [] = Ok s
event_script_from s (line ∷ lines) = option_map_or (λ s'. event_script_from s' lines) (event_script_with_line s line.1) (Err line.0)

abbrev pub event_script_of_lines : Result (List (ℕ × List ℕ)) ℕ → Result EventScript ℕ
event_script_of_lines (Ok lines) = event_script_from default_event_script lines
event_script_of_lines (Err line) = Err line

-- of a whole text
unfoldable pub event_script_of : List ℕ → Result EventScript ℕ
event_script_of text = event_script_of_lines (ascii_lines text)
