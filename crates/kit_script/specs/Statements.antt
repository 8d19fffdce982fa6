-- The meaning of one line of a script.
use Rattle.std.specs.Prelude.{ℕ, if◌then◌else◌, List, [], ◌∷◌, bytes_eq, codes, Option, Some, None, option_map}
use Rattle.std.specs.Option.{option_and_then}
use Rattle.tcp_replay.specs.declared.event.Side.{Side}
use Rattle.tcp_replay.specs.Events.{EventContent, event_content, Connect, Listen, Send, Receive, Close, Abort, Timer, Emit, Deliver, Damage}
use Rattle.kit_text.specs.Words.{words_of, number_of, bytes_of}
use Rattle.kit_script.specs.declared.settings.Setting.{Setting}
use Rattle.kit_script.specs.declared.statement.Statement.{Statement}
use Rattle.kit_script.specs.declared.statement.Statement.TheVariants as code
use Rattle.kit_script.specs.Names.{kind_named, side_named, timer_named}
use Rattle.kit_script.specs.declared.names.Kind.{Kind}
use Rattle.kit_script.specs.declared.names.Kind.TheVariants as kinds
use Rattle.kit_script.specs.Settings.{setting_of}

-- EVENTS, by their kind and the words after the side. `KIND SIDE`
abbrev pub bare_event : Kind → Side → Option EventContent
bare_event kinds.Connect side = Some (Connect side)
bare_event kinds.Listen side = Some (Listen side)
bare_event kinds.Close side = Some (Close side)
bare_event kinds.Abort side = Some (Abort side)
bare_event kinds.Emit side = Some (Emit side)
bare_event other side = None

-- `KIND SIDE WORD`
abbrev pub event_with_word : Kind → Side → List ℕ → Option EventContent
event_with_word kinds.Send side word = option_map (Send side) (bytes_of word)
event_with_word kinds.Receive side word = option_map (Receive side) (number_of 1048576 word)
event_with_word kinds.Timer side word = option_map (Timer side) (timer_named word)
event_with_word kinds.Deliver side word = option_map (Deliver side) (number_of 4294967295 word)
event_with_word other side word = None

-- `damage SIDE K PLACE XOR`
abbrev pub event_with_three : Kind → Side → List ℕ → List ℕ → List ℕ → Option EventContent
event_with_three kinds.Damage side k place value =
    option_and_then (λ k'. option_and_then (λ p. option_map (Damage side k' p) (number_of 255 value)) (number_of 4294967295 place))
    (number_of 4294967295 k)
event_with_three other side k place value = None

abbrev pub event_of : Kind → Side → List (List ℕ) → Option EventContent
event_of kind side [] = bare_event kind side
event_of kind side (word ∷ []) = event_with_word kind side word
event_of kind side (k ∷ place ∷ []) = None
event_of kind side (k ∷ place ∷ value ∷ []) = event_with_three kind side k place value
event_of kind side (k ∷ place ∷ value ∷ more ∷ rest) = None

-- by the words after the kind's
abbrev pub event_after_kind : Kind → List (List ℕ) → Option EventContent
event_after_kind kind [] = None
event_after_kind kind (side ∷ rest) = option_and_then (λ s. event_of kind s rest) (side_named side)

-- by all words
abbrev pub event_of_words : List ℕ → List (List ℕ) → Option EventContent
event_of_words word rest = option_and_then (λ kind. event_after_kind kind rest) (kind_named word)

-- A STATEMENT is a setting of one side, or an event
pub data StatementContent : Type 0 where
  setting : Side → Setting → StatementContent
  event : EventContent → StatementContent

abbrev pub statement_content : {A : Type 0} → Statement A → StatementContent
statement_content (code.Setting side x) = setting side x
statement_content (code.Event e) = event (event_content e)

-- by the words after `config`
abbrev pub setting_of_words : List (List ℕ) → Option StatementContent
setting_of_words [] = None
setting_of_words (side ∷ []) = None
setting_of_words (side ∷ key ∷ []) = None
setting_of_words (side ∷ key ∷ value ∷ []) = option_and_then (λ s. option_map (setting s) (setting_of key value)) (side_named side)
setting_of_words (side ∷ key ∷ value ∷ more ∷ rest) = None

abbrev pub statement_of_words : List (List ℕ) → Option StatementContent
statement_of_words [] = None
statement_of_words (kind ∷ rest) =
    if bytes_eq kind (codes "config") then setting_of_words rest else option_map event (event_of_words kind rest)

-- the meaning of a line of version 1; none where it has no form
unfoldable pub statement_of : List ℕ → Option StatementContent
statement_of line = statement_of_words (words_of line)
