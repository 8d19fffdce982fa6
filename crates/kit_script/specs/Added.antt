-- The lines of versions 2 and 3 of a script that version 1 doesn't have.
use Rattle.std.specs.Prelude.{◌≡◌, ◌≤◌, ◌^◌, ℕ, ◌+◌, ◌-◌, ◌==◌, ◌&&◌, nat_le, if◌then◌else◌, List, [], ◌∷◌, bytes_eq, codes, Option, Some, None, option_map}
use Rattle.std.specs.Option.{option_and_then, option_or}
use Rattle.tcp_reasm.specs.Reassembly.{greatest_runs}
use Rattle.tcp_replay.specs.declared.event.Side.{Side}
use Rattle.tcp_replay.specs.World.{max_life}
use Rattle.tcp_replay.specs.Events.{EventContent, event_content, Deliver, Damage}
use Rattle.kit_text.specs.Words.{words_of, number_of}
use Rattle.kit_script.specs.declared.line.Line.{Line}
use Rattle.kit_script.specs.declared.line.Line.TheVariants as code
use Rattle.kit_script.specs.Names.{side_named}
use Rattle.kit_script.specs.Statements.{StatementContent, statement_content, statement_of, event_of_words}

-- A LINE is a statement of version 1, the lifetime of segments, the limit of one side, the number of runs that its end keeps, or
-- an event with its number of turns
pub data LineContent : Type 0 where
  statement : StatementContent → LineContent
  life : ℕ → LineContent
  limit : Side → ℕ → LineContent
  runs : Side → ℕ → LineContent
  repeat : ℕ → EventContent → LineContent

abbrev pub line_content : {A : Type 0} → Line A → LineContent
line_content (code.Statement x) = statement (statement_content x)
line_content (code.Life positions) = life positions
line_content (code.Limit side bytes) = limit side bytes
line_content (code.Runs side number) = runs side number
line_content (code.Repeat times e) = repeat times (event_content e)

-- the number of a word, where it is at least the first and at most the second
abbrev pub number_from : ℕ → ℕ → List ℕ → Option ℕ
number_from least most word = option_and_then (λ n. if nat_le least n then Some n else None) (number_of most word)

-- `config life N`
abbrev pub life_of : List ℕ → List ℕ → Option LineContent
life_of key value = if bytes_eq key (codes "life") then option_map life (number_from 2 2147483648 value) else None

-- `config SIDE limit N`
abbrev pub limit_of : List ℕ → List ℕ → List ℕ → Option LineContent
limit_of side key value =
    if bytes_eq key (codes "limit") then option_and_then (λ s. option_map (limit s) (number_of 9223372036854775807 value)) (side_named side)
    else None

-- `config SIDE runs N`, in version 3 alone
abbrev pub runs_of : ℕ → List ℕ → List ℕ → List ℕ → Option LineContent
runs_of version side key value =
    if version == 3 && bytes_eq key (codes "runs") then option_and_then (λ s. option_map (runs s) (number_from 1 4096 value)) (side_named side)
    else None

-- by the words after `config`
abbrev pub config_of_words : ℕ → List (List ℕ) → Option LineContent
config_of_words version [] = None
config_of_words version (key ∷ []) = None
config_of_words version (key ∷ value ∷ []) = life_of key value
config_of_words version (side ∷ key ∷ value ∷ []) = option_or (limit_of side key value) (runs_of version side key value)
config_of_words version (side ∷ key ∷ value ∷ more ∷ rest) = None

-- the greatest number of a segment that an event of this many turns names: it grows by 1 each turn
abbrev pub last_number : ℕ → EventContent → ℕ
last_number times (Deliver from k) = k + (times - 1)
last_number times (Damage from k place value) = k + (times - 1)
last_number times other = 0

abbrev pub repeated : ℕ → EventContent → Option LineContent
repeated times e = if nat_le (last_number times e) 4294967295 then Some (repeat times e) else None

-- `repeat N EVENT`, by the words after `repeat`
abbrev pub repeat_of_words : List (List ℕ) → Option LineContent
repeat_of_words [] = None
repeat_of_words (times ∷ []) = None
repeat_of_words (times ∷ kind ∷ rest) =
    option_and_then (λ n. option_and_then (repeated n) (event_of_words kind rest)) (number_from 1 1048576 times)

-- by all words
abbrev pub line_of_words : ℕ → List (List ℕ) → Option LineContent
line_of_words version [] = None
line_of_words version (word ∷ rest) =
    if bytes_eq word (codes "config") then config_of_words version rest
    else (if bytes_eq word (codes "repeat") then repeat_of_words rest
    else None)

-- the meaning of a line that version 1 doesn't have; none where it has no form
unfoldable pub added_line_of : ℕ → List ℕ → Option LineContent
added_line_of version line = line_of_words version (words_of line)

-- THE MEANING OF A LINE in a version
abbrev pub version_1_line_of : List ℕ → Option LineContent
version_1_line_of line = option_map statement (statement_of line)

abbrev pub line_of : ℕ → List ℕ → Option LineContent
line_of version line = if version == 1 then version_1_line_of line else option_or (added_line_of version line) (version_1_line_of line)

-- the lifetime that a line sets is one that two ends can have, and the number of runs one that an end can have
abbrev pub HasLineRange : {A : Type 0} → Line A → Type 0
HasLineRange (code.Life positions) = (2 ≤ positions) × (positions ≤ max_life)
HasLineRange (code.Runs side number) = (1 ≤ number) × (number ≤ greatest_runs)
HasLineRange other = Unit {0}

-- a number of 64 bits, where it is one
abbrev pub IsNumberWithin : Option ℕ → ℕ → Type 0
IsNumberWithin (Some n) number = n ≡ number
IsNumberWithin None number = 2 ^ 64 ≤ number
