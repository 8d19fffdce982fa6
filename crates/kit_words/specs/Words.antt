-- What the program's words request.
use Rattle.std.specs.Prelude.{◌==◌, ◌&&◌, ◌||◌, ℕ, Bool, true, not, List, [], ◌∷◌, Option, Some, None}
use Rattle.std.specs.Prelude.{codes, if◌then◌else◌, is_some, option_map, slice_get, string_bytes}
use Rattle.std.specs.Str.{bytes_eq, chars}
use Rattle.clap.specs.declared.error.kind.ErrorKind.{ErrorKind}
use Rattle.clap.specs.declared.error.kind.ErrorKind.TheVariants.{OutOfMemory}
use Rattle.kit_words.specs.declared.command_line.Job.{Job}
use Rattle.kit_words.specs.declared.command_line.Job.TheVariants.{Decode, Replay}
use Rattle.kit_words.specs.declared.command_line.WordsError.{WordsError}
use Rattle.kit_words.specs.declared.command_line.WordsError.TheVariants.{BadWords, NoMemory}

-- any refusal but that there is no memory is one of the words; so is a request for help
abbrev pub words_error_of : ErrorKind → WordsError
words_error_of OutOfMemory = NoMemory
words_error_of kind = BadWords

-- the file of a job
abbrev pub path_of : Job → List ℕ
path_of (Decode path) = string_bytes path
path_of (Replay path) = string_bytes path

-- the form of a job
abbrev pub name_of : Job → List ℕ
name_of (Decode path) = codes "decode"
name_of (Replay path) = codes "replay"

-- the word names a form of the program
abbrev pub is_form : List ℕ → Bool
is_form name = bytes_eq name (codes "decode") || bytes_eq name (codes "replay")

-- the word says that no option follows
abbrev pub is_dashes : List ℕ → Bool
is_dashes word = bytes_eq word (codes "--")

-- the word is no option: it begins with no hyphen (45), or no character follows that
abbrev pub is_plain : List ℕ → Bool
is_plain [] = true
is_plain (first ∷ rest) = not (first == 45) || not (is_some (slice_get (chars rest) 0))

-- the path that follows a form's name: a plain word, with `--` after it or not, or any word after `--`
abbrev pub path_in : List (List ℕ) → Option (List ℕ)
path_in (path ∷ []) = if is_plain path then Some path else None
path_in (first ∷ second ∷ []) = if is_dashes first then Some second
    else (if is_plain first && is_dashes second then Some first else None)
path_in _ = None

-- the name of a form and the path of its file that the words request, the program's name first
abbrev pub asked_by : List (List ℕ) → Option (List ℕ × List ℕ)
asked_by (program ∷ name ∷ words) =
    if is_form name then option_map (λ path. (name, path)) (path_in words) else None
asked_by _ = None
