-- A text as numbered lines.
use Rattle.std.specs.Prelude.{ℕ, ◌+◌, ◌==◌, ◌||◌, ◌-◌, ◌^◌, ◌<◌, nat_lt, Bool, if◌then◌else◌, List, [], ◌∷◌, length, take, slice_index, count_by, position, Option, Some, None, option_map, Result, Ok, Err}
use Rattle.std.specs.Option.{option_map_or}
use Rattle.std.specs.List.{slice_split}
use Rattle.std.specs.Borrow.{Bor}

-- the pieces between line feeds
abbrev pub lines_of : List ℕ → List (List ℕ)
lines_of text = slice_split (λ b. b == 10) text

-- an empty line, or one that begins with `#`
abbrev pub is_passed_over : List ℕ → Bool
is_passed_over line = length line == 0 || slice_index line 0 == 35

-- THE LINES that aren't skipped, each with its number, where this is the number of the first line of all
unfoldable pub numbered_from : ℕ → List (List ℕ) → List (ℕ × List ℕ)
numbered_from n [] = []
numbered_from n (line ∷ lines) =
    if is_passed_over line then numbered_from (n + 1) lines else (n, line) ∷ numbered_from (n + 1) lines

-- every line counts, from 1 on
abbrev pub numbered_lines : List ℕ → List (ℕ × List ℕ)
numbered_lines text = numbered_from 1 (lines_of text)

-- the line of the first byte above 7f
abbrev pub line_above_ascii : List ℕ → Option ℕ
line_above_ascii text = option_map (λ at. count_by (λ b. b == 10) (take at text) + 1) (position (nat_lt 127) text)

-- A TEXT: before any line is read, the line of the first byte above 7f is bad
abbrev pub ascii_lines : List ℕ → Result (List (ℕ × List ℕ)) ℕ
ascii_lines text = option_map_or (λ line. Err line) (line_above_ascii text) (Ok (numbered_lines text))

-- the lines of what is left of a text, after this many lines
abbrev pub lines_left : ℕ → Option (Bor (List ℕ)) → List (ℕ × List ℕ)
lines_left count None = []
lines_left count (Some rest) = numbered_from (count + 1) (lines_of rest.now)

-- no more lines are left than can be counted
abbrev pub CanCount : ℕ → Option (Bor (List ℕ)) → Type 0
CanCount count None = Unit {0}
CanCount count (Some rest) = count + length rest.now < 2 ^ 64 - 1
