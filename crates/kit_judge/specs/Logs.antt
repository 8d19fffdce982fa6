-- A LOG of one end as a text: what came to it and what it sent, a line for each, in its order.
use Rattle.std.specs.Prelude.{ℕ, List, [], ◌∷◌, bytes_eq, codes, if◌then◌else◌, Option, Some, None, option_map}
use Rattle.std.specs.Option.{option_and_then, option_map_or}
use Rattle.kit_text.specs.Words.{words_of, bytes_of, addr_of}
use Rattle.tcp_judge.specs.Log.{PassageContent, Came, Went}
use Rattle.kit_judge.specs.declared.packet.Way.{Way}
use Rattle.kit_judge.specs.declared.packet.Way.TheVariants as ways
use Rattle.kit_judge.specs.declared.packet.Packet.{Packet}

-- A LINE, `came SOURCE DESTINATION BYTES` or `went SOURCE DESTINATION BYTES`: which way its bytes went, by its first word,
abbrev pub way_of : List ℕ → Option Way
way_of word = if bytes_eq word (codes "came") then Some ways.Came else if bytes_eq word (codes "went") then Some ways.Went else None

abbrev pub passage_by : Way → List ℕ → List ℕ → List ℕ → PassageContent
passage_by ways.Came src dst bytes = Came src dst bytes
passage_by ways.Went src dst bytes = Went src dst bytes

abbrev pub packet_content : {A : Type 0} → Packet A → PassageContent
packet_content p = passage_by p.way p.src.0 p.dst.0 p.bytes.items

-- and from where to where
abbrev pub passage_of_words : List (List ℕ) → Option PassageContent
passage_of_words [] = None
passage_of_words (word ∷ []) = None
passage_of_words (word ∷ src ∷ []) = None
passage_of_words (word ∷ src ∷ dst ∷ []) = None
passage_of_words (word ∷ src ∷ dst ∷ bytes ∷ []) =
    option_and_then (λ w. option_and_then (λ s. option_and_then (λ d. option_map (passage_by w s d) (bytes_of bytes)) (addr_of dst)) (addr_of src)) (way_of word)
passage_of_words (word ∷ src ∷ dst ∷ bytes ∷ more ∷ rest) = None

-- none where the line has no form
unfoldable pub passage_of : List ℕ → Option PassageContent
passage_of line = passage_of_words (words_of line)

-- THE PASSAGES of a list of numbered lines up to its first bad one, each with the number of its line
abbrev pub Passages : Type 0
Passages = List (ℕ × PassageContent)

unfoldable pub passages_of : List (ℕ × List ℕ) → Passages
passages_of [] = []
passages_of (line ∷ lines) = option_map_or (λ p. (line.0, p) ∷ passages_of lines) (passage_of line.1) []

-- THE FIRST BAD LINE, if there is one
unfoldable pub first_bad_line : List (ℕ × List ℕ) → Option ℕ
first_bad_line [] = None
first_bad_line (line ∷ lines) = option_map_or (λ p. first_bad_line lines) (passage_of line.1) (Some line.0)
