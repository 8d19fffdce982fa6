-- The meaning of the words of a line: numbers, bytes and addresses.
use Rattle.std.specs.Prelude.{◌≡◌, ℕ, ◌+◌, ◌-◌, ◌*◌, ◌==◌, ◌&&◌, nat_le, nat_lt, Bool, not, if◌then◌else◌, List, [], ◌∷◌, length, slice_index, bytes_eq, codes, Option, Some, None, option_map, Result, Ok, Err}
use Rattle.std.specs.Option.{option_and_then}
use Rattle.std.specs.Result.{result_ok}
use Rattle.std.specs.List.{slice_split, list_all}
use Rattle.std.specs.Borrow.{Bor}
use Rattle.hex.specs.Hex.{decode_of}
use Rattle.tcp_numbers.specs.declared.addr.Addr.{Addr}
use Rattle.kit_text.specs.declared.line.LineError.{LineError}
use Rattle.kit_text.specs.declared.line.LineError.TheVariants.{BadForm, NoMemory}

-- WORDS: the pieces between single spaces. A doubled space, or one at an end, makes an empty word, which is no word of any
-- form
abbrev pub words_of : List ℕ → List (List ℕ)
words_of line = slice_split (λ b. b == 32) line

-- the further pieces, where there is something after the first
abbrev pub further_pieces : ℕ → Option (Bor (List ℕ)) → List (List ℕ)
further_pieces at None = []
further_pieces at (Some rest) = slice_split (λ b. b == at) rest.now

-- NUMBERS: decimal digits without sign, and without leading zeros except `0` itself
abbrev pub is_digit : ℕ → Bool
is_digit b = nat_le 48 b && nat_le b 57

-- the number that more digits make of this one
abbrev pub value_from : ℕ → List ℕ → ℕ
value_from n [] = n
value_from n (d ∷ ds) = value_from (10 * n + (d - 48)) ds

abbrev pub has_leading_zero : List ℕ → Bool
has_leading_zero word = slice_index word 0 == 48 && nat_lt 1 (length word)

abbrev pub is_number : List ℕ → Bool
is_number word = nat_lt 0 (length word) && (not (has_leading_zero word) && list_all is_digit word)

-- the number of a word, where it is at most this
abbrev pub number_of : ℕ → List ℕ → Option ℕ
number_of most word =
    if is_number word && nat_le (value_from 0 word) most then Some (value_from 0 word) else None

-- BYTES: two hexadecimal digits of either case for each, at least one byte, or `-` for none
abbrev pub bytes_of : List ℕ → Option (List ℕ)
bytes_of word =
    if bytes_eq word (codes "-") then Some []
    else (if length word == 0 then None
    else result_ok (decode_of word))

-- ADDRESSES: four numbers of 0 to 255, joined by dots
abbrev pub octet_of : List ℕ → Option ℕ
octet_of word = number_of 255 word

abbrev pub octets_of : List (List ℕ) → Option (List ℕ)
octets_of [] = None
octets_of (a ∷ []) = None
octets_of (a ∷ b ∷ []) = None
octets_of (a ∷ b ∷ c ∷ []) = None
octets_of (a ∷ b ∷ c ∷ d ∷ []) =
    option_and_then (λ a'. option_and_then (λ b'. option_and_then (λ c'. option_map (λ d'. a' ∷ b' ∷ c' ∷ d' ∷ []) (octet_of d)) (octet_of c)) (octet_of b)) (octet_of a)
octets_of (a ∷ b ∷ c ∷ d ∷ more ∷ rest) = None

abbrev pub addr_of : List ℕ → Option (List ℕ)
addr_of word = octets_of (slice_split (λ b. b == 46) word)

-- the octets of an address
abbrev pub octets : Addr → List ℕ
octets addr = addr.0

-- what a reader of a word or a line returns, where there is memory
abbrev pub Reads : {X Y : Type 0} → (X → Y) → Result X LineError → Option Y → Type 0
Reads view (Ok x) meaning = meaning ≡ Some (view x)
Reads view (Err BadForm) meaning = meaning ≡ None
Reads view (Err NoMemory) meaning = Unit {0}
