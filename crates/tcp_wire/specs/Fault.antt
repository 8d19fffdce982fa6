-- Why bytes are no segment: the first fault that applies, in the order of the faults' numbers (RFC 9293, 3.1; where it names
-- no order or fault, that of docs/FORMATS.md).
use Rattle.std.specs.Prelude.{◌≡◌, ◌≢◌, ◌⊎◌, ℕ, ◌+◌, ◌*◌, ◌<◌, ◌≤◌, List, ◌∷◌, ◌++◌, length, replicate}
use Rattle.tcp_wire.specs.declared.fault.DecodeError.{DecodeError}
use Rattle.tcp_wire.specs.declared.fault.DecodeError.TheVariants.{TooShort, TooLong, BadChecksum, BadOffset, BadOption, BadPadding}
use Rattle.tcp_numbers.specs.Checksum.{Checks}
use Rattle.tcp_wire.specs.Options.{OptionContent, spelling, spellings, IsSpellable, AreSpellable}
use Rattle.tcp_wire.specs.Wire.{header_len, max_len, data_offset, option_area}

-- the length of a segment: from 20 to 65515
abbrev pub IsSized : List ℕ → Type 0
IsSized bytes = (header_len ≤ length bytes) × (length bytes ≤ max_len)

-- the data offset is at least 5 words, and is within the segment
abbrev pub HasOffset : List ℕ → Type 0
HasOffset bytes = (5 ≤ data_offset bytes) × (4 * data_offset bytes ≤ length bytes)

-- In an area that begins at byte `start`, some options are spelled up to this offset, the byte there isn't zero, and no
-- prefix of what remains there is the spelling of an option.
pub record IsBadOption (start : ℕ) (area : List ℕ) (place : ℕ) : Type 0 where
  pub before : List OptionContent
  pub first : ℕ
  pub rest : List ℕ
  pub spellable : AreSpellable before
  pub parts : area ≡ spellings before ++ first ∷ rest
  pub place_is : place ≡ start + length (spellings before)
  pub not_zero : first ≢ 0
  pub none : (option : OptionContent) (behind : List ℕ) → IsSpellable option → first ∷ rest ≢ spelling option ++ behind

-- In an area that begins at byte `start`, some options are spelled, zeros follow up to this offset, and the byte there isn't
-- zero.
pub record IsBadPadding (start : ℕ) (area : List ℕ) (place : ℕ) : Type 0 where
  pub before : List OptionContent
  pub zeros : ℕ
  pub first : ℕ
  pub rest : List ℕ
  pub spellable : AreSpellable before
  pub some_zeros : 1 ≤ zeros
  pub parts : area ≡ spellings before ++ (replicate {A = ℕ} zeros 0 ++ first ∷ rest)
  pub place_is : place ≡ start + length (spellings before) + zeros
  pub not_zero : first ≢ 0

abbrev pub FirstFault : List ℕ → List ℕ → List ℕ → DecodeError → Type 0
FirstFault src dst bytes TooShort = length bytes < header_len
FirstFault src dst bytes TooLong = max_len < length bytes
FirstFault src dst bytes BadChecksum = IsSized bytes × ¬ Checks src dst bytes
FirstFault src dst bytes BadOffset = IsSized bytes × Checks src dst bytes × ((data_offset bytes < 5) ⊎ (length bytes < 4 * data_offset bytes))
FirstFault src dst bytes (BadOption place) = IsSized bytes × Checks src dst bytes × HasOffset bytes × IsBadOption header_len (option_area bytes) place
FirstFault src dst bytes (BadPadding place) = IsSized bytes × Checks src dst bytes × HasOffset bytes × IsBadPadding header_len (option_area bytes) place
