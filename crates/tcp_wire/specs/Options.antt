-- Options and their spelling (RFC 9293, 3.1 and 3.2; RFC 7323, 2.2; RFC 2018, 2 and 3).
use Rattle.std.specs.Prelude.{◌≡◌, ℕ, ◌+◌, ◌*◌, ◌^◌, ◌<◌, ◌≤◌, ◌==◌, ◌&&◌, ◌||◌, Bool, false, List, [], ◌∷◌, ◌++◌, length}
use Rattle.std.specs.List.{flat_map, AllByRecursion}
use Rattle.byteorder.specs.Endian.{big_bytes}
use Rattle.tcp_numbers.specs.Checksum.{AreBytes}

-- the content of one option; a block is its left edge and the number after its last one
pub data OptionContent : Type 0 where
  Nop : OptionContent
  Mss : ℕ → OptionContent
  WindowScale : ℕ → OptionContent
  SackPermitted : OptionContent
  Sack : List (ℕ × ℕ) → OptionContent
  Unknown : ℕ → List ℕ → OptionContent

-- the two edges of a block
abbrev pub block_bytes : ℕ × ℕ → List ℕ
block_bytes block = big_bytes 4 block.0 ++ big_bytes 4 block.1

-- the bytes of an option: kind, length byte where the kind has one, content
abbrev pub spelling : OptionContent → List ℕ
spelling Nop = 1 ∷ []
spelling (Mss size) = 2 ∷ 4 ∷ big_bytes 2 size
spelling (WindowScale shift) = 3 ∷ 3 ∷ shift ∷ []
spelling SackPermitted = 4 ∷ 2 ∷ []
spelling (Sack blocks) = 5 ∷ (8 * length blocks + 2) ∷ flat_map block_bytes blocks
spelling (Unknown kind body) = kind ∷ (length body + 2) ∷ body

-- the bytes of options in turn
abbrev pub spellings : List OptionContent → List ℕ
spellings options = flat_map spelling options

-- the kind is known, and this is its length byte: 4, 3, 2, or 2 and 8 for each of 1 to 4 blocks
abbrev pub has_own_length : ℕ → ℕ → Bool
has_own_length kind len =
    (kind == 2 && len == 4) || (kind == 3 && len == 3) || (kind == 4 && len == 2)
    || (kind == 5 && (len == 10 || len == 18 || len == 26 || len == 34))

-- the edges of a block are numbers of 32 bits
abbrev pub IsBlock : ℕ × ℕ → Type 0
IsBlock block = (block.0 < 2 ^ 32) × (block.1 < 2 ^ 32)

-- the option has a spelling: its parts are in their ranges, a Sack has 1 to 4 blocks, and an Unknown option doesn't have the
-- length of a known kind
abbrev pub IsSpellable : OptionContent → Type 0
IsSpellable Nop = Unit {0}
IsSpellable (Mss size) = size < 2 ^ 16
IsSpellable (WindowScale shift) = shift < 2 ^ 8
IsSpellable SackPermitted = Unit {0}
IsSpellable (Sack blocks) = (1 ≤ length blocks) × (length blocks ≤ 4) × AllByRecursion IsBlock blocks
IsSpellable (Unknown kind body) = (2 ≤ kind) × (kind < 2 ^ 8) × (length body ≤ 38) × AreBytes body × (has_own_length kind (length body + 2) ≡ false)

abbrev pub AreSpellable : List OptionContent → Type 0
AreSpellable options = AllByRecursion IsSpellable options
