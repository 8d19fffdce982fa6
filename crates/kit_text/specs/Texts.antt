-- The text forms of bytes, blocks and options.
use Rattle.std.specs.Prelude.{ℕ, List, [], ◌∷◌, ◌++◌, codes, decimal}
use Rattle.hex.specs.Hex.{encode_lower}
use Rattle.tcp_wire.specs.Options.{OptionContent, Nop, Mss, WindowScale, SackPermitted, Sack, Unknown}
use Rattle.tcp_wire.specs.Texts.{list_text}

-- BYTES in lower case hexadecimal, or `-` for none
abbrev pub bytes_text : List ℕ → List ℕ
bytes_text [] = codes "-"
bytes_text (b ∷ bytes) = encode_lower (b ∷ bytes)

-- BLOCKS of selective acknowledgement (RFC 2018, 3): left edge and the number after the last, joined by `+`
abbrev pub block_text : ℕ × ℕ → List ℕ
block_text block = decimal block.0 ++ (codes "-" ++ decimal block.1)

unfoldable pub blocks_text : List (ℕ × ℕ) → List ℕ
blocks_text blocks = list_text block_text (codes "+") blocks

-- OPTIONS (RFC 9293, 3.1; RFC 7323, 2; RFC 2018, 2 and 3), joined by commas
abbrev pub option_text : OptionContent → List ℕ
option_text Nop = codes "nop"
option_text (Mss size) = codes "mss:" ++ decimal size
option_text (WindowScale shift) = codes "ws:" ++ decimal shift
option_text SackPermitted = codes "sackok"
option_text (Sack blocks) = codes "sack:" ++ blocks_text blocks
option_text (Unknown kind body) = codes "kind" ++ (decimal kind ++ (codes ":" ++ bytes_text body))

unfoldable pub options_text : List OptionContent → List ℕ
options_text options = list_text option_text (codes ",") options
