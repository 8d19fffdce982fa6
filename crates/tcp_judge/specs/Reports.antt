-- THE BLOCKS that a segment reports (RFC 2018, 3 and 4), by what came.
use Rattle.std.specs.Prelude.{ℕ, Bool, true, false, ◌&&◌, ◌||◌, not, if◌then◌else◌, List, [], ◌∷◌, Option, Some, None}
use Rattle.std.specs.Option.{option_or}
use Rattle.tcp_numbers.specs.declared.seq.Seq.{Seq}
use Rattle.tcp_wire.specs.Options.{OptionContent, Sack}
use Rattle.tcp_wire.specs.Wire.{Content}
use Rattle.tcp_judge.specs.Heard.{Heard, is_from, goes_on}
use Rattle.tcp_judge.specs.declared.finding.Finding.{Finding}
use Rattle.tcp_judge.specs.declared.finding.Finding.TheVariants.{BlockBeyond}

abbrev pub is_report : OptionContent → Bool
is_report (Sack blocks) = true
is_report other = false

abbrev pub any_report : List OptionContent → Bool
any_report [] = false
any_report (option ∷ options) = is_report option || any_report options

-- blocks are reported only where a SYN that came permitted them (RFC 2018, 4)
abbrev pub lacks_permission : Heard → Content → Bool
lacks_permission h v = any_report v.options && not h.sack

-- A BLOCK is of numbers that came, from its left edge up to its right one, without a gap (RFC 2018, 3). Where it begins before
-- the furthest acknowledgement, that of its own segment included, only its edges are looked at: it is of duplicates (RFC 2883, 4)
-- or of an earlier time, and what came there is forgotten
abbrev pub is_ahead : Option Seq → ℕ × ℕ → Bool
is_ahead None block = true
is_ahead (Some acked_number) block = is_from acked_number.0 block.0

abbrev pub is_block : Option Seq → List (Seq × ℕ) → ℕ × ℕ → Bool
is_block acked_number spans block = is_from block.0 block.1 && (not (is_ahead acked_number block) || goes_on spans block.0 block.1)

-- the first that isn't
abbrev pub block_finding : Option Seq → List (Seq × ℕ) → List (ℕ × ℕ) → Option Finding
block_finding acked_number spans [] = None
block_finding acked_number spans (block ∷ blocks) =
    if is_block acked_number spans block
    then block_finding acked_number spans blocks
    else Some (BlockBeyond (record { 0 = block.0 }) (record { 0 = block.1 }))

abbrev pub option_finding : Option Seq → List (Seq × ℕ) → OptionContent → Option Finding
option_finding acked_number spans (Sack blocks) = block_finding acked_number spans blocks
option_finding acked_number spans other = None

abbrev pub options_finding : Option Seq → List (Seq × ℕ) → List OptionContent → Option Finding
options_finding acked_number spans [] = None
options_finding acked_number spans (option ∷ options) = option_or (option_finding acked_number spans option) (options_finding acked_number spans options)
