use Rattle.std.proofs.Common.{ℕ, ap, ◌∙◌}
use Rattle.std.specs.Prelude.{bit_and, nat_eq}
use Rattle.kit_text.proofs.HighBits.{high_bits, all_clear}
use Rattle.kit_text.proofs.lines.is_ascii_word.Goals as goal

pub returns : goal.returns
returns c =
    ap (λ (n : ℕ). nat_eq (bit_and n (high_bits 8)) 0) c.read_u64.ensures ∙ all_clear 8 c.args.bytes.now c.requires (λ i. (c.type_inv.bytes i).fits)
