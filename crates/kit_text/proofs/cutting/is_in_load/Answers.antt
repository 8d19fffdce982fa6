use Rattle.std.proofs.Common.{ap₂, ◌||◌, ◌∙◌}
use Rattle.std.proofs.lemmas.List.{take_rest}
use Rattle.kit_text.proofs.Blocks.{four_blocks}
use Rattle.kit_text.proofs.cutting.is_in_load.Goals as goal

pub returns : goal.returns
returns c =
    let bytes = c.args.bytes.now in
    ap₂ (λ a b. a || b) (ap₂ (λ a b. a || b) (ap₂ (λ a b. a || b) c.is_in_block.ensures c.is_in_block-2.ensures) c.is_in_block-3.ensures) c.is_in_block-4.ensures
    ∙ four_blocks c.args.at bytes _ _ _ (take_rest bytes 16) (take_rest bytes 32) (take_rest bytes 48)
