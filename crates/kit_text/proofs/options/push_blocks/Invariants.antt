use Rattle.std.proofs.Common.{◌≡◌, ◌++◌, map, drop, string_bytes, codes}
use Rattle.std.specs.List.{flat_map}
use Rattle.tcp_wire.specs.View.{block}
use Rattle.kit_text.specs.Texts.{block_text, blocks_text}
use Rattle.kit_text.proofs.options.push_blocks.Given as goal

abbrev pub invariant-loop-edges : goal.invariant-loop-edges
invariant-loop-edges g l =
    string_bytes l.text ++ flat_map (λ edges. codes "+" ++ block_text edges) (map block (drop l.edges-index l.others))
    ≡ string_bytes l.fn.text ++ blocks_text (map block l.blocks)
