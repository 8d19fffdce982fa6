use Rattle.std.proofs.Common.{◌≡◌, map, drop}
use Rattle.tcp_wire.specs.View.{option_content}
use Rattle.kit_text.specs.Segments.{first_blocks}
use Rattle.kit_text.proofs.segments.first_blocks.Given as goal

abbrev pub invariant-loop-option : goal.invariant-loop-option
invariant-loop-option l = first_blocks (map option_content (drop l.option-index l.options)) ≡ first_blocks (map option_content l.options)
