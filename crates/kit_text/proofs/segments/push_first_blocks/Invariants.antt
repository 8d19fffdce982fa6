use Rattle.std.proofs.Common.{◌≡◌, length, string_bytes}
use Rattle.kit_text.specs.Segments.{first_blocks}
use Rattle.kit_text.proofs.segments.push_first_blocks.Given as goal

-- nothing is written yet, and no option with blocks was taken
abbrev pub invariant-loop-option : goal.invariant-loop-option
invariant-loop-option g l = record {
  text : string_bytes l.text ≡ string_bytes l.fn.text;
  blocks : first_blocks l.left ≡ first_blocks l.initial.left;
}

abbrev pub decreases-loop-option : goal.decreases-loop-option
decreases-loop-option g l = length l.left
