use Rattle.std.proofs.Common.{◌≡◌, ◌++◌, length, string_bytes, codes}
use Rattle.std.specs.List.{flat_map}
use Rattle.kit_text.specs.Texts.{option_text, options_text}
use Rattle.kit_text.proofs.options.push_options_left.Given as goal

abbrev pub invariant-loop-option : goal.invariant-loop-option
invariant-loop-option g l =
    string_bytes l.text ++ flat_map (λ option. codes "," ++ option_text option) l.left
    ≡ string_bytes l.fn.text ++ options_text l.fn.options

abbrev pub decreases-loop-option : goal.decreases-loop-option
decreases-loop-option g l = length l.left
