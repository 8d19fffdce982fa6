use Rattle.std.proofs.Common.{◌≡◌, ◌++◌, map, drop, string_bytes, codes}
use Rattle.std.specs.List.{flat_map}
use Rattle.tcp_wire.specs.View.{option_content}
use Rattle.kit_text.specs.Texts.{option_text, options_text}
use Rattle.kit_text.proofs.options.push_options.Given as goal

abbrev pub invariant-loop-option : goal.invariant-loop-option
invariant-loop-option g l =
    string_bytes l.text ++ flat_map (λ option. codes "," ++ option_text option) (map option_content (drop l.option-index l.others))
    ≡ string_bytes l.fn.text ++ options_text (map option_content l.options)
