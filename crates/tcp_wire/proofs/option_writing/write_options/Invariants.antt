use Rattle.std.proofs.Common.{◌≡◌, ◌++◌, length, map, take, drop}
use Rattle.tcp_wire.specs.Options.{spellings}
use Rattle.tcp_wire.specs.View.{option_content}
use Rattle.tcp_wire.proofs.option_writing.write_options.Given as goal

abbrev pub invariant-loop-option : goal.invariant-loop-option
invariant-loop-option l =
    (l.out ≡ spellings (map option_content (take l.option-index l.options)) ++ drop l.at l.initial.out)
    × (l.at ≡ length (spellings (map option_content (take l.option-index l.options))))
