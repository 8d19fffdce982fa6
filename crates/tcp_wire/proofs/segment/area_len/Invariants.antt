use Rattle.std.proofs.Common.{◌≡◌, ◌+◌, ◌*◌, ◌<◌, length, map, take}
use Rattle.tcp_wire.specs.Options.{AreSpellable, spellings}
use Rattle.tcp_wire.specs.View.{option_content}
use Rattle.tcp_wire.proofs.segment.area_len.Given as goal

abbrev pub invariant-loop-option : goal.invariant-loop-option
invariant-loop-option l =
    (l.len ≡ length (spellings (map option_content (take l.option-index l.options))) + l.pad)
    × AreSpellable (map option_content (take l.option-index l.options))
    × (l.len < 256 + 40 * l.option-index)
