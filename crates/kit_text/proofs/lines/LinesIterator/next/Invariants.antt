use Rattle.std.proofs.Common.{◌≡◌, ◌+◌, length}
use Rattle.std.specs.Option.{option_map_or}
use Rattle.kit_text.specs.Lines.{lines_left, CanCount}
use Rattle.kit_text.proofs.lines.LinesIterator.next.Given as goal

abbrev pub invariant-loop-self : goal.invariant-loop-self
invariant-loop-self l =
    (lines_left l.self-inside.count l.self-inside.rest ≡ l.fn.self)
    × CanCount l.self-inside.count l.self-inside.rest

abbrev pub decreases-loop-self : goal.decreases-loop-self
decreases-loop-self l = option_map_or (λ rest. length rest.now + 1) l.self-inside.rest 0
