use Rattle.std.proofs.Common.{◌≡◌, ◌+◌, ◌-◌, ◌≤◌, ltb, length, drop}
use Rattle.std.specs.List.{position_or_len}
use Rattle.kit_text.proofs.lines.ascii_loads.Given as goal

abbrev pub invariant-loop-i : goal.invariant-loop-i
invariant-loop-i l =
    (l.i ≤ length l.text)
    × (position_or_len (λ x. ltb 127 x) l.text ≡ l.i + position_or_len (λ x. ltb 127 x) (drop l.i l.text))

abbrev pub decreases-loop-i : goal.decreases-loop-i
decreases-loop-i l = length l.text - l.i
