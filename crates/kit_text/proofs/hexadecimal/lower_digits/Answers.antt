use Rattle.std.proofs.Common.{ltb, cond, ◌∙◌, refl}
use Rattle.kit_text.specs.HexLanes.{digit_of}
use Rattle.kit_text.proofs.LaneByLane.{joined, chosen, splat_is, itself, same_lanes}
use Rattle.kit_text.proofs.hexadecimal.lower_digits.Goals as goal

pub returns : goal.returns
returns c =
    let v = c.args.values in
    let long = c.fits-values.0 in
    let above = joined (λ a b. cond (ltb a b) 255 0) _ _ v (splat_is v 16 9 long) (itself v) in
    let base = chosen _ _ _ v above (splat_is v 16 87 long) (splat_is v 16 48 long) in
    joined _ _ _ v (itself v) base ∙ same_lanes _ digit_of refl v c.fits-values.1
