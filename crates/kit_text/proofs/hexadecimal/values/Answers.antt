use Rattle.std.proofs.Common.{ℕ, ◌∙◌, refl}
use Rattle.std.proofs.lemmas.Simd.{zip2_splat}
use Rattle.kit_text.specs.HexLanes.{lane_of}
use Rattle.kit_text.proofs.LaneByLane.{joined, chosen, splat_is, same_lanes}
use Rattle.kit_text.proofs.hexadecimal.values.Goals as goal

pub returns : goal.returns
returns c =
    let v = c.args.digits in
    let long = c.fits-digits.0 in
    let numeral = zip2_splat {Y = ℕ} _ v 32 48 long in
    let letter = joined _ _ _ v (zip2_splat {Y = ℕ} _ v 32 32 long) (splat_is v 32 97 long) in
    let least = chosen _ _ _ v (joined _ _ _ v letter (splat_is v 32 245 long)) letter (splat_is v 32 245 long) in
    let moved = joined _ _ _ v least (splat_is v 32 10 long) in
    chosen _ _ _ v (joined _ _ _ v numeral (splat_is v 32 10 long)) numeral moved ∙ same_lanes _ lane_of refl v c.fits-digits.1
