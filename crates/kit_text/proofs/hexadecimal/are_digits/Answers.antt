use Rattle.std.proofs.Common.{◌≡◌, ℕ, leb, ltb, Bool, true, false, not, cond, refl, arith}
use lib.Lanes.{top}
use Rattle.kit_text.proofs.LaneByLane.{joined, splat_is, itself, none_fails}
use Rattle.kit_text.proofs.hexadecimal.are_digits.Goals as goal

set_where : (x : ℕ) → top 7 (cond (leb 16 x) 255 0) ≡ not (ltb x 16)
set_where x = go (leb 16 x) (ltb x 16) refl refl
  where
    go : (a b : Bool) → leb 16 x ≡ a → ltb x 16 ≡ b → top 7 (cond a 255 0) ≡ not b
    go true false p q = refl
    go false true p q = refl
    go true true p q = absurd (grind arith)
    go false false p q = absurd (grind arith)

pub returns : goal.returns
returns c =
    let v = c.args.values in
    none_fails _ (λ x. ltb x 16) set_where v (omega (arith, c.fits-values.0)) (joined (λ a b. cond (leb a b) 255 0) _ _ v (splat_is v 32 16 c.fits-values.0) (itself v))
