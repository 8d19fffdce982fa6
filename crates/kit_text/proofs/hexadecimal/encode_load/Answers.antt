use Rattle.std.proofs.Common.{ℕ, List, [], ◌∷◌, map, take, refl, ap, ap₂, ◌++◌, ◌∙◌, w8}
use Rattle.std.proofs.lemmas.Simd.{length-chunk, chunk-fits, zip2_splat, take_more_put_chunk, map-map}
use lib.Lanes.{pick_l}
use Rattle.kit_text.specs.HexLanes.{digit_of}
use Rattle.kit_text.proofs.Encoding.{woven, weave_encodes}
use Rattle.kit_text.proofs.hexadecimal.encode_load.Goals as goal

pub returns-clause-written : goal.returns-clause-written
returns-clause-written c =
    let v : List ℕ = take 16 c.args.bytes.now in
    let long = length-chunk 0 16 c.args.bytes.now c.requires.bytes in
    let high = c.lower_digits-high.ensures ∙ ap (map digit_of) (zip2_splat {Y = ℕ} _ v 16 4 long) ∙ map-map digit_of _ v in
    let low = c.lower_digits-low.ensures ∙ ap (map digit_of) (zip2_splat {Y = ℕ} _ v 16 15 long) ∙ map-map digit_of _ v in
    take_more_put_chunk 0 c.args.digits.now _ 32 refl c.requires.room
    ∙ ap₂ (λ (a b : List ℕ). pick_l 0 (a ++ b) (0 ∷ 16 ∷ 1 ∷ 17 ∷ 2 ∷ 18 ∷ 3 ∷ 19 ∷ 4 ∷ 20 ∷ 5 ∷ 21 ∷ 6 ∷ 22 ∷ 7 ∷ 23 ∷ 8 ∷ 24 ∷ 9 ∷ 25 ∷ 10 ∷ 26 ∷ 11 ∷ 27 ∷ 12 ∷ 28 ∷ 13 ∷ 29 ∷ 14 ∷ 30 ∷ 15 ∷ 31 ∷ [])) high low
    ∙ woven _ _ v long
    ∙ weave_encodes _ _ refl refl v (chunk-fits w8 0 16 c.args.bytes.now c.type_inv.bytes)
