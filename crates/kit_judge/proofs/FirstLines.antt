-- The lines of findings of which the first may be left out.
use Rattle.std.proofs.Common.{◌≡◌, ◌++◌, ℕ, Bool, true, false, if◌then◌else◌, List, [], ◌∷◌, refl, arith}
use Rattle.std.proofs.lemmas.Grind.{common_steps}
use Rattle.kit_judge.specs.Findings.{finding_lines}
use Rattle.kit_judge.specs.Verdict.{Found, is_among, unless_among}

lines-if : (b : Bool) (found : Found) (later : List Found) → finding_lines (if b then later else found ∷ later) ≡ finding_lines (if b then [] else found ∷ []) ++ finding_lines later
lines-if true found later = refl
lines-if false found later = grind (arith, common_steps)

pub finding_lines_unless : (rules : List ℕ) (found : Found) (later : List Found) → finding_lines (unless_among rules found later) ≡ finding_lines (unless_among rules found []) ++ finding_lines later
finding_lines_unless rules found later = lines-if (is_among rules found) found later
