-- THE FIRST of four findings.
use Rattle.std.proofs.Common.{◌≡◌, refl, Option, Some, None}
use Rattle.std.specs.Option.{option_or}

pub option_or_four : {A : Type 0} (a b c d : Option A) → option_or (option_or (option_or a b) c) d ≡ option_or a (option_or b (option_or c d))
option_or_four None None c d = refl
option_or_four None (Some x) c d = refl
option_or_four (Some x) b c d = refl
