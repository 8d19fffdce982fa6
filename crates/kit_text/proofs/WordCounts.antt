-- An address of five numbers or more has no form.
use Rattle.std.proofs.Common.{◌≡◌, ℕ, ◌<◌, true, List, [], ◌∷◌, length, Option, Some, None, is_some, refl, arith, ◌==◌}
use Rattle.std.specs.Borrow.{Bor}
use Rattle.std.proofs.lemmas.List.Splits.{length-slice_split}
use Rattle.kit_text.specs.Words.{further_pieces, octets_of}

octets_of-more : (a b c d : List ℕ) (more : List (List ℕ)) → 0 < length more → octets_of (a ∷ b ∷ c ∷ d ∷ more) ≡ None
octets_of-more a b c d [] some = absurd (omega arith)
octets_of-more a b c d (word ∷ words) some = refl

pub octets_of-five : (a b c d : List ℕ) (at : ℕ) (rest : Option (Bor (List ℕ))) → is_some rest ≡ true → octets_of (a ∷ b ∷ c ∷ d ∷ further_pieces at rest) ≡ None
octets_of-five a b c d at None some = cc
octets_of-five a b c d at (Some rest) some = octets_of-more a b c d _ (omega (arith, length-slice_split (λ b. b == at) rest.now))
