-- A line of five words or more has no form.
use Rattle.std.proofs.Common.{◌≡◌, ℕ, ◌<◌, ◌==◌, true, List, [], ◌∷◌, length, Option, Some, None, is_some, refl, arith}
use Rattle.std.specs.Borrow.{Bor}
use Rattle.std.proofs.lemmas.List.Splits.{length-slice_split}
use Rattle.kit_text.specs.Words.{further_pieces}
use Rattle.kit_judge.specs.Logs.{passage_of_words}

passage_of_words-more : (word src dst bytes : List ℕ) (more : List (List ℕ)) → 0 < length more → passage_of_words (word ∷ src ∷ dst ∷ bytes ∷ more) ≡ None
passage_of_words-more word src dst bytes [] some = absurd (omega arith)
passage_of_words-more word src dst bytes (next ∷ words) some = refl

pub passage_of_words-five : (word src dst bytes : List ℕ) (rest : Option (Bor (List ℕ))) → is_some rest ≡ true → passage_of_words (word ∷ src ∷ dst ∷ bytes ∷ further_pieces 32 rest) ≡ None
passage_of_words-five word src dst bytes None some = cc
passage_of_words-five word src dst bytes (Some rest) some = passage_of_words-more word src dst bytes _ (omega (arith, length-slice_split (λ b. b == 32) rest.now))
