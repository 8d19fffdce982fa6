-- A line of four words or more has no form.
use Rattle.std.proofs.Common.{◌≡◌, ℕ, ◌<◌, ◌==◌, true, List, [], ◌∷◌, length, Option, Some, None, is_some, refl, arith}
use Rattle.std.specs.Borrow.{Bor}
use Rattle.std.proofs.lemmas.List.Splits.{length-slice_split}
use Rattle.kit_text.specs.Words.{further_pieces}
use Rattle.kit_commands.specs.Listing.{packet_of_words}

packet_of_words-more : (src dst bytes : List ℕ) (more : List (List ℕ)) → 0 < length more → packet_of_words (src ∷ dst ∷ bytes ∷ more) ≡ None
packet_of_words-more src dst bytes [] some = absurd (omega arith)
packet_of_words-more src dst bytes (word ∷ words) some = refl

pub packet_of_words-four : (src dst bytes : List ℕ) (rest : Option (Bor (List ℕ))) → is_some rest ≡ true → packet_of_words (src ∷ dst ∷ bytes ∷ further_pieces 32 rest) ≡ None
packet_of_words-four src dst bytes None some = cc
packet_of_words-four src dst bytes (Some rest) some = packet_of_words-more src dst bytes _ (omega (arith, length-slice_split (λ b. b == 32) rest.now))
