-- A line with a word too many has no form.
use Rattle.std.proofs.Common.{◌≡◌, ℕ, ◌<◌, ◌==◌, true, List, [], ◌∷◌, length, Option, Some, None, is_some, refl, arith}
use Rattle.std.specs.Borrow.{Bor}
use Rattle.std.proofs.lemmas.List.Splits.{length-slice_split}
use Rattle.tcp_replay.specs.declared.event.Side.{Side}
use Rattle.kit_text.specs.Words.{further_pieces}
use Rattle.kit_script.specs.declared.names.Kind.{Kind}
use Rattle.kit_script.specs.Statements.{event_of, setting_of_words}
use Rattle.kit_script.specs.Added.{config_of_words}

event_of-more : (kind : Kind) (side : Side) (k place value : List ℕ) (more : List (List ℕ)) → 0 < length more → event_of kind side (k ∷ place ∷ value ∷ more) ≡ None
event_of-more kind side k place value [] some = absurd (omega arith)
event_of-more kind side k place value (word ∷ words) some = refl

pub event_of-four : (kind : Kind) (side : Side) (k place value : List ℕ) (rest : Option (Bor (List ℕ))) → is_some rest ≡ true → event_of kind side (k ∷ place ∷ value ∷ further_pieces 32 rest) ≡ None
event_of-four kind side k place value None some = cc
event_of-four kind side k place value (Some rest) some = event_of-more kind side k place value _ (omega (arith, length-slice_split (λ b. b == 32) rest.now))

setting_of_words-more : (side key value : List ℕ) (more : List (List ℕ)) → 0 < length more → setting_of_words (side ∷ key ∷ value ∷ more) ≡ None
setting_of_words-more side key value [] some = absurd (omega arith)
setting_of_words-more side key value (word ∷ words) some = refl

pub setting_of_words-four : (side key value : List ℕ) (rest : Option (Bor (List ℕ))) → is_some rest ≡ true → setting_of_words (side ∷ key ∷ value ∷ further_pieces 32 rest) ≡ None
setting_of_words-four side key value None some = cc
setting_of_words-four side key value (Some rest) some = setting_of_words-more side key value _ (omega (arith, length-slice_split (λ b. b == 32) rest.now))

config_of_words-more : (version : ℕ) (side key value : List ℕ) (more : List (List ℕ)) → 0 < length more → config_of_words version (side ∷ key ∷ value ∷ more) ≡ None
config_of_words-more version side key value [] some = absurd (omega arith)
config_of_words-more version side key value (word ∷ words) some = refl

pub config_of_words-four : (version : ℕ) (side key value : List ℕ) (rest : Option (Bor (List ℕ))) → is_some rest ≡ true → config_of_words version (side ∷ key ∷ value ∷ further_pieces 32 rest) ≡ None
config_of_words-four version side key value None some = cc
config_of_words-four version side key value (Some rest) some = config_of_words-more version side key value _ (omega (arith, length-slice_split (λ b. b == 32) rest.now))
