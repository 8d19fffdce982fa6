-- What some words request.
use Rattle.std.proofs.Common.{◌≡◌, List, [], ◌∷◌, Some, None, refl, codes, ℕ}
use Rattle.std.specs.Str.{chars}
use Rattle.kit_words.specs.Words.{asked_by}

decode_x : asked_by (codes "tcpkit" ∷ codes "decode" ∷ codes "x" ∷ []) ≡ Some (codes "decode", codes "x")
decode_x = refl

replay_x : asked_by (codes "tcpkit" ∷ codes "replay" ∷ codes "x" ∷ []) ≡ Some (codes "replay", codes "x")
replay_x = refl

-- any text is a path after `--`
path_after : (program path : List ℕ) → asked_by (program ∷ codes "replay" ∷ codes "--" ∷ path ∷ []) ≡ Some (codes "replay", path)
path_after program path = refl

no_words : asked_by [] ≡ None
no_words = refl

no_form : (program : List ℕ) → asked_by (program ∷ []) ≡ None
no_form program = refl

no_file : (program : List ℕ) → asked_by (program ∷ codes "replay" ∷ []) ≡ None
no_file program = refl

two_files : (program : List ℕ) → asked_by (program ∷ codes "decode" ∷ codes "x" ∷ codes "y" ∷ []) ≡ None
two_files program = refl

other_form : (program file : List ℕ) → asked_by (program ∷ codes "show" ∷ file ∷ []) ≡ None
other_form program file = refl

help : (program : List ℕ) → asked_by (program ∷ codes "--help" ∷ []) ≡ None
help program = refl

help_of_form : (program : List ℕ) → asked_by (program ∷ codes "decode" ∷ codes "-h" ∷ []) ≡ None
unfolding chars
help_of_form program = refl

-- `-` alone is a path
hyphen : (program : List ℕ) → asked_by (program ∷ codes "decode" ∷ codes "-" ∷ []) ≡ Some (codes "decode", codes "-")
unfolding chars
hyphen program = refl
