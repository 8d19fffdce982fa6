-- Names that are written one after another come to the list of the set ones.
use Rattle.std.proofs.Common.{arith, refl, ℕ, Bool, true, false, List, [], ◌∷◌, ◌++◌, ◌≡◌, codes, if◌then◌else◌}
use Rattle.std.proofs.lemmas.Grind.{common_steps}
use Rattle.std.specs.List.{join_by, flat_map}
use Rattle.tcp_numbers.specs.Texts.{listed, set_names}

-- the names of the set ones, joined by commas; nothing where none is set
abbrev pub joined : List (List ℕ) → List ℕ
joined names = join_by (λ name. name) (codes ",") names

abbrev pub is_none : List (List ℕ) → Bool
is_none [] = true
is_none (name ∷ names) = false

flat_map_more : (names : List (List ℕ)) (name : List ℕ)
    → flat_map (λ x. codes "," ++ x) (names ++ name ∷ []) ≡ flat_map (λ x. codes "," ++ x) names ++ codes "," ++ name
flat_map_more [] name = grind (arith, common_steps)
flat_map_more (first ∷ names) name = grind (arith, common_steps, flat_map_more names name)

pub joined_more : (names : List (List ℕ)) (name : List ℕ) → joined names ++ listed (is_none names) name ≡ joined (names ++ name ∷ [])
joined_more [] name = grind (arith, common_steps)
joined_more (first ∷ names) name = grind (arith, common_steps, flat_map_more names name)

pub set_more : (items : List (Bool × List ℕ)) (is_set : Bool) (name : List ℕ)
    → set_names (items ++ (is_set, name) ∷ []) ≡ set_names items ++ (if is_set then name ∷ [] else [])
set_more [] true name = refl
set_more [] false name = refl
set_more ((true, first) ∷ items) is_set name = grind (arith, common_steps, set_more items is_set name)
set_more ((false, first) ∷ items) is_set name = set_more items is_set name

pub none_more : (names : List (List ℕ)) (name : List ℕ) → is_none (names ++ name ∷ []) ≡ false
none_more [] name = refl
none_more (first ∷ names) name = refl
