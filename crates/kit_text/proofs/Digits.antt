-- What a word of digits is, digit by digit.
use Rattle.std.proofs.Common.{◌≡◌, ℕ, ◌+◌, ◌-◌, ◌*◌, ◌<◌, ◌≤◌, ◌&&◌, cond, Bool, true, false, leb, List, [], ◌∷◌, Some, None, refl, arith}
use Rattle.std.proofs.lemmas.Bool.Decides.{nat_tests}
use Rattle.kit_text.specs.Words.{value_from, is_number, number_of}

-- further digits make a number no less
pub value_from-least : (n : ℕ) (ds : List ℕ) → n ≤ value_from n ds
value_from-least n [] = omega arith
value_from-least n (d ∷ ds) = omega (arith, value_from-least (10 * n + (d - 48)) ds)

none_of_both : (b : Bool) (n : ℕ) → None ≡ cond (b && false) (Some n) None
none_of_both true n = refl
none_of_both false n = refl

pub number_of-above : (most : ℕ) (word : List ℕ) → most < value_from 0 word → None ≡ number_of most word
number_of-above most word above =
    let e : leb (value_from 0 word) most ≡ false = grind (arith, nat_tests) in
    rw e (none_of_both (is_number word) (value_from 0 word))
