-- The words for yes and no.
use Rattle.std.specs.Prelude.{ℕ, Bool, true, false, List, codes}

abbrev pub yes_or_no : Bool → List ℕ
yes_or_no true = codes "yes"
yes_or_no false = codes "no"
